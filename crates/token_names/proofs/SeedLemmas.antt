-- Equal texts of seeds are of the same device, and no identity is such a text.
use Rattle.std.proofs.Common.{◌≡◌, ℕ, List, [], ◌∷◌, ◌++◌, drop, refl, sym, ap, ◌∙◌, get_or, arith}
use Rattle.hex.specs.Hex.{encode_lower}
use Rattle.hmac_core.specs.declared.hash.Hash.{Hash}
use Rattle.otp_core.specs.declared.digits.Digits.{Digits}
use Rattle.token_file.specs.Credential.{Credential}
use Rattle.token_file.specs.Writing.{IsCredential, kind_word, type_word}
use Rattle.token_file.specs.declared.token.Kind.{Kind}
use Rattle.token_file.specs.declared.token.Kind.TheVariants.{Event, Time30, Time60}
use Rattle.token_names.specs.Identity.{identity_text}
use Rattle.token_names.specs.Seed.{IsSameDevice, seed_text}
use Rattle.token_names.proofs.IdentityLemmas.{secret_is}

-- the kind and the digits of the secret are those of the text
parts_are : (k l : Kind) (s t : List ℕ) → kind_word k ++ 9 ∷ s ≡ kind_word l ++ 9 ∷ t → (k ≡ l) × (s ≡ t)
parts_are Event Event s t e = (refl, ap (drop 7) e)
parts_are Time30 Time30 s t e = (refl, ap (drop 9) e)
parts_are Time60 Time60 s t e = (refl, ap (drop 9) e)
parts_are Event Time30 s t e = let letter : 69 ≡ 84 = ap (λ xs. get_or xs 5 0) e in absurd (omega (arith, letter))
parts_are Event Time60 s t e = let letter : 69 ≡ 84 = ap (λ xs. get_or xs 5 0) e in absurd (omega (arith, letter))
parts_are Time30 Event s t e = let letter : 84 ≡ 69 = ap (λ xs. get_or xs 5 0) e in absurd (omega (arith, letter))
parts_are Time60 Event s t e = let letter : 84 ≡ 69 = ap (λ xs. get_or xs 5 0) e in absurd (omega (arith, letter))
parts_are Time30 Time60 s t e = let digit : 51 ≡ 54 = ap (λ xs. get_or xs 6 0) e in absurd (omega (arith, digit))
parts_are Time60 Time30 s t e = let digit : 54 ≡ 51 = ap (λ xs. get_or xs 6 0) e in absurd (omega (arith, digit))

pub same_device : (a b : Credential) → IsCredential a → IsCredential b → seed_text a ≡ seed_text b → IsSameDevice a b
same_device a b h k e =
    let parts = parts_are a.kind b.kind (encode_lower a.secret) (encode_lower b.secret) (ap (drop 5) e) in
    record { kind = parts.0; secret = secret_is a b h k parts.1 }

-- an identity begins with `H`
first_byte : (kind : Kind) (digits : Digits) (hash : Hash) (rest : List ℕ) → get_or ((type_word kind digits hash ++ rest) ++ 10 ∷ []) 0 0 ≡ 72
first_byte Event digits hash rest = refl
first_byte Time30 digits hash rest = refl
first_byte Time60 digits hash rest = refl

-- the text of a seed begins with `s`
pub is_no_identity : (a b : Credential) → identity_text a ≡ seed_text b → ⊥
is_no_identity a b e =
    let letter : 72 ≡ 115 =
    sym (first_byte a.kind a.digits a.hash (9 ∷ a.name ++ 9 ∷ encode_lower a.secret)) ∙ ap (λ (xs : List ℕ). get_or xs 0 0) e in
    omega (arith, letter)
