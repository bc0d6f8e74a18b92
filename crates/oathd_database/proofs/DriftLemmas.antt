-- The floors of tokens one after the other, raised by a drift. A floor is the first free factor of a token at a node.
use Rattle.std.proofs.Common.{◌≡◌, ℕ, ◌+◌, ◌≤◌, List, [], ◌∷◌, ◌++◌, length, take, Some, refl, ap, sym, ◌∙◌, arith}
use Rattle.std.specs.Prelude.{slice_get}
use Rattle.std.proofs.lemmas.List.{take_more, take_all, length-take-le}
use Rattle.std.proofs.lemmas.Option.{slice_get_within, get_or_from_slice_get}
use Rattle.token_file.specs.Credential.{Credential, period_of}
use Rattle.token_file.specs.declared.token.Kind.{Kind}
use Rattle.oathd_database.specs.Users.{drifted_floor, drifted_floors}

drifted_more : (drift : ℕ) (book : List Credential) (own : List ℕ) (token : Credential) (floor : ℕ) → length book ≡ length own
    → drifted_floors drift (book ++ token ∷ []) (own ++ floor ∷ []) ≡ drifted_floors drift book own ++ drifted_floor drift (period_of token.kind) floor ∷ []
drifted_more drift [] [] token floor e = refl
drifted_more drift [] (x ∷ own) token floor e = absurd (omega (arith, e))
drifted_more drift (t ∷ book) [] token floor e = absurd (omega (arith, e))
drifted_more drift (t ∷ book) (x ∷ own) token floor e =
    ap (λ floors. drifted_floor drift (period_of t.kind) x ∷ floors) (drifted_more drift book own token floor (omega (arith, e)))

-- one token more
pub drifted_step : (drift : ℕ) (book : List Credential) (own : List ℕ) (place : ℕ) (token : Credential) (floor : ℕ) (kind : Kind) (chosen : ℕ)
    (before after : List ℕ) → slice_get book place ≡ Some token → slice_get own place ≡ Some floor → kind ≡ token.kind
    → chosen ≡ drifted_floor drift (period_of kind) floor → after ≡ before ++ chosen ∷ []
    → before ≡ drifted_floors drift (take place book) (take place own)
    → after ≡ drifted_floors drift (take (place + 1) book) (take (place + 1) own)
drifted_step drift book own place token floor kind chosen before after is of alike chose pushed so_far =
    let within = slice_get_within book place token is in
    let inside = slice_get_within own place floor of in
    let tokens : take (place + 1) book ≡ take place book ++ token ∷ [] =
    take_more book place token within ∙ ap (λ t. take place book ++ t ∷ []) (get_or_from_slice_get book place token token is) in
    let floors : take (place + 1) own ≡ take place own ++ floor ∷ [] =
    take_more own place floor inside ∙ ap (λ t. take place own ++ t ∷ []) (get_or_from_slice_get own place floor floor of) in
    pushed ∙ ap (λ l. l ++ chosen ∷ []) so_far
    ∙ ap (λ n. drifted_floors drift (take place book) (take place own) ++ n ∷ []) (chose ∙ ap (λ (k : Kind). drifted_floor drift (period_of k) floor) alike)
    ∙ sym (ap (λ l. drifted_floors drift l (take (place + 1) own)) tokens ∙ ap (drifted_floors drift (take place book ++ token ∷ [])) floors
    ∙ drifted_more drift (take place book) (take place own) token floor
    (omega (arith, length-take-le place book (omega (arith, within)), length-take-le place own (omega (arith, inside)))))

-- there is one floor for each token
pub drifted_each : (drift : ℕ) (book : List Credential) (own : List ℕ) → length own ≡ length book → length (drifted_floors drift book own) ≡ length book
drifted_each drift [] own e = refl
drifted_each drift (t ∷ book) [] e = absurd (omega (arith, e))
drifted_each drift (t ∷ book) (x ∷ own) e = let rest = drifted_each drift book own (omega (arith, e)) in omega (arith, rest)

pub drifted_all : (drift : ℕ) (book : List Credential) (own items : List ℕ) (place : ℕ) → items ≡ drifted_floors drift (take place book) (take place own)
    → length book ≤ place → length own ≡ length book → length items ≡ length book
drifted_all drift book own items place is all each =
    ap length (is ∙ ap (λ l. drifted_floors drift l (take place own)) (take_all place book all)
    ∙ ap (drifted_floors drift book) (take_all place own (omega (arith, all, each))))
    ∙ drifted_each drift book own each
