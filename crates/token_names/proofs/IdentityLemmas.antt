-- Equal identities are of the same token.
use Rattle.std.proofs.Common.{◌≡◌, ℕ, List, [], ◌∷◌, Some, Result, Ok, sym, ap, ◌∙◌, get_or, arith}
use Rattle.std.specs.Prelude.{◌&&◌}
use Rattle.std.specs.List.{AllByRecursion, join_with_byte}
use Rattle.std.proofs.lemmas.Bool.{and_parts}
use Rattle.std.proofs.lemmas.List.{append_cancel_right}
use Rattle.field_text.specs.Word.{is_word}
use Rattle.hex.specs.Hex.{decode_of, encode_lower}
use Rattle.hex.specs.declared.error.FromHexError.{FromHexError}
use Rattle.hex.proofs.HexLemmas.{decode_of-encode_lower}
use Rattle.token_file.specs.Credential.{Credential, is_hash_of, is_password}
use Rattle.token_file.specs.Fields.{fields_of}
use Rattle.token_file.proofs.FieldLemmas.{IsField}
use Rattle.token_file.specs.TypeWord.{time_type, type_of}
use Rattle.token_file.specs.Writing.{IsCredential, type_word}
use Rattle.token_file.proofs.WritingLemmas.{fields_are, fields_of-joined, type_of-type_word}
use Rattle.token_names.specs.Identity.{IsSameToken, identity_fields, identity_text}

-- the fields of an identity have no blanks
parts_are : (c : Credential) → IsCredential c → AllByRecursion IsField (identity_fields c)
parts_are c h = let f = fields_are c 0 h (omega arith) in (f.0, (f.1.0, (f.1.1.1.0, tt)))

-- the fields are those of the line
line_has : (c : Credential) → IsCredential c → fields_of (join_with_byte 9 (identity_fields c)) ≡ identity_fields c
line_has c h = fields_of-joined (identity_fields c) (parts_are c h)

-- the type is that of its word
type_is : (c : Credential) → IsCredential c → type_of (type_word c.kind c.digits c.hash) ≡ Some (time_type c.kind c.digits c.hash)
type_is c h =
    let parts = and_parts (is_word c.name && is_password c.password) (is_hash_of c.kind c.hash) h.parts in
    type_of-type_word c.kind c.digits c.hash parts.1

same_some : {T : Type 0} (a b : T) → Some a ≡ Some b → a ≡ b
same_some a b e = search e

-- a field of equal types
field_is : {T F : Type 0} (a b : T) → Some a ≡ Some b → (field : T → F) → field a ≡ field b
field_is a b e field = ap field (same_some a b e)

same_secret : (a b : List ℕ) → ◌≡◌ {A = Result (List ℕ) FromHexError} (Ok a) (Ok b) → a ≡ b
same_secret a b e = search e

-- a secret is known by its digits
pub secret_is : (a b : Credential) → IsCredential a → IsCredential b → encode_lower a.secret ≡ encode_lower b.secret → a.secret ≡ b.secret
secret_is a b h k e =
    same_secret a.secret b.secret
    (sym (decode_of-encode_lower a.secret h.bytes) ∙ ap decode_of e ∙ decode_of-encode_lower b.secret k.bytes)

pub same_token : (a b : Credential) → IsCredential a → IsCredential b → identity_text a ≡ identity_text b → IsSameToken a b
same_token a b h k e =
    let line = append_cancel_right (join_with_byte 9 (identity_fields a)) (join_with_byte 9 (identity_fields b)) (10 ∷ []) e in
    let fields = sym (line_has a h) ∙ ap fields_of line ∙ line_has b k in
    let words : type_word a.kind a.digits a.hash ≡ type_word b.kind b.digits b.hash = ap (λ fs. get_or fs 0 []) fields in
    let names : a.name ≡ b.name = ap (λ fs. get_or fs 1 []) fields in
    let secrets : encode_lower a.secret ≡ encode_lower b.secret = ap (λ fs. get_or fs 2 []) fields in
    let type_a = time_type a.kind a.digits a.hash in
    let type_b = time_type b.kind b.digits b.hash in
    let types = sym (type_is a h) ∙ ap type_of words ∙ type_is b k in
    record {
      kind = field_is type_a type_b types (λ t. t.kind);
      digits = field_is type_a type_b types (λ t. t.digits);
      hash = field_is type_a type_b types (λ t. t.hash);
      name = names;
      secret = secret_is a b h k secrets;
    }
