-- The identity of a token: what stays the same whichever row, password or counter the token has.
use Rattle.std.specs.Prelude.{◌≡◌, ℕ, List, [], ◌∷◌, ◌++◌}
use Rattle.std.specs.List.{join_with_byte}
use Rattle.hex.specs.Hex.{encode_lower}
use Rattle.token_file.specs.Credential.{Credential}
use Rattle.token_file.specs.Writing.{type_word}

-- the type with its digits, the user, and the secret in lower case hexadecimal, as a written row has them
abbrev pub identity_fields : Credential → List (List ℕ)
identity_fields credential =
    type_word credential.kind credential.digits credential.hash ∷ credential.name ∷ encode_lower credential.secret ∷ []

-- the fields with a TAB between them, and an LF
abbrev pub identity_text : Credential → List ℕ
identity_text credential = join_with_byte 9 (identity_fields credential) ++ 10 ∷ []

-- the same type, user and secret
pub record IsSameToken (a b : Credential) : Type 0 where
  pub kind : a.kind ≡ b.kind
  pub digits : a.digits ≡ b.digits
  pub hash : a.hash ≡ b.hash
  pub name : a.name ≡ b.name
  pub secret : a.secret ≡ b.secret
