-- The seed of a token: by what its secret is known in other tokens. It stays the same if the device gets another user.
use Rattle.std.specs.Prelude.{◌≡◌, ℕ, List, [], ◌∷◌, codes}
use Rattle.std.specs.List.{join_with_byte}
use Rattle.hex.specs.Hex.{encode_lower}
use Rattle.token_file.specs.Credential.{Credential}
use Rattle.token_file.specs.Writing.{kind_word}
use Rattle.token_names.specs.Names.{short_mac}

-- the word `seed`, the kind, and the secret in lower case hexadecimal
abbrev pub seed_fields : Credential → List (List ℕ)
seed_fields credential = codes "seed" ∷ kind_word credential.kind ∷ encode_lower credential.secret ∷ []

-- the fields with a TAB between them
abbrev pub seed_text : Credential → List ℕ
seed_text credential = join_with_byte 9 (seed_fields credential)

-- the seed of a token: the MAC of this text under the salt
abbrev pub seed_of : List ℕ → Credential → List ℕ
seed_of salt credential = short_mac salt (seed_text credential)

-- the same kind and secret
pub record IsSameDevice (a b : Credential) : Type 0 where
  pub kind : a.kind ≡ b.kind
  pub secret : a.secret ≡ b.secret
