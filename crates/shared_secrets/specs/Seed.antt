-- The seed of a token: by what its device computes codes.
use Rattle.std.specs.Prelude.{ℕ, List, ◌∷◌, map}
use Rattle.token_file.specs.Credential.{Credential}
use Rattle.token_file.specs.declared.token.Kind.{Kind}
use Rattle.token_file.specs.declared.token.Kind.TheVariants.{Event, Time30, Time60}

-- a kind and a secret: who has the device of one seed has codes for each token of it
pub record Seed : Type 0 where
  pub kind : Kind
  pub secret : List ℕ

-- the seed of a token: the user, the password, the digits and the hash are no part of it
abbrev pub seed_of : Credential → Seed
seed_of credential = record { kind = credential.kind; secret = credential.secret }

-- the seeds of a book, in the order of its rows
abbrev pub seeds_of : List Credential → List Seed
seeds_of book = map seed_of book

-- the byte of a kind in a key
abbrev pub kind_byte : Kind → ℕ
kind_byte Event = 0
kind_byte Time30 = 30
kind_byte Time60 = 60

-- the key of a seed: the byte of its kind, and its secret
abbrev pub key_of : Seed → List ℕ
key_of seed = kind_byte seed.kind ∷ seed.secret
