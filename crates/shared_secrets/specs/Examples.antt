-- Seeds, and tokens with a secret of two bytes.
use Rattle.std.specs.Prelude.{ℕ, [], ◌∷◌, codes}
use Rattle.hmac_core.specs.declared.hash.Hash.TheVariants.{Sha1}
use Rattle.otp_core.specs.declared.digits.Digits.TheVariants.{Six}
use Rattle.token_file.specs.Credential.{Credential}
use Rattle.token_file.specs.declared.token.Kind.{Kind}
use Rattle.token_file.specs.declared.token.Kind.TheVariants.{Event}
use Rattle.token_file.specs.declared.token.Password.TheVariants.{NoneAllowed}
use Rattle.shared_secrets.specs.Seed.{Seed}
use Rattle.shared_secrets.specs.declared.shared.SharedSecret.{SharedSecret}

-- a seed with a secret of one byte
abbrev pub seed : Kind → ℕ → Seed
seed kind byte = record { kind = kind; secret = byte ∷ [] }

-- the seed of an event token with a secret of one byte
abbrev pub event_seed : ℕ → Seed
event_seed byte = seed Event byte

-- the rows of one seed
abbrev pub shared_by : ℕ → ℕ → SharedSecret
shared_by first second = record { first = first; second = second }

-- an event token of the user `u`, with the secret 00 ff
abbrev pub two_bytes : Credential
two_bytes =
    record {
      name = codes "u";
      password = NoneAllowed;
      secret = 0 ∷ 0xff ∷ [];
      kind = Event;
      digits = Six;
      hash = Sha1;
    }
