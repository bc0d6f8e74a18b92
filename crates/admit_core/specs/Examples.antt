-- Worked cases: tokens, settings and results at a node.
use Rattle.std.specs.Prelude.{ℕ, List, codes, Option, Some}
use Rattle.hmac_core.specs.declared.hash.Hash.{Hash}
use Rattle.hmac_core.specs.declared.hash.Hash.TheVariants.{Sha1, Sha256}
use Rattle.otp_core.specs.Examples.{secret_of_20, secret_of_32}
use Rattle.otp_core.specs.Limits.{Limits, limits_of}
use Rattle.otp_core.specs.declared.digits.Digits.{Digits}
use Rattle.otp_core.specs.declared.digits.Digits.TheVariants.{Six, Eight}
use Rattle.token_file.specs.Credential.{Credential}
use Rattle.token_file.specs.declared.token.Kind.{Kind}
use Rattle.token_file.specs.declared.token.Kind.TheVariants.{Event, Time30}
use Rattle.token_file.specs.declared.token.Password.{Password}
use Rattle.token_file.specs.declared.token.Password.TheVariants.{NoneAllowed, Equal}

-- a token of a password, a secret, a kind, digits and a hash
abbrev pub token_of : Password → List ℕ → Kind → Digits → Hash → Credential
token_of password secret kind digits hash =
    record {
      name = codes "silver";
      password = password;
      secret = secret;
      kind = kind;
      digits = digits;
      hash = hash;
    }

-- a token of six digits with the secret of RFC 4226, appendix D, and no password
abbrev pub token_of_kind : Kind → Credential
token_of_kind kind = token_of NoneAllowed secret_of_20 kind Six Sha1

-- an event token whose codes at the factors 0 and 1 are equal: 132707
abbrev pub token_of_equal_codes : Credential
token_of_equal_codes = token_of NoneAllowed (codes "k40154") Event Six Sha1

-- the token of RFC 6238, appendix B, for SHA-256
abbrev pub token_of_sha256 : Credential
token_of_sha256 = token_of NoneAllowed secret_of_32 Time30 Eight Sha256

-- an event token with a password
abbrev pub token_with : Password → Credential
token_with password = token_of password secret_of_20 Event Six Sha1

-- a password that is checked
abbrev pub checked : Password
checked = Equal (record { items = codes "pw" })

-- the right password in a line
abbrev pub right : Option (List ℕ)
right = Some (codes "pw")

-- a wrong password in a line
abbrev pub wrong : Option (List ℕ)
wrong = Some (codes "pW")

-- a look-ahead of 3, a skew of 1, a range of 8 and no drift
abbrev pub some_limits : Limits
some_limits = limits_of 3 1 8

-- a look-ahead of 3, a skew of 1, a range of 8 and the given drift
abbrev pub drifting : ℕ → Limits
drifting drift = record some_limits { drift = drift }
