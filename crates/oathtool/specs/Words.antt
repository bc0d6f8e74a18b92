-- The command line, as values that clap found.
use Rattle.std.specs.Prelude.{◌≡◌, ℕ, ◌≤◌, Bool, true, false, List, map, Option, Some, None, codes, option_map}
use Rattle.std.specs.Char.{to_ascii_lowercase}
use Rattle.clap.specs.Matches.{first_value, one_text}
use Rattle.clap.specs.declared.parser.matches.Found.{Found}
use Rattle.command_line.specs.Number.{number_at}
use Rattle.hmac_core.specs.declared.hash.Hash.{Hash}
use Rattle.hmac_core.specs.declared.hash.Hash.TheVariants.{Sha1, Sha256, Sha512}
use Rattle.otp_core.specs.Digits.{count_of}
use Rattle.otp_core.specs.Range.{IsFactor}
use Rattle.oathtool_core.specs.declared.words.Mode.{Mode}
use Rattle.oathtool_core.specs.declared.words.Mode.TheVariants.{Hotp, Totp}
use Rattle.oathtool_core.specs.declared.words.Words.{Words}

-- a text in lower case
abbrev pub lowercase_of : List ℕ → List ℕ
lowercase_of text = map to_ascii_lowercase text

-- the name of a hash
abbrev pub hash_name : Hash → List ℕ
hash_name Sha1 = codes "SHA1"
hash_name Sha256 = codes "SHA256"
hash_name Sha512 = codes "SHA512"

-- the text is the hash's name, in any case
abbrev pub IsNameOf : List ℕ → Hash → Type 0
IsNameOf text hash = lowercase_of text ≡ lowercase_of (hash_name hash)

-- the mode for a value of `--totp`
abbrev pub IsMode : Option (List ℕ) → Mode → Type 0
IsMode None Hotp = Unit {0}
IsMode None (Totp hash) = ⊥
IsMode (Some text) Hotp = ⊥
IsMode (Some text) (Totp hash) = IsNameOf text hash

-- A flag, as clap reads it.
pub record IsFlag (found : Found) (name : List ℕ) (flag : Bool) : Type 0 where
  pub absent : one_text found name ≡ None → flag ≡ false
  pub given : one_text found name ≡ Some (codes "true") → flag ≡ true
  pub not_given : one_text found name ≡ Some (codes "false") → flag ≡ false

-- The values found are these, each in its range.
pub record AsksFor (found : Found) (words : Words) : Type 0 where
  pub mode : IsMode (first_value found (codes "totp")) words.mode
  pub is_base32 : IsFlag found (codes "base32") words.is_base32
  pub counter : number_at found (codes "counter") ≡ Some words.counter
  pub counter_in : IsFactor words.counter
  pub digits : number_at found (codes "digits") ≡ Some (count_of words.digits)
  pub window : number_at found (codes "window") ≡ Some words.window
  pub window_in : words.window ≤ 1000
  pub step_size : first_value found (codes "time-step-size") ≡ Some words.step_size.now
  pub start : first_value found (codes "start-time") ≡ Some words.start.now
  pub time : first_value found (codes "now") ≡ option_map (λ text. text.now) words.time
  pub key : first_value found (codes "KEY") ≡ Some words.key.now
  pub otp : first_value found (codes "OTP") ≡ option_map (λ text. text.now) words.otp
