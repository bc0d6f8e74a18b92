-- Numbers and flags of several commands.
use Rattle.std.specs.Prelude.{◌≡◌, ◌≤◌, ℕ, Bool, false, List, Option, None, Some, codes}
use Rattle.std.specs.Str.{bytes_eq}
use Rattle.clap.specs.declared.parser.matches.Found.{Found}
use Rattle.command_line.specs.Number.{number_at}
use Rattle.otp_core.specs.Limits.{Limits, AreLimits}

-- The options give the limits, and each is in its range.
pub record GivesLimits (found : Found) (limits : Limits) : Type 0 where
  pub look_ahead_given : number_at found (codes "look-ahead") ≡ Some limits.look_ahead
  pub skew_given : number_at found (codes "skew") ≡ Some limits.skew
  pub range_given : number_at found (codes "range") ≡ Some limits.range
  pub drift_given : number_at found (codes "drift") ≡ Some limits.drift
  pub in_range : AreLimits limits

-- The option `name` gives the number of a member, 1 to 9.
pub record GivesMember (found : Found) (name : List ℕ) (number : ℕ) : Type 0 where
  pub given : number_at found name ≡ Some number
  pub first : 1 ≤ number
  pub last : number ≤ 9

-- whether a flag is given, by clap's value of it
abbrev pub is_flag : Option (List ℕ) → Bool
is_flag None = false
is_flag (Some text) = bytes_eq text (codes "true")
