-- How far a server looks for a code. Floor: the first free factor of a token.
use Rattle.std.specs.Prelude.{ℕ, ◌≤◌, ℤ, pos, neg_ℤ}
use Rattle.std.specs.Int.{int_max, int_min}

-- the settings of a server
pub record Limits : Type 0 where
  -- factors above the floor, for a check of an event token (RFC 4226, section 7.2)
  pub look_ahead : ℕ
  -- time steps before and after the current one (RFC 6238, section 5.2)
  pub skew : ℕ
  -- factors above the floor, for a resynchronization of an event token (RFC 4226, section 7.4)
  pub range : ℕ
  -- time steps by which the clock of a time token may have drifted, ahead or behind (RFC 6238, section 6)
  pub drift : ℕ

-- settings with a look-ahead, a skew and a range, and no drift
abbrev pub limits_of : ℕ → ℕ → ℕ → Limits
limits_of look_ahead skew range = record { look_ahead = look_ahead; skew = skew; range = range; drift = 0 }

-- the ranges of the four numbers
abbrev pub AreLimits : Limits → Type 0
AreLimits limits = (limits.look_ahead ≤ 100) × (limits.skew ≤ 10) × (limits.range ≤ 1000) × (limits.drift ≤ 10)

-- the settings of a server without options for them
abbrev pub default_limits : Limits
default_limits = limits_of 10 1 100

-- the drift nearest to `steps` that the settings allow
abbrev pub allowed_drift : Limits → ℤ → ℤ
allowed_drift limits steps = int_max (neg_ℤ (pos limits.drift)) (int_min steps (pos limits.drift))
