-- The factors that a token accepts at a moment. Floor: the first free factor of a token at a node.
--
-- An event token accepts factors from the floor on (RFC 4226, sections 7.2 and 7.4). A time token accepts factors
-- around the time step at its clock (RFC 6238, sections 5.2 and 6). No token accepts a factor below the floor (RFC
-- 6238, section 5.2: one time only).
use Rattle.std.specs.Prelude.{ℕ, ◌+◌, ◌-◌, ◌^◌, ◌≤◌, ◌↔◌, nat_lt, max, ℤ, pos, negsuc, ◌+ℤ◌, ◌-ℤ◌, ◌≤ℤ◌, List, filter, Option, Some, None}
use Rattle.std.specs.List.{range_with_len}
use Rattle.otp_core.specs.Limits.{Limits}
use Rattle.otp_core.specs.Range.{IsFactor}
use Rattle.otp_core.specs.Totp.{step_of}
use Rattle.token_file.specs.declared.token.Kind.{Kind}
use Rattle.token_file.specs.Credential.{period_of}
use Rattle.admit_core.specs.Drift.{token_step}

-- the window of an event token: the floor and the next `reach` factors
pub record IsWithinReach (next reach number : ℕ) : Type 0 where
  pub free : next ≤ number
  pub near : number ≤ next + reach
  pub factor : IsFactor number

-- the window of a time token: free, and at most `skew` steps before or after the step at its clock
pub record IsWithinSkew (next : ℕ) (step : ℤ) (skew number : ℕ) : Type 0 where
  pub free : next ≤ number
  pub recent : step ≤ℤ pos (number + skew)
  pub near : pos number ≤ℤ (step +ℤ pos skew)
  pub factor : IsFactor number

-- a factor from one number to another
pub record IsFactorBetween (first last number : ℕ) : Type 0 where
  pub from : first ≤ number
  pub to : number ≤ last
  pub factor : IsFactor number

-- the window by the period of the token, None for events, with the reach of an event token, for the stored floor and
-- drift
abbrev pub InPeriodWindow : Option ℕ → ℕ → Limits → ℕ → ℤ → ℕ → ℕ → Type 0
InPeriodWindow None reach limits next drift moment = IsWithinReach next reach
InPeriodWindow (Some period) reach limits next drift moment =
    IsWithinSkew next (token_step limits drift (step_of moment 0 period)) limits.skew

-- the window by the kind of the token
abbrev pub InWindow : Kind → ℕ → Limits → ℕ → ℤ → ℕ → ℕ → Type 0
InWindow kind = InPeriodWindow (period_of kind)

-- the window of one code: an event token has the look-ahead as its reach
abbrev pub InCheckWindow : Kind → Limits → ℕ → ℤ → ℕ → ℕ → Type 0
InCheckWindow kind limits = InWindow kind limits.look_ahead limits

-- the window of two consecutive codes: an event token has the range as its reach (RFC 4226, section 7.4)
abbrev pub InResyncWindow : Kind → Limits → ℕ → ℤ → ℕ → ℕ → Type 0
InResyncWindow kind limits = InWindow kind limits.range limits

-- a nonempty set: the numbers from one to another
pub record AreEnds (InSet : ℕ → Type 0) (first last : ℕ) : Type 0 where
  pub ordered : first ≤ last
  pub members : (number : ℕ) → InSet number ↔ ((first ≤ number) × (number ≤ last))

-- the factors from one number up to but without another, ascending
abbrev pub factors_below : ℕ → ℕ → List ℕ
factors_below first end = filter (λ number. nat_lt number (2 ^ 62)) (range_with_len first (end - first))

-- the number, or 0 if it is negative
abbrev pub from_zero : ℤ → ℕ
from_zero (pos number) = number
from_zero (negsuc less) = 0

-- the free steps around the step at the token's clock, ascending
abbrev pub skew_numbers : ℕ → ℤ → ℕ → List ℕ
skew_numbers next step skew =
    factors_below (max next (from_zero (step -ℤ pos skew))) (from_zero (step +ℤ pos (skew + 1)))

-- the window of a period as a list, ascending
abbrev pub period_window_numbers : Option ℕ → ℕ → Limits → ℕ → ℤ → ℕ → List ℕ
period_window_numbers None reach limits next drift moment = factors_below next (next + reach + 1)
period_window_numbers (Some period) reach limits next drift moment =
    skew_numbers next (token_step limits drift (step_of moment 0 period)) limits.skew

-- the window of a kind as a list, ascending
abbrev pub window_numbers : Kind → ℕ → Limits → ℕ → ℤ → ℕ → List ℕ
window_numbers kind = period_window_numbers (period_of kind)
