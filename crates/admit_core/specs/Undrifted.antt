-- The windows without drift (RFC 4226, sections 7.2 and 7.4; RFC 6238, section 5.2): those around the current time
-- step. They equal the windows if the settings allow no drift.
use Rattle.std.specs.Prelude.{ℕ, ◌+◌, ◌-◌, ◌≤◌, max, List, Option, Some, None}
use Rattle.otp_core.specs.Limits.{Limits}
use Rattle.otp_core.specs.Range.{IsFactor}
use Rattle.otp_core.specs.Totp.{step_of}
use Rattle.admit_core.specs.Window.{IsWithinReach, factors_below}

-- free, and at most `skew` steps before or after the current one
pub record IsAroundPresent (next step skew number : ℕ) : Type 0 where
  pub free : next ≤ number
  pub recent : step ≤ number + skew
  pub near : number ≤ step + skew
  pub factor : IsFactor number

-- the window by the period of the token, None for events
abbrev pub InUndriftedWindow : Option ℕ → ℕ → Limits → ℕ → ℕ → ℕ → Type 0
InUndriftedWindow None reach limits next moment = IsWithinReach next reach
InUndriftedWindow (Some period) reach limits next moment = IsAroundPresent next (step_of moment 0 period) limits.skew

-- the window as a list, ascending
abbrev pub undrifted_numbers : Option ℕ → ℕ → Limits → ℕ → ℕ → List ℕ
undrifted_numbers None reach limits next moment = factors_below next (next + reach + 1)
undrifted_numbers (Some period) reach limits next moment =
    let step = step_of moment 0 period in
    factors_below (max next (step - limits.skew)) (step + limits.skew + 1)
