-- The drift of a time token's clock from the server's, in time steps (RFC 6238, section 6). It is positive if the clock
-- is ahead, and negative if it lags. An event token has no drift.
use Rattle.std.specs.Prelude.{ℕ, ℤ, pos, ◌+ℤ◌, ◌-ℤ◌, Option, Some, None}
use Rattle.otp_core.specs.Limits.{Limits, allowed_drift}
use Rattle.otp_core.specs.Totp.{step_of}
use Rattle.token_file.specs.Credential.{period_of}
use Rattle.token_file.specs.declared.token.Kind.{Kind}

-- the time step at the token's clock: the current step plus the stored drift, as far as the settings allow it
abbrev pub token_step : Limits → ℤ → ℕ → ℤ
token_step limits drift step = pos step +ℤ allowed_drift limits drift

-- The drift that an acceptance keeps, by the period of the token, None for events. It is the last factor less the step
-- at which the line was received, brought to the nearest drift that the settings allow.
abbrev pub kept_drift_of : Option ℕ → Limits → ℕ → ℕ → ℤ
kept_drift_of None limits moment hi = pos 0
kept_drift_of (Some period) limits moment hi = allowed_drift limits (pos hi -ℤ pos (step_of moment 0 period))

-- the drift that an acceptance keeps, by the kind of the token
abbrev pub kept_drift : Kind → Limits → ℕ → ℕ → ℤ
kept_drift kind = kept_drift_of (period_of kind)
