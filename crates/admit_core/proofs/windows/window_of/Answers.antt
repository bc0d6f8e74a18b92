use Rattle.std.proofs.Common.{◌≡◌, ℕ, ℤ, pos, ◌+ℤ◌, Some, None, IfNone, sym, ◌∙◌, subst, arith}
use Rattle.std.proofs.lemmas.Int.{ints}
use Rattle.otp_core.specs.Limits.{allowed_drift}
use Rattle.otp_core.specs.Totp.{step_of}
use Rattle.token_file.specs.Credential.{period_of}
use Rattle.admit_core.specs.Window.{IsWithinSkew}
use Rattle.admit_core.proofs.windows.window_of.Goals as goal

pub returns-in-Some-clause-none : goal.returns-in-Some-clause-none
returns-in-Some-clause-none c =
    let is : period_of c.args.kind ≡ Some c.in-Some.period = sym c.period.ensures.value ∙ c.in-Some.is in
    let drift_is : c.allowed-drift.result ≡ allowed_drift c.args.settings.now c.args.drift = grind (arith, ints, c.allowed-drift.ensures) in
    let none = subst (λ (z : ℤ). IfNone c.steps_around.result
    ((number : ℕ) → IsWithinSkew c.args.next (pos (step_of c.args.moment 0 c.in-Some.period) +ℤ z) c.skew.result number → ⊥)) drift_is c.steps_around.ensures.none in
    rw (is, sym c.skew.ensures.value) none

pub returns-in-None-clause-none : goal.returns-in-None-clause-none
returns-in-None-clause-none c =
    let is : period_of c.args.kind ≡ None = sym c.period.ensures.value ∙ c.in-None.is in
    rw is c.reach_from.ensures.none
