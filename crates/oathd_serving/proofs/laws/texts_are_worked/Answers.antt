use Rattle.std.proofs.Common.{[], inl, inr}
use Rattle.otp_core.specs.Limits.{default_limits}
use Rattle.oathd_serving.proofs.ReloadLemmas.{nothing_taken}
use Rattle.oathd_serving.proofs.laws.texts_are_worked.Goals as goal

pub returns-clause-another : goal.returns-clause-another
returns-clause-another c h = elim h [ inl same ↦ absurd cc | inr taken ↦ nothing_taken default_limits [] taken ]
