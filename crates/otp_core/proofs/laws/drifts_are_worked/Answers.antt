-- The ends are compared.
use Rattle.std.proofs.Common.{arith}
use Rattle.std.proofs.lemmas.Int.{ints}
use Rattle.otp_core.proofs.laws.drifts_are_worked.Goals as goal

pub returns-clause-drifts : goal.returns-clause-drifts
returns-clause-drifts c = ((omega (arith, ints), omega (arith, ints)), (omega (arith, ints), omega (arith, ints)))

pub returns-clause-beyond : goal.returns-clause-beyond
returns-clause-beyond c = (λ h. let e = h.0 in omega (arith, ints, e), λ h. let e = h.1 in omega (arith, ints, e))
