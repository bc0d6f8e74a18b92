-- Numbers are computed.
use Rattle.std.proofs.Common.{refl}
use Rattle.std.specs.Fmt.{digits}
use Rattle.oathd_sim.proofs.script_laws.reports_are_worked.Goals as goal

pub returns-clause-nothing : goal.returns-clause-nothing
unfolding digits
returns-clause-nothing c = refl

pub returns-clause-order : goal.returns-clause-order
unfolding digits
returns-clause-order c = refl
