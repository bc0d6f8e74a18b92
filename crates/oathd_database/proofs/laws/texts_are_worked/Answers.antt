-- The digits of the numbers are computed.
use Rattle.std.proofs.Common.{refl}
use Rattle.std.specs.Fmt.{digits}
use Rattle.oathd_database.proofs.laws.texts_are_worked.Goals as goal

pub returns-clause-passes : goal.returns-clause-passes
unfolding digits
returns-clause-passes c = refl
