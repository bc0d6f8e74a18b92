-- Each case is computed.
use Rattle.std.proofs.Common.{refl}
use Rattle.std.specs.Fmt.{digits}
use Rattle.oathd_database.specs.Gates.{gate_line}
use Rattle.oathd_database.proofs.laws.gates_are_worked.Goals as goal

pub returns-clause-line : goal.returns-clause-line
unfolding digits gate_line
returns-clause-line c = refl

pub returns-clause-one : goal.returns-clause-one
unfolding digits gate_line
returns-clause-one c = refl

pub returns-clause-none : goal.returns-clause-none
returns-clause-none c = refl

pub returns-clause-rows : goal.returns-clause-rows
unfolding digits gate_line
returns-clause-rows c = refl

pub returns-clause-no_rows : goal.returns-clause-no_rows
returns-clause-no_rows c = refl
