-- The long line is computed.
use Rattle.std.proofs.Common.{refl}
use Rattle.log_writer.proofs.laws.lines_are_worked.Goals as goal

pub returns-clause-long : goal.returns-clause-long
returns-clause-long c = refl
