use Rattle.std.proofs.Common.{arith}
use Rattle.roster_sql_tests.proofs.tests.enrols.Goals as goal

-- without puts nothing is asked of the tables
pub enrol-requires-clause-can : goal.enrol-requires-clause-can
enrol-requires-clause-can g c clean = record { can = λ some. absurd (omega (arith, some)) }
