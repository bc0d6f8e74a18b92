-- Each clause is a lemma.
use Rattle.vote_core.proofs.Fixed.{tick_is, fixed_runs}
use Rattle.vote_core.proofs.roster_laws.fixed_books_are_rosters.Goals as goal

pub returns-clause-tick : goal.returns-clause-tick
returns-clause-tick c = tick_is

pub returns-clause-run : goal.returns-clause-run
returns-clause-run c = fixed_runs
