-- Each clause is a lemma.
use Rattle.vote_core.proofs.Unknown.{untouched_over, gets_over, free_over}
use Rattle.vote_core.proofs.roster_laws.enrolments_are_free.Goals as goal

pub returns-clause-untouched : goal.returns-clause-untouched
returns-clause-untouched c = untouched_over

pub returns-clause-enrolled : goal.returns-clause-enrolled
returns-clause-enrolled c = gets_over

pub returns-clause-free : goal.returns-clause-free
returns-clause-free c = free_over
