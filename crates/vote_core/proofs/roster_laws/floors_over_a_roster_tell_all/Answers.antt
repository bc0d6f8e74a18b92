-- Each clause is a lemma.
use Rattle.vote_core.proofs.Rosters.{rise_over, told_over}
use Rattle.vote_core.proofs.roster_laws.floors_over_a_roster_tell_all.Goals as goal

pub returns-clause-rise : goal.returns-clause-rise
returns-clause-rise c = rise_over

pub returns-clause-told : goal.returns-clause-told
returns-clause-told c = told_over
