-- Each clause is a lemma.
use Rattle.vote_core.proofs.Rosters.{single_use_over, order_over, majority_over, proposed_over, above_over}
use Rattle.vote_core.proofs.Enrolments.{enrolled_from}
use Rattle.vote_core.proofs.roster_laws.votes_over_a_roster_are_safe.Goals as goal

pub returns-clause-single_use : goal.returns-clause-single_use
returns-clause-single_use c = single_use_over

pub returns-clause-in_order : goal.returns-clause-in_order
returns-clause-in_order c = order_over

pub returns-clause-majority : goal.returns-clause-majority
returns-clause-majority c = majority_over

pub returns-clause-proposed : goal.returns-clause-proposed
returns-clause-proposed c = proposed_over

pub returns-clause-from_floors : goal.returns-clause-from_floors
returns-clause-from_floors c = above_over

pub returns-clause-from_enrolments : goal.returns-clause-from_enrolments
returns-clause-from_enrolments c = enrolled_from
