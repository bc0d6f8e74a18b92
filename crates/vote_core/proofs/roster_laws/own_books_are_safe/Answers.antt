-- Each clause is a lemma.
use Rattle.vote_core.proofs.Own.{own_accepted, own_fits, own_from, own_heard, own_majority, own_order, own_proposed, own_rise, own_sent, own_single_use, own_told}
use Rattle.vote_core.proofs.roster_laws.own_books_are_safe.Goals as goal

pub returns-clause-single_use : goal.returns-clause-single_use
returns-clause-single_use c = own_single_use

pub returns-clause-in_order : goal.returns-clause-in_order
returns-clause-in_order c = own_order

pub returns-clause-heard : goal.returns-clause-heard
returns-clause-heard c = own_heard

pub returns-clause-accepted : goal.returns-clause-accepted
returns-clause-accepted c = own_accepted

pub returns-clause-sent : goal.returns-clause-sent
returns-clause-sent c = own_sent

pub returns-clause-majority : goal.returns-clause-majority
returns-clause-majority c = own_majority

pub returns-clause-rise : goal.returns-clause-rise
returns-clause-rise c = own_rise

pub returns-clause-told : goal.returns-clause-told
returns-clause-told c = own_told

pub returns-clause-from_floors : goal.returns-clause-from_floors
returns-clause-from_floors c = own_from

pub returns-clause-proposed : goal.returns-clause-proposed
returns-clause-proposed c = own_proposed

pub returns-clause-fits : goal.returns-clause-fits
returns-clause-fits c = own_fits
