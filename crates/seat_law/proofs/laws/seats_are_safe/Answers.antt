-- Each clause is a lemma.
use Rattle.seat_law.proofs.Safe.{seats_accepted, seats_fit, seats_from, seats_heard, seats_majority, seats_order, seats_proposed, seats_rise, seats_sent, seats_single_use, seats_told}
use Rattle.seat_law.proofs.laws.seats_are_safe.Goals as goal

pub returns-clause-single_use : goal.returns-clause-single_use
returns-clause-single_use c = seats_single_use

pub returns-clause-in_order : goal.returns-clause-in_order
returns-clause-in_order c = seats_order

pub returns-clause-majority : goal.returns-clause-majority
returns-clause-majority c = seats_majority

pub returns-clause-proposed : goal.returns-clause-proposed
returns-clause-proposed c = seats_proposed

pub returns-clause-from_floors : goal.returns-clause-from_floors
returns-clause-from_floors c = seats_from

pub returns-clause-rise : goal.returns-clause-rise
returns-clause-rise c = seats_rise

pub returns-clause-told : goal.returns-clause-told
returns-clause-told c = seats_told

pub returns-clause-heard : goal.returns-clause-heard
returns-clause-heard c = seats_heard

pub returns-clause-fits : goal.returns-clause-fits
returns-clause-fits c = seats_fit

pub returns-clause-accepted : goal.returns-clause-accepted
returns-clause-accepted c = seats_accepted

pub returns-clause-sent : goal.returns-clause-sent
returns-clause-sent c = seats_sent
