-- The laws below, carried over.
use Rattle.book_law.proofs.Answered.{answers_all}
use Rattle.book_law.proofs.Justified.{justifies_all}
use Rattle.book_law.proofs.Results.{spaced}
use Rattle.book_law.proofs.Told.{answer_truly}
use Rattle.book_law.proofs.Walk.{in_order, majority, single_use}
use Rattle.book_law.proofs.laws.books_are_safe.Goals as goal

pub returns-clause-single_use : goal.returns-clause-single_use
returns-clause-single_use c = λ setting history g.
    single_use setting c.rulings_have_grounds.ensures.grounds
    (record { single_use = c.votes_are_safe.ensures.single_use; in_order = c.votes_are_safe.ensures.in_order; majority = c.votes_are_safe.ensures.majority; proposed = c.votes_are_safe.ensures.proposed })
    history g

pub returns-clause-in_order : goal.returns-clause-in_order
returns-clause-in_order c = λ setting history g.
    in_order setting c.rulings_have_grounds.ensures.grounds
    (record { single_use = c.votes_are_safe.ensures.single_use; in_order = c.votes_are_safe.ensures.in_order; majority = c.votes_are_safe.ensures.majority; proposed = c.votes_are_safe.ensures.proposed })
    history g

pub returns-clause-majority : goal.returns-clause-majority
returns-clause-majority c = λ setting history g.
    majority setting c.rulings_have_grounds.ensures.grounds
    (record { single_use = c.votes_are_safe.ensures.single_use; in_order = c.votes_are_safe.ensures.in_order; majority = c.votes_are_safe.ensures.majority; proposed = c.votes_are_safe.ensures.proposed })
    history g

pub returns-clause-told : goal.returns-clause-told
returns-clause-told c = λ setting history g. answer_truly c.rulings_have_grounds.ensures.grounds setting history

pub returns-clause-spaced : goal.returns-clause-spaced
returns-clause-spaced c =
    spaced c.rulings_have_grounds.ensures.grounds
    (record { start = c.gate_keeps_throttle.ensures.start; failed = c.gate_keeps_throttle.ensures.failed; accepted = c.gate_keeps_throttle.ensures.accepted; opens = c.gate_keeps_throttle.ensures.open; waits = c.gate_keeps_throttle.ensures.wait })
    c.failures_are_spaced.ensures

pub returns-clause-justified : goal.returns-clause-justified
returns-clause-justified c =
    justifies_all c.rulings_have_grounds.ensures.grounds
    (record { start = c.gate_keeps_throttle.ensures.start; failed = c.gate_keeps_throttle.ensures.failed; accepted = c.gate_keeps_throttle.ensures.accepted; opens = c.gate_keeps_throttle.ensures.open; waits = c.gate_keeps_throttle.ensures.wait })
    (record { single_use = c.votes_are_safe.ensures.single_use; in_order = c.votes_are_safe.ensures.in_order; majority = c.votes_are_safe.ensures.majority; proposed = c.votes_are_safe.ensures.proposed })

pub returns-clause-answered : goal.returns-clause-answered
returns-clause-answered c = λ setting history g. answers_all c.rulings_have_grounds.ensures.grounds setting history
