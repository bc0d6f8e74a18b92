-- It is a lemma.
use Rattle.book_law.proofs.Held.{held_somewhere}
use Rattle.book_law.proofs.laws.held_floors_raise_no_further.Goals as goal

pub returns : goal.returns
returns c = λ setting history action node token g h.
    held_somewhere c.rulings_have_grounds.ensures.grounds
    (record { single_use = c.votes_are_safe.ensures.single_use; in_order = c.votes_are_safe.ensures.in_order; majority = c.votes_are_safe.ensures.majority; proposed = c.votes_are_safe.ensures.proposed })
    setting history g action h node token
