-- The law of votes over histories, and the law of seeds.
use Rattle.cluster_sim.proofs.BelowLaws.{VoteLaw}
use Rattle.seat_law.proofs.Seeds.{by_seed, order_by_seed}
use Rattle.book_law.specs.Lives.{accepted_in, floor_in}
use Rattle.book_law.proofs.Seeds.{given_up, have_votes}
use Rattle.book_law.proofs.Walk.{single_use}
use Rattle.book_law.proofs.seed_laws.devices_are_safe.Goals as goal

pub returns-clause-single_use : goal.returns-clause-single_use
returns-clause-single_use c seed setting history g opens =
    let grounds = c.rulings_have_grounds.ensures.grounds in
    let votes : VoteLaw = record { single_use = c.votes_are_safe.ensures.single_use; in_order = c.votes_are_safe.ensures.in_order; majority = c.votes_are_safe.ensures.majority; proposed = c.votes_are_safe.ensures.proposed } in
    by_seed setting.n (floor_in setting history) seed (accepted_in setting history) (single_use setting grounds votes history g) (given_up grounds votes setting history g seed opens)

pub returns-clause-in_order : goal.returns-clause-in_order
returns-clause-in_order c seed setting history g opens =
    let grounds = c.rulings_have_grounds.ensures.grounds in
    let votes : VoteLaw = record { single_use = c.votes_are_safe.ensures.single_use; in_order = c.votes_are_safe.ensures.in_order; majority = c.votes_are_safe.ensures.majority; proposed = c.votes_are_safe.ensures.proposed } in
    order_by_seed setting.n (floor_in setting history) seed (accepted_in setting history) (given_up grounds votes setting history g seed opens)

pub returns-clause-majority : goal.returns-clause-majority
returns-clause-majority c seed setting history g opens =
    let grounds = c.rulings_have_grounds.ensures.grounds in
    let votes : VoteLaw = record { single_use = c.votes_are_safe.ensures.single_use; in_order = c.votes_are_safe.ensures.in_order; majority = c.votes_are_safe.ensures.majority; proposed = c.votes_are_safe.ensures.proposed } in
    given_up grounds votes setting history g seed opens

pub returns-clause-votes : goal.returns-clause-votes
returns-clause-votes c setting history g =
    let grounds = c.rulings_have_grounds.ensures.grounds in
    let votes : VoteLaw = record { single_use = c.votes_are_safe.ensures.single_use; in_order = c.votes_are_safe.ensures.in_order; majority = c.votes_are_safe.ensures.majority; proposed = c.votes_are_safe.ensures.proposed } in
    have_votes grounds votes setting history g
