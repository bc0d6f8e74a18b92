-- Each clause is a lemma.
use Rattle.seat_law.proofs.Seeds.{by_seed, by_token, order_by_seed}
use Rattle.seat_law.proofs.seed_laws.seeds_are_safe.Goals as goal

pub returns-clause-single_use : goal.returns-clause-single_use
returns-clause-single_use c = by_seed

pub returns-clause-tokens : goal.returns-clause-tokens
returns-clause-tokens c = by_token

pub returns-clause-in_order : goal.returns-clause-in_order
returns-clause-in_order c = order_by_seed
