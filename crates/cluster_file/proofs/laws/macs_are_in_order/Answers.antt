use Rattle.cluster_file.proofs.OrderLemmas.{in_order_moves, in_order_sorted}
use Rattle.cluster_file.proofs.laws.macs_are_in_order.Goals as goal

pub returns-clause-same : goal.returns-clause-same
returns-clause-same c = in_order_moves

pub returns-clause-sorted : goal.returns-clause-sorted
returns-clause-sorted c = in_order_sorted
