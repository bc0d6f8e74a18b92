use Rattle.cluster_sim.proofs.Opening.{AreOpen}
use Rattle.cluster_sim.proofs.run.open_nodes.Given as goal

-- the nodes until now are open
abbrev pub invariant-loop-index : goal.invariant-loop-index
invariant-loop-index l = AreOpen (record { book = l.book; limits = l.settings }) l.key l.floors l.index l.nodes.items
