use Rattle.cluster_sim.proofs.Floors.{AreNext}
use Rattle.cluster_sim.proofs.run.list_is_in_range.Given as goal

-- the floors until now are in range
abbrev pub invariant-loop-next : goal.invariant-loop-next
invariant-loop-next l = AreNext l.list l.next-index
