use Rattle.cluster_sim.specs.Run.{floor_lists}
use Rattle.cluster_sim.proofs.Floors.{AreNexts}
use Rattle.cluster_sim.proofs.run.floors_are_in_range.Given as goal

-- the lists until now are in range
abbrev pub invariant-loop-list : goal.invariant-loop-list
invariant-loop-list l = AreNexts (floor_lists l.floors) l.list-index
