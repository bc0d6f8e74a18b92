use Rattle.std.proofs.Common.{◌≡◌}
use Rattle.cluster_sim.specs.Losses.{list_of}
use Rattle.cluster_sim.specs.World.{floor_in}
use Rattle.cluster_sim.proofs.losses.filled.Given as goal

-- the floors of the tokens until now
abbrev pub invariant-loop-token : goal.invariant-loop-token
invariant-loop-token l = l.list.items ≡ list_of l.token (floor_in l.floors)
