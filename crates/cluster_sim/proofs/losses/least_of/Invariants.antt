use Rattle.std.proofs.Common.{◌≡◌, ℕ, List, length}
use Rattle.oath_node.specs.Machine.{Config}
use Rattle.cluster_sim.specs.Journal.{IsRun}
use Rattle.cluster_sim.specs.Losses.{AreGreatest}
use Rattle.cluster_sim.specs.World.{World}
use Rattle.cluster_sim.proofs.losses.least_of.Given as goal

-- the floors of the tokens until now
abbrev pub invariant-loop-token : goal.invariant-loop-token
invariant-loop-token l =
    (length l.least.items ≡ l.token)
    × ((config : Config) (key : List ℕ) (world : World) → IsRun config key world (record { nodes = l.nodes; journal = l.journal }) → AreGreatest world l.gone l.token l.least.items)
