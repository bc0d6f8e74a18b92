use Rattle.std.proofs.Common.{◌≡◌, ℕ, List}
use Rattle.vote_core.specs.NodeSet.{with_node}
use Rattle.vote_core.specs.Rows.{row}
use Rattle.vote_core.specs.Schedule.{greatest}
use Rattle.oath_node.specs.Machine.{Config}
use Rattle.cluster_sim.specs.Journal.{IsRun}
use Rattle.cluster_sim.specs.World.{World}
use Rattle.cluster_sim.proofs.losses.greatest_next.Given as goal

-- the greatest of the nodes so far
abbrev pub invariant-loop-index : goal.invariant-loop-index
invariant-loop-index l =
    (config : Config) (key : List ℕ) (world : World) → IsRun config key world (record { nodes = l.nodes; journal = l.journal })
    → l.greatest ≡ greatest l.index (with_node l.gone world.lost) (λ node. (row (world.nodes node).content l.token).next)
