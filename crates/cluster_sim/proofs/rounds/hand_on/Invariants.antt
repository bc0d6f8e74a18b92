use Rattle.oath_node.specs.Machine.{Config}
use Rattle.cluster_sim.specs.Journal.{IsRun}
use Rattle.cluster_sim.specs.RoundRun.{StaySpelled}
use Rattle.cluster_sim.specs.World.{World}
use Rattle.cluster_sim.proofs.RoundPlay.{AreHandedTo}
use Rattle.cluster_sim.proofs.rounds.hand_on.Given as goal

-- from any first world, the datagrams below number `k` were delivered
abbrev pub invariant-loop-k : goal.invariant-loop-k
invariant-loop-k l =
    (config : Config) (world : World) → IsRun config l.key world (record { nodes = l.initial.nodes; journal = l.initial.journal })
    → StaySpelled config l.number world
    → AreHandedTo config l.key l.live l.first l.number world l.k l.next (record { nodes = l.nodes; journal = l.journal })
