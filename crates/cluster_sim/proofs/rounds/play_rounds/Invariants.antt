use Rattle.oath_node.specs.Machine.{Config}
use Rattle.cluster_sim.specs.Journal.{IsRun}
use Rattle.cluster_sim.specs.RoundRun.{StaySpelled}
use Rattle.cluster_sim.specs.World.{World}
use Rattle.cluster_sim.proofs.RoundPlay.{AreRoundsTo}
use Rattle.cluster_sim.proofs.rounds.play_rounds.Given as goal

-- from any first world, the lines until now had their rounds
abbrev pub invariant-loop-line : goal.invariant-loop-line
invariant-loop-line l =
    (config : Config) (world : World) → IsRun config l.key world (record { nodes = l.initial.nodes; journal = l.initial.journal })
    → StaySpelled config l.number world
    → AreRoundsTo config l.key l.live l.number world l.lines l.line-index l.next (record { nodes = l.nodes; journal = l.journal })
