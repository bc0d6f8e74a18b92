use Rattle.std.proofs.Common.{map}
use Rattle.oath_node.specs.Machine.{Config}
use Rattle.cluster_sim.specs.Journal.{AreSpelledAlong, IsRun}
use Rattle.cluster_sim.specs.Run.{event_of}
use Rattle.cluster_sim.specs.World.{World}
use Rattle.cluster_sim.proofs.Played.{IsPlayed}
use Rattle.cluster_sim.proofs.run.play.Given as goal

-- from any first world, the events until now have happened
abbrev pub invariant-loop-number : goal.invariant-loop-number
invariant-loop-number l =
    let config : Config = record { book = l.shared.book.now; limits = l.shared.settings } in
    let key = l.shared.key.now in
    (world : World) → AreSpelledAlong config (map (event_of key) l.events) world
    → IsRun config key world (record { nodes = l.initial.nodes; journal = l.initial.journal })
    → IsPlayed config key (map (event_of key) l.events) world l.number (record { nodes = l.nodes; journal = l.journal })
