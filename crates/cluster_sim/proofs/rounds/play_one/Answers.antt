use Rattle.std.proofs.Common.{arith}
use Rattle.cluster_sim.specs.Run.{act_of}
use Rattle.cluster_sim.specs.World.{Happens, world_after_event}
use Rattle.cluster_sim.proofs.RoundPlay.{one_happened, spelled_now}
use Rattle.cluster_sim.proofs.rounds.play_one.Goals as goal

pub returns-clause-plays : goal.returns-clause-plays
unfolding world_after_event
returns-clause-plays c config w h spelled =
    one_happened config c.args.key.now c.args.number (Happens (act_of c.args.key.now c.args.act)) w (record { nodes = c.perform.new.nodes; journal = c.perform.new.journal }) c.in-Some.next
    (c.in_ok-perform.ensures.plays config w h (spelled_now config c.args.number w spelled)) (omega (arith, c.in-Some.ensures))
