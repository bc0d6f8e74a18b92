use Rattle.std.proofs.lemmas.Option.{slice_get-get_or}
use Rattle.cluster_sim.proofs.RoundPlay.{rounds_end, rounds_next}
use Rattle.cluster_sim.proofs.rounds.play_rounds.Goals as goal

pub loop-line-preserved : goal.loop-line-preserved
loop-line-preserved c config w h spelled =
    let inv = c.loop-line.invariant config w h spelled in
    rounds_next config c.args.key.now c.args.live.now c.args.number w c.args.lines.now c.loop-line.line-index c.loop-line.next c.in_ok-next.next _ (record { nodes = c.loop-line.nodes; journal = c.loop-line.journal })
    (record { nodes = c.play_round.new.nodes; journal = c.play_round.new.journal }) (slice_get-get_or c.args.lines.now c.loop-line.line-index _ c.loop-line-test.true) inv
    (c.in_ok-next.ensures.plays config inv.now inv.run inv.spelled)

pub returns-clause-plays : goal.returns-clause-plays
returns-clause-plays c config w h spelled =
    rounds_end config c.args.key.now c.args.live.now c.args.number w c.args.lines.now c.loop-line.line-index c.loop-line.next (record { nodes = c.loop-line.nodes; journal = c.loop-line.journal })
    c.loop-line-test.false (c.loop-line.invariant config w h spelled)
