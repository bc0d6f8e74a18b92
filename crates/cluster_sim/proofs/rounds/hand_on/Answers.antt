use Rattle.std.proofs.Common.{arith}
use Rattle.cluster_sim.proofs.RoundPlay.{handed_end, handed_next, sent_length}
use Rattle.cluster_sim.proofs.rounds.hand_on.Goals as goal

pub loop-k-preserved : goal.loop-k-preserved
loop-k-preserved c config w h spelled =
    let inv = c.loop-k.invariant config w h spelled in
    let sent = sent_length config c.args.key.now w (record { nodes = c.args.nodes.now; journal = c.args.journal.now }) h in
    handed_next config c.args.key.now c.args.live.now c.args.first c.args.number w c.loop-k.k c.loop-k.next c.in_ok-next.next (record { nodes = c.loop-k.nodes; journal = c.loop-k.journal })
    (record { nodes = c.hand_on_one.new.nodes; journal = c.hand_on_one.new.journal }) (omega (arith, c.loop-k-test.true, c.sent_count-k-end.ensures, sent)) inv
    (c.in_ok-next.ensures.plays config inv.now inv.run inv.spelled)

pub returns-clause-plays : goal.returns-clause-plays
returns-clause-plays c config w h spelled =
    let sent = sent_length config c.args.key.now w (record { nodes = c.args.nodes.now; journal = c.args.journal.now }) h in
    handed_end config c.args.key.now c.args.live.now c.args.first c.args.number w c.loop-k.k c.loop-k.next (record { nodes = c.loop-k.nodes; journal = c.loop-k.journal })
    (omega (arith, c.loop-k-test.false, c.sent_count-k-end.ensures, sent)) (c.loop-k.invariant config w h spelled)
