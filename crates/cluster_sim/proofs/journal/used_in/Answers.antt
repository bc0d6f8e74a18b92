use Rattle.std.proofs.Common.{sym, ◌∙◌}
use Rattle.std.proofs.lemmas.Bool.{cond-true, cond-false, eq-eqb, ne_eqb}
use Rattle.cluster_sim.specs.Journal.{LossRecord}
use Rattle.cluster_sim.proofs.Lost.{used_all, used_next}
use Rattle.cluster_sim.proofs.journal.used_in.Goals as goal
use Rattle.cluster_sim.proofs.journal.used_in.Goals.{then-node-loss, else-node-loss}

pub loop-loss-preserved : goal.loop-loss-preserved
loop-loss-preserved c =
    let x : LossRecord = record { node = c.loss.inside.node; used = c.loss.inside.used } in
    let next = used_next c.args.losses.now c.loop-loss.loss-index c.loss-item.result x c.args.node c.loop-loss-test.true (c.loss.view_is ∙ c.loss-item.is) in
    elim c.if-node-loss.branch [
      | then-node-loss w ↦ w.used-is ∙ sym (next ∙ cond-true _ _ _ (eq-eqb c.args.node c.loss.inside.node w.if-node-loss.true))
      | else-node-loss w ↦ w.used-is ∙ c.loop-loss.invariant ∙ sym (next ∙ cond-false _ _ _ (ne_eqb c.args.node c.loss.inside.node w.if-node-loss.false))
    ]

pub returns : goal.returns
returns c = used_all c.args.losses.now c.loop-loss.loss-index c.args.node c.loop-loss.used c.loop-loss-test.false c.loop-loss.auto.loss-index-end c.loop-loss.invariant
