use Rattle.std.proofs.Common.{sym, ap, ◌∙◌, ◌+◌, arith}
use Rattle.std.specs.Prelude.{is_some}
use Rattle.cluster_sim.specs.Losses.{are_lost}
use Rattle.cluster_sim.proofs.Lost.{count_all, size_with, size_without}
use Rattle.cluster_sim.proofs.losses.lost_count.Goals as goal
use Rattle.cluster_sim.proofs.losses.lost_count.Goals.{then-is_some, else-is_some}

pub loop-index-preserved : goal.loop-index-preserved
loop-index-preserved c =
    let k = c.loop-index.index in
    let f = are_lost c.args.journal.now.losses in
    let test = ap f (ap (λ n. n + 1) (sym c.from.ensures)) ∙ ap is_some (sym c.used_boot.ensures) ∙ sym c.is_some.ensures in
    let h = c.loop-index.invariant in
    elim c.if-is_some.branch [
      | then-is_some w ↦ (size_with k f c.loop-index.count c.if-is_some.count (test ∙ w.if-is_some.true) w.count-is h.0, omega (arith, h.1, w.count-is))
      | else-is_some w ↦ (size_without k f c.loop-index.count c.if-is_some.count (test ∙ w.if-is_some.false) w.count-is h.0, omega (arith, h.1, w.count-is))
    ]

pub returns : goal.returns
returns c = count_all c.args.nodes c.loop-index.index (are_lost c.args.journal.now.losses) c.loop-index.count c.loop-index-test.false c.loop-index.auto.index-end c.loop-index.invariant.0
