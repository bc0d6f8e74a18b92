use Rattle.std.proofs.Common.{◌≡◌, ◌+◌, ℕ, sym, ap, ◌∙◌}
use Rattle.std.specs.Prelude.{is_some}
use Rattle.std.proofs.lemmas.Map.Keys.{ge_from_not_lt}
use Rattle.vote_core.specs.NodeSet.{with_node}
use Rattle.vote_core.specs.Rows.{row}
use Rattle.vote_core.specs.Schedule.{greater, greatest}
use Rattle.cluster_sim.specs.Journal.{SimulationRecord}
use Rattle.cluster_sim.proofs.Lost.{greatest_all, greatest_gone, greatest_lost, greatest_there, greater_less, greater_not, lt_from_is_lt}
use Rattle.cluster_sim.proofs.losses.greatest_next.Goals as goal
use Rattle.cluster_sim.proofs.losses.greatest_next.Goals.{then-number-gone-via-then-number-gone, then-number-gone-via-else-number-gone+then-is_some, then-lt, else-lt}

pub loop-index-preserved-then-number-gone : goal.loop-index-preserved-then-number-gone
loop-index-preserved-then-number-gone c config key w h =
    let s : SimulationRecord = record { nodes = c.args.nodes.now; journal = c.args.journal.now } in
    let k = c.loop-index.index in
    let old = c.loop-index.invariant config key w h in
    elim c.then-number-gone.branch [
      | then-number-gone-via-then-number-gone x ↦ greatest_gone k c.args.gone w.lost _ c.loop-index.greatest x.if-number-gone.true old
      | then-number-gone-via-else-number-gone+then-is_some x ↦ greatest_lost config key w s k c.args.gone _ c.loop-index.greatest h (ap is_some (sym x.used_boot.ensures) ∙ sym x.is_some.ensures ∙ x.if-is_some.true) old
    ]

pub loop-index-preserved : goal.loop-index-preserved
loop-index-preserved c config key w h =
    let s : SimulationRecord = record { nodes = c.args.nodes.now; journal = c.args.journal.now } in
    let k = c.loop-index.index in
    let best = c.loop-index.greatest in
    let next = c.next_of-next.result in
    let found = ap is_some (sym c.used_boot.ensures) ∙ sym c.is_some.ensures ∙ c.if-is_some.false in
    let f : ℕ → ℕ = λ i. (row (w.nodes i).content c.args.token).next in
    let there : (new : ℕ) → new ≡ greater next best → new ≡ greatest (k + 1) (with_node c.args.gone w.lost) f = λ new is. greatest_there config key w s k c.args.gone c.args.token next c.index-nodes-index.result best new h c.loop-index-test.true c.index-nodes-index.is c.if-number-gone.false found c.next_of-next.ensures is (c.loop-index.invariant config key w h) in
    elim c.if-lt.branch [
      | then-lt x ↦ there c.if-lt.greatest (x.greatest-is ∙ greater_less next best (lt_from_is_lt best next (sym c.lt.ensures ∙ x.if-lt.true)))
      | else-lt x ↦ there c.if-lt.greatest (x.greatest-is ∙ greater_not next best (ge_from_not_lt best next (sym c.lt.ensures ∙ x.if-lt.false)))
    ]

pub returns : goal.returns
returns c config key w h =
    greatest_all config key w (record { nodes = c.args.nodes.now; journal = c.args.journal.now }) c.loop-index.index c.loop-index.greatest (with_node c.args.gone w.lost) (λ i. (row (w.nodes i).content c.args.token).next)
    h c.loop-index-test.false c.loop-index.auto.index-end (c.loop-index.invariant config key w h)
