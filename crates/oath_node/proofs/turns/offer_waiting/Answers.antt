use Rattle.std.proofs.Common.{ℕ, ◌+◌, take, arith, ap, sym, subst, ◌∙◌}
use Rattle.oath_node.specs.TurnSteps.{items_in}
use Rattle.oath_node.proofs.GrowLemmas.{AreOffered, offered_next, offered_none}
use Rattle.oath_node.proofs.turns.offer_waiting.Goals as goal
use Rattle.oath_node.proofs.turns.offer_waiting.Goals.{in-Some, in_default}

pub loop-outputs-preserved : goal.loop-outputs-preserved
loop-outputs-preserved g c =
    let events = g.P.Port.events in
    let first = events c.args.port.now in
    let waiting = c.args.waiting.now in
    let i = c.loop-outputs.outputs-index in
    let item = c.outputs-item.result in
    let before = c.loop-outputs.invariant.0 in
    let setup = g.P.Port.setup in
    let stays = c.loop-outputs.invariant.1 in
    let next = items_in (take (i + 1) waiting) in
    elim c.match-outputs.branch [
      | in-Some w ↦
          let sum = w.saturating_add-replies.ensures in
          let here : AreOffered first (events w.offer.new.port) next w.saturating_add-replies.result =
          offered_next first (events c.loop-outputs.port) (events w.offer.new.port) waiting i item w.in-Some.outputs c.loop-outputs.replies
          w.offer.result w.saturating_add-replies.result c.loop-outputs-test.true c.outputs-item.is w.in-Some.is before
          (w.offer.ensures.offers, w.offer.ensures.few, w.offer.ensures.replies) (omega (arith, sum)) (λ small. omega (arith, sum, small)) in (
            subst (λ p. AreOffered first (events p) next c.match-outputs.replies) (sym w.port-is)
                (subst (λ (n : ℕ). AreOffered first (events w.offer.new.port) next n) (sym w.replies-is) here),
            ap setup w.port-is ∙ w.offer.ensures.stays ∙ stays,
          )
      | in_default w ↦ (
        subst (λ p. AreOffered first (events p) next c.match-outputs.replies) (sym w.port-is)
            (subst (λ (n : ℕ). AreOffered first (events c.loop-outputs.port) next n) (sym w.replies-is)
            (offered_none first (events c.loop-outputs.port) waiting i item c.loop-outputs.replies c.loop-outputs-test.true c.outputs-item.is
            w.in_default.is before)),
        ap setup w.port-is ∙ stays,
      )
    ]
