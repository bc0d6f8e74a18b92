use Rattle.std.proofs.Common.{arith, List, ◌≡◌, ◌<◌, ◌^◌, ◌++◌, ◌+◌, ◌∷◌, [], ap, sym, subst, ◌∙◌, refl, map}
use Rattle.std.proofs.lemmas.List.{append-nil, append_assoc}
use Rattle.oath_node.specs.declared.item.Item.{Item}
use Rattle.datagram_port.specs.Port.{Grows}
use Rattle.oath_node.specs.TurnSteps.{reply_count}
use Rattle.oath_node.specs.Turns.{offer_of}
use Rattle.oath_node.proofs.GrowLemmas.{grows_refl, offered_datagram, offered_more, offered_reply, reply_count-append}
use Rattle.oath_node.proofs.turns.offer.Goals as goal

pub loop-item-init : goal.loop-item-init
loop-item-init g c = (grows_refl (g.P.Port.events c.args.port.now), omega arith, λ small. refl, cc, refl)

pub loop-item-preserved-in-Datagram : goal.loop-item-preserved-in-Datagram
loop-item-preserved-in-Datagram g c =
    let h = c.loop-item.invariant in
    let item = c.in-Some.item in
    let none : reply_count (item ∷ []) ≡ 0 = ap (λ (x : Item). reply_count (x ∷ [])) c.in-Datagram.is in
    let same : reply_count (c.loop-item.yielded ++ item ∷ []) ≡ reply_count c.loop-item.yielded =
    omega (arith, reply_count-append c.loop-item.yielded (item ∷ []), none) in
    let offered =
    offered_datagram (g.P.Port.events c.loop-item.port) (g.P.Port.events c.send-taken.new.self) item c.in-Datagram.to
    c.in-Datagram.bytes c.as_slice.result.now c.in-Datagram.is c.as_slice.ensures.value c.send-taken.ensures.event in (
      offered_more _ _ _ c.loop-item.yielded item h.0 offered,
      omega (arith, same, h.1),
      λ small. h.2 (omega (arith, small, same)) ∙ sym same,
      append_assoc c.loop-item.yielded (item ∷ []) c.next.new.self ∙ ap (λ (xs : List Item). c.loop-item.yielded ++ xs) (sym c.in-Some.ensures.steps) ∙ h.3,
      c.send-taken.ensures.stays ∙ h.4,
    )

pub loop-item-preserved : goal.loop-item-preserved
loop-item-preserved g c =
    let h = c.loop-item.invariant in
    let item = c.in-Some.item in
    let one : reply_count (item ∷ []) ≡ 1 = ap (λ (x : Item). reply_count (x ∷ [])) c.in-Reply.is in
    let more : reply_count (c.loop-item.yielded ++ item ∷ []) ≡ reply_count c.loop-item.yielded + 1 =
    omega (arith, reply_count-append c.loop-item.yielded (item ∷ []), one) in
    let sum = c.saturating_add-replies.ensures in
    let offered =
    offered_reply (g.P.Port.events c.loop-item.port) (g.P.Port.events c.send-taken-in-Reply.new.self) item c.in-Reply.client
    c.in-Reply.bytes c.as_slice-in-Reply.result.now c.in-Reply.is c.as_slice-in-Reply.ensures.value c.send-taken-in-Reply.ensures.event in (
      offered_more _ _ _ c.loop-item.yielded item h.0 offered,
      omega (arith, sum, more, h.1),
      λ small. let before : c.loop-item.replies ≡ reply_count c.loop-item.yielded = h.2 (omega (arith, small, more)) in omega (arith, sum, more, small, before),
      append_assoc c.loop-item.yielded (item ∷ []) c.next.new.self ∙ ap (λ (xs : List Item). c.loop-item.yielded ++ xs) (sym c.in-Some.ensures.steps) ∙ h.3,
      c.send-taken-in-Reply.ensures.stays ∙ h.4,
    )

pub returns-clause-offers : goal.returns-clause-offers
returns-clause-offers g c =
    let h = c.loop-item.invariant in
    let e = h.3 in
    let whole : c.loop-item.yielded ≡ c.args.outputs.now.items =
    sym (append-nil c.loop-item.yielded) ∙ ap (λ (xs : List Item). c.loop-item.yielded ++ xs) (sym c.in-None.ensures.steps.0) ∙ e in
    subst (λ (xs : List Item). Grows (g.P.Port.events c.args.port.now) (g.P.Port.events c.loop-item.port) (map offer_of xs)) whole h.0

pub returns-clause-replies : goal.returns-clause-replies
returns-clause-replies g c =
    let h = c.loop-item.invariant in
    let whole : c.loop-item.yielded ≡ c.args.outputs.now.items =
    sym (append-nil c.loop-item.yielded) ∙ ap (λ (xs : List Item). c.loop-item.yielded ++ xs) (sym c.in-None.ensures.steps.0) ∙ h.3 in
    subst (λ (xs : List Item). reply_count xs < 2 ^ 64 → c.loop-item.replies ≡ reply_count xs) whole h.2

pub returns-clause-few : goal.returns-clause-few
returns-clause-few g c =
    let h = c.loop-item.invariant in
    let whole : c.loop-item.yielded ≡ c.args.outputs.now.items =
    sym (append-nil c.loop-item.yielded) ∙ ap (λ (xs : List Item). c.loop-item.yielded ++ xs) (sym c.in-None.ensures.steps.0) ∙ h.3 in
    omega (arith, h.1, ap reply_count whole)
