use Rattle.std.proofs.Common.{◌≡◌, ◌+◌, ◌∷◌, ◌++◌, [], Some, length, length-append, refl, sym, ap, subst, ◌∙◌, arith}
use Rattle.std.specs.Prelude.{◌==◌}
use Rattle.std.proofs.lemmas.Iterator.Consumers.{YieldsList-at, YieldsList-end, YieldsList-turn}
use Rattle.std.proofs.lemmas.Iterator.Splits.{YieldsList-from_slice_split}
use Rattle.oathd_sim.specs.Lines.{fields_of}
use Rattle.oathd_sim.proofs.FloorLemmas.{HasFloors, floors_all, floors_bad, floors_next}
use Rattle.oathd_sim.proofs.line.read_floors.Goals as goal

pub loop-field-preserved : goal.loop-field-preserved
loop-field-preserved c =
    let road = YieldsList-at c.into_iter-field-iterator.ensures.into_iter_gives (YieldsList-from_slice_split _ (λ b. b == 32) c.args.text.now
    c.split-field-items.ensures.rest c.split-field-items.ensures.done c.split-field-items.ensures.closure (λ x r q k. (refl, k.called.met ∙ ap (λ b. b == 32) k.shows))) in
    let turn = YieldsList-turn road c.loop-field.yielded c.loop-field.field-iterator c.loop-field.yielded_by c.next.result c.next.new.self c.in-Some.field c.in-Some.is c.next.ensures.steps in
    let fields = fields_of c.args.text.now in
    let longer : length c.loop-field.yielded + 1 ≡ length (c.loop-field.yielded ++ c.in-Some.field ∷ []) =
    omega (arith, length-append c.loop-field.yielded (c.in-Some.field ∷ [])) in
    let next = floors_next fields c.loop-field.floors.items (length c.loop-field.yielded) c.in-Some.field.now c.in-Some-read_next.next turn.0 turn.1
    (sym c.read_next.ensures ∙ c.in-Some-read_next.is) c.loop-field.invariant in
    subst (HasFloors fields c.push.new.self.items) longer
    (subst (λ floors. HasFloors fields floors (length c.loop-field.yielded + 1)) (sym c.in_ok-push.ensures.items) next)

pub returns-in_default : goal.returns-in_default
returns-in_default c =
    let road = YieldsList-at c.into_iter-field-iterator.ensures.into_iter_gives (YieldsList-from_slice_split _ (λ b. b == 32) c.args.text.now
    c.split-field-items.ensures.rest c.split-field-items.ensures.done c.split-field-items.ensures.closure (λ x r q k. (refl, k.called.met ∙ ap (λ b. b == 32) k.shows))) in
    let turn = YieldsList-turn road c.loop-field.yielded c.loop-field.field-iterator c.loop-field.yielded_by c.next.result c.next.new.self c.in-Some.field c.in-Some.is c.next.ensures.steps in
    floors_bad (fields_of c.args.text.now) c.loop-field.floors.items (length c.loop-field.yielded) c.in-Some.field.now turn.0 turn.1 (sym c.read_next.ensures ∙ c.in_default.is) c.loop-field.invariant

pub returns : goal.returns
returns c =
    let road = YieldsList-at c.into_iter-field-iterator.ensures.into_iter_gives (YieldsList-from_slice_split _ (λ b. b == 32) c.args.text.now
    c.split-field-items.ensures.rest c.split-field-items.ensures.done c.split-field-items.ensures.closure (λ x r q k. (refl, k.called.met ∙ ap (λ b. b == 32) k.shows))) in
    let end = YieldsList-end road c.loop-field.yielded c.loop-field.field-iterator c.loop-field.yielded_by c.next.result c.next.new.self c.in-None.is c.next.ensures.steps in
    floors_all (fields_of c.args.text.now) c.loop-field.floors.items (length c.loop-field.yielded) (omega (arith, end)) c.loop-field.invariant ∙ ap (λ l. Some l) (sym c.into_bump_slice.ensures)
