use Rattle.std.proofs.Common.{◌≡◌, ◌+◌, ◌∷◌, ◌++◌, [], length, length-append, refl, sym, ap, subst, ◌∙◌, arith}
use Rattle.std.specs.Prelude.{◌==◌}
use Rattle.std.specs.Option.{option_map}
use Rattle.std.proofs.lemmas.Iterator.Consumers.{YieldsList-at, YieldsList-end, YieldsList-turn}
use Rattle.std.proofs.lemmas.Iterator.Splits.{YieldsList-from_slice_split}
use Rattle.oathd_sim.specs.Lines.{fields_of}
use Rattle.oathd_sim.proofs.RoundLemmas.{HasMembers, members_all, members_bad, members_next}
use Rattle.oathd_sim.proofs.rounds.read_members.Goals as goal

pub loop-field-preserved : goal.loop-field-preserved
loop-field-preserved c =
    let road = YieldsList-at c.into_iter-field-iterator.ensures.into_iter_gives (YieldsList-from_slice_split _ (λ b. b == 32) c.args.text.now
    c.split-field-items.ensures.rest c.split-field-items.ensures.done c.split-field-items.ensures.closure (λ x r q k. (refl, k.called.met ∙ ap (λ b. b == 32) k.shows))) in
    let turn = YieldsList-turn road c.loop-field.yielded c.loop-field.field-iterator c.loop-field.yielded_by c.next.result c.next.new.self c.in-Some.field c.in-Some.is c.next.ensures.steps in
    let fields = fields_of c.args.text.now in
    let longer : length c.loop-field.yielded + 1 ≡ length (c.loop-field.yielded ++ c.in-Some.field ∷ []) =
    omega (arith, length-append c.loop-field.yielded (c.in-Some.field ∷ [])) in
    let next = members_next c.args.nodes fields c.loop-field.live.items c.loop-field.last (length c.loop-field.yielded) c.in-Some.field.now c.in_ok-last.last turn.0 turn.1
    (sym c.in_ok-last.ensures.member) c.loop-field.invariant.members in
    record {
      members = subst (HasMembers c.args.nodes fields c.push.new.self.items c.in_ok-last.last) longer
          (subst (λ live. HasMembers c.args.nodes fields live c.in_ok-last.last (length c.loop-field.yielded + 1)) (sym c.push.ensures.items) next);
      few = omega (arith, c.push.ensures.len, c.loop-field.invariant.few, c.in_ok-last.ensures.above);
      within = c.in_ok-last.ensures.within;
    }

pub returns-in_err-last : goal.returns-in_err-last
returns-in_err-last c =
    let road = YieldsList-at c.into_iter-field-iterator.ensures.into_iter_gives (YieldsList-from_slice_split _ (λ b. b == 32) c.args.text.now
    c.split-field-items.ensures.rest c.split-field-items.ensures.done c.split-field-items.ensures.closure (λ x r q k. (refl, k.called.met ∙ ap (λ b. b == 32) k.shows))) in
    let turn = YieldsList-turn road c.loop-field.yielded c.loop-field.field-iterator c.loop-field.yielded_by c.next.result c.next.new.self c.in-Some.field c.in-Some.is c.next.ensures.steps in
    ap (option_map (λ live. live.items)) c.from_residual.ensures
    ∙ sym (members_bad c.args.nodes (fields_of c.args.text.now) c.loop-field.live.items c.loop-field.last (length c.loop-field.yielded) c.in-Some.field.now turn.0 turn.1
    (sym c.in_err-last.ensures.member) c.loop-field.invariant.members)

pub returns : goal.returns
returns c =
    let road = YieldsList-at c.into_iter-field-iterator.ensures.into_iter_gives (YieldsList-from_slice_split _ (λ b. b == 32) c.args.text.now
    c.split-field-items.ensures.rest c.split-field-items.ensures.done c.split-field-items.ensures.closure (λ x r q k. (refl, k.called.met ∙ ap (λ b. b == 32) k.shows))) in
    let end = YieldsList-end road c.loop-field.yielded c.loop-field.field-iterator c.loop-field.yielded_by c.next.result c.next.new.self c.in-None.is c.next.ensures.steps in
    sym (members_all c.args.nodes (fields_of c.args.text.now) c.loop-field.live.items c.loop-field.last (length c.loop-field.yielded) (omega (arith, end)) c.loop-field.invariant.members)
