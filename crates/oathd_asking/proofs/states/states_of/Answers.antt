use Rattle.std.proofs.Common.{◌≡◌, ℕ, ◌+◌, List, [], ◌∷◌, length, map, ap, sym, subst, ◌∙◌, arith, length-append}
use Rattle.std.proofs.lemmas.List.{length-map, map-append}
use Rattle.oathd_asking.specs.Asked.{asked_of}
use Rattle.oathd_asking.specs.Survey.{AreStates, IsState}
use Rattle.oathd_asking.proofs.StateLemmas.{asks_next, states_more}
use Rattle.oathd_asking.proofs.states.states_of.Goals as goal

pub state_of-requires : goal.state_of-requires
state_of-requires g c =
    asks_next c.args.operator.now asked_of c.args.all.now c.loop-first.first-index c.loop-first.number c.first-item.result c.requires.asked
    c.loop-first-test.true c.first-item.is c.loop-first.invariant.number

pub loop-first-preserved : goal.loop-first-preserved
loop-first-preserved g c =
    let operator = c.args.operator.now in
    let text = c.in_ok-text.text in
    let texts = c.loop-first.texts.items in
    let items = c.in-Ok.ensures.items in
    let number : c.loop-first.number + 1 ≡ 1 + length (map (λ t. t.items) texts) =
    omega (arith, length-map texts (λ t. t.items), c.loop-first.invariant.count, c.loop-first.invariant.number) in
    record {
      number = omega (arith, c.loop-first.invariant.number);
      count = omega (arith, ap length items, length-append texts (text ∷ []), c.loop-first.invariant.count);
      states = subst (AreStates operator 1) (sym (ap (map (λ t. t.items)) items ∙ map-append (λ t. t.items) texts (text ∷ [])))
          (states_more operator 1 (map (λ t. t.items) texts) text.items c.loop-first.invariant.states
          (subst (λ (n : ℕ). IsState operator n text.items) number c.in_ok-text.ensures.state));
    }

pub returns-clause-count : goal.returns-clause-count
returns-clause-count g c = omega (arith, c.loop-first.invariant.count, c.loop-first-test.false, c.loop-first.auto.first-index-end)
