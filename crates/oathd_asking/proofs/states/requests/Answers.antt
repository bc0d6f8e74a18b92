use Rattle.std.proofs.Common.{◌≡◌, ◌+◌, [], ◌∷◌, ◌++◌, map, ap, sym, ◌∙◌, arith}
use Rattle.std.proofs.lemmas.List.{map-append}
use Rattle.oathd_asking.specs.Asked.{asked_of}
use Rattle.oathd_asking.specs.Survey.{state_requests}
use Rattle.oathd_asking.proofs.StateLemmas.{requests_more, state_request}
use Rattle.oathd_asking.proofs.states.requests.Goals as goal

pub loop-address-preserved : goal.loop-address-preserved
loop-address-preserved c =
    let operator = c.args.operator.now in
    let index = c.loop-address.address-index in
    let next : c.loop-address.number + 1 ≡ 1 + index = omega (arith, c.loop-address.invariant.number) in
    let asks = c.request.ensures ∙ ap (state_request operator) next in
    record {
      number = omega (arith, c.loop-address.invariant.number);
      asked = ap (map asked_of) c.in-Ok.ensures.items
          ∙ map-append asked_of c.loop-address.all.items (c.request.result ∷ [])
          ∙ ap (λ l. l ++ asked_of c.request.result ∷ []) c.loop-address.invariant.asked
          ∙ ap (λ a. state_requests operator 1 index ++ a ∷ []) asks
          ∙ sym (requests_more operator 1 index);
    }
