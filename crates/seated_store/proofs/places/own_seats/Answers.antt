use Rattle.std.proofs.Common.{List, ℕ, [], ◌∷◌, ◌++◌, sym, ap, ◌∙◌}
use Rattle.seated_store.proofs.PlaceLemmas.{one_more}
use Rattle.seated_store.proofs.places.own_seats.Goals as goal

pub loop-token-preserved : goal.loop-token-preserved
loop-token-preserved c =
    c.in_ok-push.ensures.items ∙ ap (λ (l : List ℕ). l ++ c.loop-token.token ∷ []) c.loop-token.invariant ∙ sym (one_more c.loop-token.token)
