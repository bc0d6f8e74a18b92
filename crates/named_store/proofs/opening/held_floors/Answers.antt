use Rattle.std.proofs.Common.{ℕ, ◌+◌, List, [], ◌∷◌, ◌++◌, length, ap, sym, ◌∙◌}
use Rattle.std.proofs.lemmas.List.{length_push}
use Rattle.named_store.proofs.FloorLemmas.{floors_more}
use Rattle.named_store.proofs.opening.held_floors.Goals as goal

pub loop-token-preserved : goal.loop-token-preserved
loop-token-preserved g c =
    let kept = c.loop-token.invariant in
    let was = c.loop-token.all.items in
    let pushed = c.in_ok-push-in-Ok.ensures.items in
    record {
      end = kept.end;
      count = ap (λ (l : List ℕ). length l) pushed ∙ length_push was c.next.result ∙ ap (λ (n : ℕ). n + 1) kept.count;
      floors = λ clean.
          let there = floors_more c.args.store.now.mirror.rows c.loop-token.token c.in-Ok.row (c.in-Ok.ensures.reads.ok clean) in
          let before = kept.floors clean in
          let next = c.next.ensures in
          pushed ∙ (λ i. before i ++ next i ∷ []) ∙ sym there;
    }
