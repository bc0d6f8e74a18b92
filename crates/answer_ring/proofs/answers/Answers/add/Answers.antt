use Rattle.std.proofs.Common.{◌≡◌, ℕ, ◌<◌, [], ◌∷◌, ◌++◌, length, ap, ◌∙◌, arith}
use Rattle.circular_buffer.specs.Buffer.{Buffer, keep_last}
use Rattle.answer_ring.specs.Answers.{KeptAnswer}
use Rattle.answer_ring.proofs.GrowLemmas.{index_pushed}
use Rattle.answer_ring.proofs.KeepLemmas.{kept_with_room}
use Rattle.answer_ring.proofs.answers.Answers.add.Goals as goal

pub invariant_of-self : goal.invariant_of-self
invariant_of-self c =
    let kept = c.self.inside.ring.items in
    let answer = c.args.kept in
    let room : length kept < 1024 = (let n = ap length c.self.view_is in omega (arith, n, c.requires.room)) in
    let grown : c.push_back.new.self.items ≡ kept ++ answer ∷ [] =
    ap (λ (b : Buffer KeptAnswer). b.items) c.push_back.ensures.items
    ∙ ap (λ (n : ℕ). keep_last n (kept ++ answer ∷ [])) c.self.invariant.0
    ∙ kept_with_room kept answer room in (
      ap (λ (b : Buffer KeptAnswer). b.capacity) c.push_back.ensures.items ∙ c.self.invariant.0,
      index_pushed kept c.self.inside.index.items c.self.invariant.1 answer c.search-end.result.end _ c.as_slice.ensures.value c.search-end.ensures.end
          _ c.len.ensures.value _ grown _ c.insert.ensures.items,
    )
