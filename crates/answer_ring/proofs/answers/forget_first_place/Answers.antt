use Rattle.std.proofs.Common.{◌≡◌, ℕ, ◌-◌, List, length, map, sym, ap, ◌∙◌, subst, eqb}
use Rattle.std.proofs.lemmas.List.{length-map}
use Rattle.std.specs.List.{position, refill, remove}
use Rattle.arrayvec.specs.ArrayVec.{ArrayVec}
use Rattle.answer_ring.specs.AnswerIndex.{IsIndexOfRest}
use Rattle.answer_ring.proofs.LoseLemmas.{loses_found, loses_none, refilled}
use Rattle.answer_ring.proofs.answers.forget_first_place.Goals as goal
use Rattle.answer_ring.proofs.answers.forget_first_place.Goals.{in-Some, in_default}

pub returns : goal.returns
returns c =
    let old = c.args.index.now.items in
    let mid = c.match-first_place.index.items in
    let lower = λ (p : ℕ). p - 1 in
    let lowered : c.lower_places.new.places ≡ map lower mid = c.lower_places.ensures ∙ ap (map lower) c.as_mut_slice.ensures.value in
    let left : refill (length mid) mid c.lower_places.new.places ≡ map lower mid =
    refilled mid c.lower_places.new.places (ap length lowered ∙ length-map mid lower) ∙ lowered in
    subst (IsIndexOfRest old) (sym left)
    (elim c.match-first_place.branch [
      | in-Some w ↦ (let left_over : mid ≡ remove old w.in-Some.oldest = ap (λ (v : ArrayVec ℕ). v.items) w.index-is ∙ w.remove.ensures.items in
          subst (λ (xs : List ℕ). IsIndexOfRest old (map lower xs)) (sym left_over)
          (loses_found old w.in-Some.oldest (w.in-Some.ensures ∙ ap (position (λ (p : ℕ). eqb p 0)) c.as_slice.ensures.value)))
      | in_default w ↦ loses_none old (map lower mid) (w.in_default.ensures ∙ ap (position (λ (p : ℕ). eqb p 0)) c.as_slice.ensures.value)
    ])
