-- The steps of a search by halves.
use Rattle.std.proofs.Common.{◌≡◌, ℕ, ◌+◌, ◌-◌, ◌*◌, ◌/◌, ◌^◌, ◌<◌, ◌≤◌, true, false, List, length, inl, inr, refl, sym, ap, ◌∙◌, get_or, Option, Some, Bor, Ordering, Less, Equal, Greater, is_gt, arith}
use Rattle.std.specs.Cmp.{IsTotalOrder}
use Rattle.std.specs.List.{slice_get}
use Rattle.std.specs.Option.{option_copied}
use Rattle.std.proofs.lemmas.Bool.{cases_eq, cases_lt, true_from_ne_false, both_ways}
use Rattle.std.proofs.lemmas.Cmp.{upto}
use Rattle.std.proofs.lemmas.Grind.{pow_more}
use Rattle.std.proofs.lemmas.Option.{get_or_from_slice_get}
use Rattle.answer_ring.specs.AnswerIndex.{no_answer, answer_at, indexed_answer, IsIndex}
use Rattle.answer_ring.specs.Answers.{KeptAnswer, answer_order}
use Rattle.answer_ring.proofs.OrderLemmas.{answer_order_total, at_most_from_before}

below_then_less : {K : Type 0} {R : K → K → Ordering} (o : IsTotalOrder R) (x y z : K) → is_gt (R x y) ≡ false → R y z ≡ Less → R x z ≡ Less
below_then_less {R = R} o x y z h less =
    elim (R x y) as (λ r. R x y ≡ r → is_gt r ≡ false → R x z ≡ Less) [
      | Less ↦ λ e _. o.trans x y z e less
      | Equal ↦ λ e _. o.congr x y z e ∙ less
      | Greater ↦ λ e f. absurd (let g : true ≡ false = f in cc)
    ] refl h

module _ (kept : List KeptAnswer) (places : List ℕ) (index : IsIndex kept places) (sought : KeptAnswer) (middle : ℕ) (within : middle < length places) where
  -- if the middle answer is at most `sought`, all answers up to it are
  pub at_most_up_to : is_gt (answer_order (indexed_answer kept places middle) sought) ≡ false → (i : ℕ) → i < middle + 1
      → is_gt (answer_order (indexed_answer kept places i) sought) ≡ false
  at_most_up_to h i lt =
      elim (cases_lt i middle) [
        | inl before ↦ upto answer_order_total _ _ _ (at_most_from_before kept _ _ (index.ordered i middle 0 before within)) h
        | inr after ↦ (let e : i ≡ middle = omega arith in ap (λ (m : ℕ). is_gt (answer_order (indexed_answer kept places m) sought)) e ∙ h)
      ]

  -- if the middle answer is above `sought`, all answers from it on are
  pub above_from : is_gt (answer_order (indexed_answer kept places middle) sought) ≡ true → (i : ℕ) → middle ≤ i → i < length places
      → is_gt (answer_order (indexed_answer kept places i) sought) ≡ true
  above_from h i le lt =
      elim (cases_lt middle i) [
        | inl before ↦ true_from_ne_false _ (λ f. both_ways _ (upto answer_order_total _ _ _ (at_most_from_before kept _ _ (index.ordered middle i 0 before lt)) f) h)
        | inr after ↦ (let e : i ≡ middle = omega arith in ap (λ (m : ℕ). is_gt (answer_order (indexed_answer kept places m) sought)) e ∙ h)
      ]

  -- if the middle answer is below `sought`, all answers up to it are
  pub less_up_to : answer_order (indexed_answer kept places middle) sought ≡ Less → (i : ℕ) → i < middle + 1
      → answer_order (indexed_answer kept places i) sought ≡ Less
  less_up_to h i lt =
      elim (cases_lt i middle) [
        | inl before ↦ below_then_less answer_order_total _ _ _ (at_most_from_before kept _ _ (index.ordered i middle 0 before within)) h
        | inr after ↦ (let e : i ≡ middle = omega arith in ap (λ (m : ℕ). answer_order (indexed_answer kept places m) sought) e ∙ h)
      ]

-- a range that isn't empty halves
halved : (size left : ℕ) → 0 < size → size < 2 ^ left → (half : ℕ) → half ≤ size / 2 → (0 < left) × (half < 2 ^ (left - 1))
halved size left some few half le =
    elim (cases_eq left 0) [
      | inl none ↦ absurd (let one : 2 ^ left ≡ 1 = ap (λ (n : ℕ). 2 ^ n) none in omega (arith, one))
      | inr some_left ↦ (let next : left ≡ (left - 1) + 1 = omega arith in
          let twice : 2 ^ left ≡ 2 ^ (left - 1) * 2 = ap (λ (n : ℕ). 2 ^ n) next ∙ pow_more 2 (left - 1) in
          (omega arith, omega (arith, twice)))
    ]

-- the range is empty after at most `most` comparisons, each of which halves it
pub halved_again : (most size count next : ℕ) → next ≡ count + 1 → 0 < size → size < 2 ^ (most - count) → (half : ℕ) → half ≤ size / 2
    → (next ≤ most) × (half < 2 ^ (most - next))
halved_again most size count next is_next some few half le =
    let h : (0 < most - count) × (half < 2 ^ ((most - count) - 1)) = halved size (most - count) some few half le in
    let same : 2 ^ (most - next) ≡ 2 ^ ((most - count) - 1) = (let e : most - next ≡ (most - count) - 1 = omega arith in ap (λ (n : ℕ). 2 ^ n) e) in
    (omega (arith, h.0), omega (arith, h.1, same))

-- what the comparison of an answer of the index tells of its place
pub order_at : (kept : List KeptAnswer) (places : List ℕ) (sought : KeptAnswer) (i place : ℕ) → place ≡ get_or places i 0
    → (got : Option (Bor KeptAnswer)) (answer : Bor KeptAnswer) → got ≡ Some answer → option_copied got ≡ slice_get kept place
    → (order : Ordering) → order ≡ answer_order answer.now sought
    → (indexed_answer kept places i ≡ answer.now) × (answer_order (indexed_answer kept places i) sought ≡ order)
order_at kept places sought i place is_place got answer is reads order is_order =
    let read : indexed_answer kept places i ≡ answer.now =
    ap (answer_at kept) (sym is_place) ∙ get_or_from_slice_get kept place answer.now no_answer (sym reads ∙ ap option_copied is) in
    (read, ap (λ (a : KeptAnswer). answer_order a sought) read ∙ sym is_order)
