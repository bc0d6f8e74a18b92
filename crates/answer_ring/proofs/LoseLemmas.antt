-- The index after the oldest answer was removed.
use Rattle.std.proofs.Common.{◌≡◌, ◌≢◌, ℕ, ◌+◌, ◌-◌, ◌<◌, ◌≤◌, Bool, false, eqb, eqb-true, eq-eqb, List, ◌++◌, append-nil, length, map, take, take_all, drop, Some, None, inl, inr, sym, ap, ap₂, ◌∙◌, get_or, Less, arith, length-drop}
use Rattle.std.specs.List.{position, position_or_len, refill, remove}
use Rattle.std.proofs.lemmas.Bool.{both_ways, cases_lt, cases_order, cond_below}
use Rattle.std.proofs.lemmas.Grind.{get_or_after_one}
use Rattle.std.proofs.lemmas.List.{drop_all, get_or-map, length-map}
use Rattle.std.proofs.lemmas.List.Edits.{get_or-remove_above, get_or-remove_below, length-remove}
use Rattle.std.proofs.lemmas.List.Quantifiers.{all_pairs_remove, position-Some}
use Rattle.std.proofs.lemmas.List.Sums.{fails_before_first}
use Rattle.std.proofs.lemmas.Option.{none-some}
use Rattle.answer_ring.specs.AnswerIndex.{no_answer, answer_at, place_order, IsIndex, IsIndexOfRest}
use Rattle.answer_ring.specs.Answers.{KeptAnswer, answer_order}
use Rattle.answer_ring.proofs.GrowLemmas.{all_pairs_from_reads}
use Rattle.answer_ring.proofs.OrderLemmas.{before_from_order, order_from_less, order_from_older, never_before_itself}

-- one place lower in a list that is one shorter at its front
lowered_answer : (kept : List KeptAnswer) (p u : ℕ) → u ≡ p + 1 → answer_at (drop 1 kept) p ≡ answer_at kept u
lowered_answer kept p u e =
    get_or_after_one kept p no_answer ∙ (let same : 1 + p ≡ u = omega arith in ap (answer_at kept) same)

lowered_pair : (kept : List KeptAnswer) (p q u v : ℕ) → u ≡ p + 1 → v ≡ q + 1 → place_order kept u v ≡ Less → place_order (drop 1 kept) p q ≡ Less
lowered_pair kept p q u v e f h =
    let same : answer_order (answer_at (drop 1 kept) p) (answer_at (drop 1 kept) q) ≡ answer_order (answer_at kept u) (answer_at kept v) =
    ap₂ answer_order (lowered_answer kept p u e) (lowered_answer kept q v f) in
    elim (before_from_order kept u v h) [
      | inl less ↦ order_from_less (drop 1 kept) p q (same ∙ less)
      | inr tied ↦ order_from_older (drop 1 kept) p q (same ∙ tied.0) (omega (arith, tied.1))
    ]

module _ (kept : List KeptAnswer) (places : List ℕ) (index : IsIndex kept places) (at : ℕ) (within : at < length places) (oldest : get_or places at 0 ≡ 0) where
  abbrev rest : List ℕ
  rest = remove places at

  abbrev left : List ℕ
  left = map (λ (p : ℕ). p - 1) rest

  length_rest : length rest + 1 ≡ length places
  length_rest = length-remove places at within

  length_left : length left ≡ length rest
  length_left = length-map rest (λ (p : ℕ). p - 1)

  -- the oldest answer has exactly one place
  above_zero : (i : ℕ) → i < length places → i ≢ at → 0 < get_or places i 0
  above_zero i lt other =
      elim (cases_lt 0 (get_or places i 0)) [
        | inl some ↦ some
        | inr none ↦ (let same : get_or places i 0 ≡ get_or places at 0 = omega arith in
            elim (cases_order i at) [
              | inl e ↦ absurd (other e)
              | inr apart ↦ elim apart [
                | inl before ↦ absurd (never_before_itself kept _ _ (index.ordered i at 0 before within) same)
                | inr after ↦ absurd (never_before_itself kept _ _ (index.ordered at i 0 after lt) (sym same))
              ]
            ])
      ]

  rest_below : (k : ℕ) → k < at → get_or rest k 0 ≡ get_or places k 0
  rest_below k lt = get_or-remove_below places at 0 k lt within

  rest_above : (k : ℕ) → at ≤ k → get_or rest k 0 ≡ get_or places (k + 1) 0
  rest_above k le = get_or-remove_above places at 0 k le within

  rest_range : (k : ℕ) → k < length rest → (0 < get_or rest k 0) × (get_or rest k 0 < length kept)
  rest_range k lt =
      let len : length rest + 1 ≡ length places = length_rest in
      elim (cases_lt k at) [
        | inl below ↦ (let e = rest_below k below in
            let some : 0 < get_or places k 0 = above_zero k (omega arith) (omega arith) in
            let few : get_or places k 0 < length kept = index.within k (omega arith) in
            (omega (arith, e), omega (arith, e)))
        | inr above ↦ (let e = rest_above k above in
            let some : 0 < get_or places (k + 1) 0 = above_zero (k + 1) (omega arith) (omega arith) in
            let few : get_or places (k + 1) 0 < length kept = index.within (k + 1) (omega arith) in
            (omega (arith, e), omega (arith, e)))
      ]

  -- each place that is left is one lower than it was
  lowered : (k : ℕ) → k < length rest → get_or rest k 0 ≡ get_or left k 0 + 1
  lowered k lt =
      let e : get_or left k 0 ≡ get_or rest k 0 - 1 = get_or-map (λ (p : ℕ). p - 1) rest k 0 0 lt in
      let some : 0 < get_or rest k 0 = (rest_range k lt).0 in
      omega (arith, e)

  lost_order : (i j : ℕ) → i < j → j < length left → place_order (drop 1 kept) (get_or left i 0) (get_or left j 0) ≡ Less
  lost_order i j lt lt_left =
      let len : length left ≡ length rest = length_left in
      let before : place_order kept (get_or rest i 0) (get_or rest j 0) ≡ Less =
      all_pairs_remove (λ (p q : ℕ). place_order kept p q ≡ Less) places at within index.ordered i j 0 lt (omega arith) in
      lowered_pair kept _ _ _ _ (lowered i (omega arith)) (lowered j (omega arith)) before

  lost_whole : (place : ℕ) → place < length (drop 1 kept) → (k : ℕ) × (k < length left) × (get_or left k 0 ≡ place)
  lost_whole place lt =
      let len : length left ≡ length rest = length_left in
      let len_rest : length rest + 1 ≡ length places = length_rest in
      let less : place + 1 < length kept = omega (arith, length-drop 1 kept) in
      let stands = index.whole (place + 1) less in
      let i = stands.0 in
      let lt_places : i < length places = stands.1 in
      let e : get_or places i 0 ≡ place + 1 = stands.2 in
      let at_read : i ≡ at → get_or places i 0 ≡ get_or places at 0 = λ (same : i ≡ at). ap (λ (m : ℕ). get_or places m 0) same in
      elim (cases_order i at) [
        | inl same ↦ absurd (let z = at_read same in omega (arith, z))
        | inr apart ↦ elim apart [
          | inl before ↦ (let r = rest_below i before in
              let low : get_or rest i 0 ≡ get_or left i 0 + 1 = lowered i (omega arith) in
              (i, omega arith, omega (arith, r, low)))
          | inr after ↦ (let k = i - 1 in
              let r : get_or rest k 0 ≡ get_or places (k + 1) 0 = rest_above k (omega arith) in
              let same : get_or places (k + 1) 0 ≡ get_or places i 0 = (let n : k + 1 ≡ i = omega arith in ap (λ (m : ℕ). get_or places m 0) n) in
              let low : get_or rest k 0 ≡ get_or left k 0 + 1 = lowered k (omega arith) in
              (k, omega arith, omega (arith, r, same, low)))
        ]
      ]

  lost_within : (k : ℕ) → k < length left → get_or left k 0 < length (drop 1 kept)
  lost_within k lt =
      let len : length left ≡ length rest = length_left in
      let few : get_or rest k 0 < length kept = (rest_range k (omega arith)).1 in
      let low : get_or rest k 0 ≡ get_or left k 0 + 1 = lowered k (omega arith) in
      omega (arith, length-drop 1 kept, low)

  -- the index of all but the oldest
  pub index_lost : IsIndex (drop 1 kept) (map (λ (p : ℕ). p - 1) (remove places at))
  index_lost = record {
    as_many = omega (arith, length_left, length_rest, index.as_many, length-drop 1 kept);
    within = lost_within;
    ordered = all_pairs_from_reads (λ (p q : ℕ). place_order (drop 1 kept) p q ≡ Less) left lost_order;
    whole = lost_whole;
  }

no_position : (p : ℕ → Bool) (xs : List ℕ) → position p xs ≡ None → (i : ℕ) → i < length xs → p (get_or xs i 0) ≡ false
no_position p xs none i lt =
    elim (cases_lt i (position_or_len p xs)) [
      | inl before ↦ fails_before_first p xs i 0 before
      | inr after ↦ absurd (none-some (position_or_len p xs) (sym none ∙ sym (cond_below (position_or_len p xs) (length xs) (Some (position_or_len p xs)) None (omega arith))))
    ]

-- the oldest place is removed at its position
pub loses_found : (places : List ℕ) (at : ℕ) → Some at ≡ position (λ (p : ℕ). eqb p 0) places
    → IsIndexOfRest places (map (λ (p : ℕ). p - 1) (remove places at))
loses_found places at found kept index some =
    let there = position-Some (λ (p : ℕ). eqb p 0) places at 0 (sym found) in
    index_lost kept places index at there.0 (eqb-true _ _ there.1)

-- and it is always found
pub loses_none : (places new : List ℕ) → None ≡ position (λ (p : ℕ). eqb p 0) places → IsIndexOfRest places new
loses_none places new none kept index some =
    let stands = index.whole 0 some in
    let other : eqb (get_or places stands.0 0) 0 ≡ false = no_position (λ (p : ℕ). eqb p 0) places (sym none) stands.0 stands.1 in
    absurd (both_ways _ other (eq-eqb _ _ stands.2))

-- a list that is written over by one as long
pub refilled : (xs ws : List ℕ) → length ws ≡ length xs → refill (length xs) xs ws ≡ ws
refilled xs ws e =
    ap (λ (rest : List ℕ). take (length xs) (ws ++ rest)) (drop_all (length ws) xs (omega arith))
    ∙ ap (take (length xs)) (append-nil ws)
    ∙ take_all (length xs) ws (omega arith)
