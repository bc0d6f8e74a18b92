-- The index of one answer more.
use Rattle.std.proofs.Common.{◌≡◌, ℕ, ◌+◌, ◌-◌, ◌<◌, ◌≤◌, true, false, List, [], ◌∷◌, ◌++◌, length, ◌⊎◌, inl, inr, refl, sym, ap, ap₂, ◌∙◌, subst, get_or, Ordering, Less, Equal, Greater, is_gt, arith}
use Rattle.std.specs.List.{AllPairs, insert}
use Rattle.std.specs.Ordering.{ordering_reverse}
use Rattle.std.proofs.lemmas.Bool.{cases_lt, cases_order}
use Rattle.std.proofs.lemmas.List.{get_or_append_left, get_or_default, get_or_push, length_push}
use Rattle.std.proofs.lemmas.List.Edits.{get_or-insert_above, get_or-insert_at, get_or-insert_below, length-insert}
use Rattle.answer_ring.specs.AnswerIndex.{no_answer, answer_at, place_order, IsIndex, IsEnd}
use Rattle.answer_ring.specs.Answers.{KeptAnswer, answer_order}
use Rattle.answer_ring.proofs.OrderLemmas.{answer_order_total, before_from_order, order_from_less, order_from_older}

-- pairs that are read at the default 0
pub all_pairs_from_reads : (R : ℕ → ℕ → Type 0) (xs : List ℕ) → ((i j : ℕ) → i < j → j < length xs → R (get_or xs i 0) (get_or xs j 0)) → AllPairs R xs
all_pairs_from_reads R xs h i j d lt within =
    subst (λ (u : ℕ). R u (get_or xs j d)) (get_or_default xs i 0 d (omega arith))
    (subst (λ (v : ℕ). R (get_or xs i 0) v) (get_or_default xs j 0 d within) (h i j lt within))

greater_from_test : (o : Ordering) → is_gt o ≡ true → o ≡ Greater
greater_from_test Less h = cc
greater_from_test Equal h = cc
greater_from_test Greater h = refl

module _ (kept : List KeptAnswer) (places : List ℕ) (index : IsIndex kept places) (answer : KeptAnswer) (end : ℕ) (ends : IsEnd kept places answer end) where
  abbrev grown : List KeptAnswer
  grown = kept ++ answer ∷ []

  abbrev more : List ℕ
  more = insert places end (length kept)

  old_answer : (p : ℕ) → p < length kept → answer_at grown p ≡ answer_at kept p
  old_answer p lt = get_or_append_left kept (answer ∷ []) no_answer p lt

  new_answer : answer_at grown (length kept) ≡ answer
  new_answer = get_or_push kept answer no_answer (length kept) refl

  length_more : length more ≡ length places + 1
  length_more = length-insert places end (length kept) ends.in_range

  place_below : (i : ℕ) → i < end → get_or more i 0 ≡ get_or places i 0
  place_below i lt = get_or-insert_below places end (length kept) 0 i lt ends.in_range

  place_at : (i : ℕ) → i ≡ end → get_or more i 0 ≡ length kept
  place_at i e = ap (λ (m : ℕ). get_or more m 0) e ∙ get_or-insert_at places end (length kept) 0 ends.in_range

  place_above : (i m : ℕ) → i ≡ m + 1 → end ≤ m → get_or more i 0 ≡ get_or places m 0
  place_above i m e le = ap (λ (k : ℕ). get_or more k 0) e ∙ get_or-insert_above places end (length kept) 0 m le ends.in_range

  -- before the new place, at it, or after it
  spot : (i : ℕ) → (i < end) ⊎ ((i ≡ end) ⊎ (end < i))
  spot i =
      elim (cases_order i end) [
        | inl e ↦ inr (inl e)
        | inr apart ↦ elim apart [ inl lt ↦ inl lt | inr gt ↦ inr (inr gt) ]
      ]

  old_pair : (p q : ℕ) → p < length kept → q < length kept → place_order kept p q ≡ Less → place_order grown p q ≡ Less
  old_pair p q within_p within_q h =
      let same : answer_order (answer_at grown p) (answer_at grown q) ≡ answer_order (answer_at kept p) (answer_at kept q) =
      ap₂ answer_order (old_answer p within_p) (old_answer q within_q) in
      elim (before_from_order kept p q h) [
        | inl less ↦ order_from_less grown p q (same ∙ less)
        | inr tied ↦ order_from_older grown p q (same ∙ tied.0) tied.1
      ]

  before_new : (p : ℕ) → p < length kept → is_gt (answer_order (answer_at kept p) answer) ≡ false → place_order grown p (length kept) ≡ Less
  before_new p within h =
      let same : answer_order (answer_at grown p) (answer_at grown (length kept)) ≡ answer_order (answer_at kept p) answer =
      ap₂ answer_order (old_answer p within) new_answer in
      elim (answer_order (answer_at kept p) answer) as (λ o. answer_order (answer_at kept p) answer ≡ o → is_gt o ≡ false → place_order grown p (length kept) ≡ Less) [
        | Less ↦ λ e _. order_from_less grown p (length kept) (same ∙ e)
        | Equal ↦ λ e _. order_from_older grown p (length kept) (same ∙ e) within
        | Greater ↦ λ e f. absurd (let g : true ≡ false = f in cc)
      ] refl h

  after_new : (q : ℕ) → q < length kept → is_gt (answer_order (answer_at kept q) answer) ≡ true → place_order grown (length kept) q ≡ Less
  after_new q within h =
      let same : answer_order (answer_at grown (length kept)) (answer_at grown q) ≡ answer_order answer (answer_at kept q) =
      ap₂ answer_order new_answer (old_answer q within) in
      order_from_less grown (length kept) q
      (same ∙ answer_order_total.antisymm answer (answer_at kept q) ∙ ap ordering_reverse (greater_from_test _ h))

  moved : (p q u v : ℕ) → u ≡ p → v ≡ q → place_order grown p q ≡ Less → place_order grown u v ≡ Less
  moved p q u v e f h = ap₂ (place_order grown) e f ∙ h

  grown_order : (i j : ℕ) → i < j → j < length more → place_order grown (get_or more i 0) (get_or more j 0) ≡ Less
  grown_order i j lt lt_more =
      let within : j < length places + 1 = omega (arith, length_more) in
      let range : end ≤ length places = ends.in_range in
      elim (spot j) [
        | inl j_below ↦ moved (get_or places i 0) (get_or places j 0) _ _ (place_below i (omega arith)) (place_below j j_below)
            (old_pair _ _ (index.within i (omega arith)) (index.within j (omega arith)) (index.ordered i j 0 lt (omega arith)))
        | inr j_not_below ↦ elim j_not_below [
          | inl j_at ↦ moved (get_or places i 0) (length kept) _ _ (place_below i (omega arith)) (place_at j j_at)
              (before_new _ (index.within i (omega arith)) (ends.below i (omega arith)))
          | inr j_above ↦ (let m = j - 1 in
              let j_reads : get_or more j 0 ≡ get_or places m 0 = place_above j m (omega arith) (omega arith) in
              elim (spot i) [
                | inl i_below ↦ moved (get_or places i 0) (get_or places m 0) _ _ (place_below i i_below) j_reads
                    (old_pair _ _ (index.within i (omega arith)) (index.within m (omega arith)) (index.ordered i m 0 (omega arith) (omega arith)))
                | inr i_not_below ↦ elim i_not_below [
                  | inl i_at ↦ moved (length kept) (get_or places m 0) _ _ (place_at i i_at) j_reads
                      (after_new _ (index.within m (omega arith)) (ends.above m (omega arith) (omega arith)))
                  | inr i_above ↦ moved (get_or places (i - 1) 0) (get_or places m 0) _ _ (place_above i (i - 1) (omega arith) (omega arith)) j_reads
                      (old_pair _ _ (index.within (i - 1) (omega arith)) (index.within m (omega arith)) (index.ordered (i - 1) m 0 (omega arith) (omega arith)))
                ]
              ])
        ]
      ]

  grown_within : (i : ℕ) → i < length more → get_or more i 0 < length grown
  grown_within i lt =
      let len : length grown ≡ length kept + 1 = length_push kept answer in
      let within : i < length places + 1 = omega (arith, length_more) in
      let range : end ≤ length places = ends.in_range in
      elim (spot i) [
        | inl below ↦ (let e = place_below i below in let old : get_or places i 0 < length kept = index.within i (omega arith) in omega (arith, e))
        | inr not_below ↦ elim not_below [
          | inl at ↦ (let e = place_at i at in omega (arith, e))
          | inr above ↦ (let e = place_above i (i - 1) (omega arith) (omega arith) in let old : get_or places (i - 1) 0 < length kept = index.within (i - 1) (omega arith) in omega (arith, e))
        ]
      ]

  grown_whole : (place : ℕ) → place < length grown → (i : ℕ) × (i < length more) × (get_or more i 0 ≡ place)
  grown_whole place lt =
      let len : length grown ≡ length kept + 1 = length_push kept answer in
      let range : end ≤ length places = ends.in_range in
      elim (cases_lt place (length kept)) [
        | inl old ↦ (let stands = index.whole place old in
            let i = stands.0 in
            let within : i < length places = stands.1 in
            elim (cases_lt i end) [
              | inl below ↦ (i, omega (arith, length_more), place_below i below ∙ stands.2)
              | inr above ↦ (i + 1, omega (arith, length_more), place_above (i + 1) i refl above ∙ stands.2)
            ])
        | inr new ↦ (end, omega (arith, length_more), place_at end refl ∙ omega arith)
      ]

  -- the index of one answer more
  pub index_grown : IsIndex (kept ++ answer ∷ []) (insert places end (length kept))
  index_grown = record {
    as_many = omega (arith, length_more, length_push kept answer, index.as_many);
    within = grown_within;
    ordered = all_pairs_from_reads (λ (p q : ℕ). place_order grown p q ≡ Less) more grown_order;
    whole = grown_whole;
  }

-- the same of the lists that the calls leave
pub index_pushed : (kept : List KeptAnswer) (places : List ℕ) → IsIndex kept places → (answer : KeptAnswer) (end : ℕ) (slice : List ℕ) → slice ≡ places
    → IsEnd kept slice answer end → (number : ℕ) → number ≡ length places → (grown : List KeptAnswer) → grown ≡ kept ++ answer ∷ []
    → (more : List ℕ) → more ≡ insert places end number → IsIndex grown more
index_pushed kept places index answer end slice is_slice ends number is_number grown is_grown more is_more =
    let ends_here : IsEnd kept places answer end = subst (λ (xs : List ℕ). IsEnd kept xs answer end) is_slice ends in
    let last : insert places end number ≡ insert places end (length kept) =
    ap (λ (n : ℕ). insert places end n) (is_number ∙ index.as_many) in
    subst (λ (xs : List KeptAnswer). IsIndex xs more) (sym is_grown)
    (subst (λ (xs : List ℕ). IsIndex (kept ++ answer ∷ []) xs) (sym (is_more ∙ last)) (index_grown kept places index answer end ends_here))
