-- The newest answer to a client and line, found by the index.
use Rattle.std.proofs.Common.{◌≡◌, ℕ, zero, suc, ◌-◌, ◌<◌, Bool, true, false, cond, List, [], ◌∷◌, length, Option, Some, None, inl, inr, refl, sym, ap, ◌∙◌, get_or, Less, Equal, is_eq, arith}
use Rattle.std.specs.Option.{option_map, option_or}
use Rattle.std.proofs.lemmas.Bool.{cases_lt, cases_order}
use Rattle.std.proofs.lemmas.Cmp.{alike_right}
use Rattle.answer_ring.specs.AnswerIndex.{answer_at, indexed_answer, IsIndex, IsEnd, IsLastEqual}
use Rattle.answer_ring.specs.Answers.{KeptAnswer, answer_order, is_answer_to, kept_answer}
use Rattle.answer_ring.proofs.OrderLemmas.{answer_order_total, before_from_order, not_tied_above, tied_answers}

module _ (client : ℕ) (line : List ℕ) where
  pub none_kept : (kept : List KeptAnswer) → ((p : ℕ) → p < length kept → is_answer_to client line (answer_at kept p) ≡ false) → kept_answer kept client line ≡ None
  none_kept [] other = refl
  none_kept (x ∷ xs) other =
      let rest : kept_answer xs client line ≡ None = none_kept xs (λ p lt. other (suc p) (omega arith)) in
      let here : is_answer_to client line x ≡ false = other 0 (omega arith) in
      ap (λ (o : Option (List ℕ)). option_or o (cond (is_answer_to client line x) (Some x.text) None)) rest
      ∙ ap (λ (b : Bool). cond b (Some x.text) None) here

  pub newest_kept : (kept : List KeptAnswer) (p : ℕ) → p < length kept → is_answer_to client line (answer_at kept p) ≡ true
      → ((q : ℕ) → p < q → q < length kept → is_answer_to client line (answer_at kept q) ≡ false)
      → kept_answer kept client line ≡ Some (answer_at kept p).text
  newest_kept [] p within this other = absurd (omega arith)
  newest_kept (x ∷ xs) zero within this other =
      let rest : kept_answer xs client line ≡ None = none_kept xs (λ q lt. other (suc q) (omega arith) (omega arith)) in
      ap (λ (o : Option (List ℕ)). option_or o (cond (is_answer_to client line x) (Some x.text) None)) rest
      ∙ ap (λ (b : Bool). cond b (Some x.text) None) this
  newest_kept (x ∷ xs) (suc p) within this other =
      let rest : kept_answer xs client line ≡ Some (answer_at xs p).text =
      newest_kept xs p (omega arith) this (λ q above lt. other (suc q) (omega arith) (omega arith)) in
      ap (λ (o : Option (List ℕ)). option_or o (cond (is_answer_to client line x) (Some x.text) None)) rest

module _ (kept : List KeptAnswer) (places : List ℕ) (index : IsIndex kept places) (sought : KeptAnswer) (end : ℕ) (ends : IsEnd kept places sought end) where
  -- an answer that no place of the index is at
  other_place : (p i : ℕ) → get_or places i 0 ≡ p → is_eq (answer_order (indexed_answer kept places i) sought) ≡ false
      → is_answer_to sought.client sought.line (answer_at kept p) ≡ false
  other_place p i e h =
      tied_answers (answer_at kept p) sought
      ∙ ap (λ (m : ℕ). is_eq (answer_order (answer_at kept m) sought)) (sym e)
      ∙ h

  nothing_found : ((i : ℕ) → i < end → answer_order (indexed_answer kept places i) sought ≡ Less) → (p : ℕ) → p < length kept
      → is_answer_to sought.client sought.line (answer_at kept p) ≡ false
  nothing_found less p lt =
      let place = index.whole p lt in
      let i = place.0 in
      other_place p i place.2
      (elim (cases_lt i end) [
        | inl below ↦ ap is_eq (less i below)
        | inr above ↦ not_tied_above _ (ends.above i above place.1)
      ])

  -- a place after the last equal answer is for another client or line
  later_is_other : (last : ℕ) → end ≡ suc last → answer_order (indexed_answer kept places last) sought ≡ Equal
      → (q : ℕ) → get_or places last 0 < q → q < length kept
      → is_answer_to sought.client sought.line (answer_at kept q) ≡ false
  later_is_other last is_last equal q later lt =
      let place = index.whole q lt in
      let i = place.0 in
      let at : get_or places i 0 ≡ q = place.2 in
      other_place q i at
      (elim (cases_lt i end) [
        | inl below ↦ elim (cases_order i last) [
          | inl same ↦ absurd (let e : get_or places i 0 ≡ get_or places last 0 = ap (λ (m : ℕ). get_or places m 0) same in omega arith)
          | inr apart ↦ elim apart [
            | inl before ↦ elim (before_from_order kept (get_or places i 0) (get_or places last 0) (index.ordered i last 0 before (omega (arith, ends.in_range)))) [
              | inl less ↦ ap is_eq (sym (alike_right answer_order_total (indexed_answer kept places last) sought (indexed_answer kept places i) equal) ∙ less)
              | inr tied ↦ absurd (omega (arith, tied.1))
            ]
            | inr after ↦ absurd (omega arith)
          ]
        ]
        | inr above ↦ not_tied_above _ (ends.above i above place.1)
      ])

  -- what the search has found is the newest that is kept
  pub newest_found : (newest : Option KeptAnswer) → IsLastEqual kept places sought end newest
      → option_map (λ (k : KeptAnswer). k.text) newest ≡ kept_answer kept sought.client sought.line
  newest_found None less = sym (none_kept sought.client sought.line kept (nothing_found less))
  newest_found (Some answer) last =
      let i = end - 1 in
      let is_last : end ≡ suc i = omega (arith, last.0) in
      let equal : answer_order (indexed_answer kept places i) sought ≡ Equal = ap (λ (a : KeptAnswer). answer_order a sought) (sym last.1) ∙ last.2 in
      ap (λ (a : KeptAnswer). Some a.text) last.1
      ∙ sym (newest_kept sought.client sought.line kept (get_or places i 0) (index.within i (omega (arith, ends.in_range, last.0)))
      (tied_answers (indexed_answer kept places i) sought ∙ ap is_eq equal)
      (later_is_other i is_last equal))
