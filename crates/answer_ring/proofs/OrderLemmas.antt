-- The orders of kept answers and of their places.
use Rattle.std.proofs.Common.{◌≡◌, ℕ, ◌<◌, ◌&&◌, Bool, true, false, List, ◌⊎◌, inl, inr, refl, sym, ap, ◌∙◌, Ordering, Less, Equal, Greater, nat_cmp, is_eq, is_gt, arith}
use Rattle.std.specs.Cmp.{IsTotalOrder, unsigned_ties}
use Rattle.std.specs.Cmp.Lexicographic.{slice_cmp, texts_ties}
use Rattle.std.specs.Ordering.{ordering_then}
use Rattle.std.specs.Str.{bytes_eq}
use Rattle.std.proofs.lemmas.Cmp.{ranked, tied_itself, nat_cmp_total, nat_list_cmp_total, on_total, then_total}
use Rattle.std.proofs.lemmas.Bool.{cond_below}
use Rattle.answer_ring.specs.AnswerIndex.{answer_at, place_order}
use Rattle.answer_ring.specs.Answers.{KeptAnswer, answer_order, is_answer_to}

pub answer_order_total : IsTotalOrder answer_order
unfolding answer_order
answer_order_total =
    then_total (on_total (λ (a : KeptAnswer). a.client) nat_cmp_total) (on_total (λ (a : KeptAnswer). a.line) nat_list_cmp_total)

tied_then : (o p : Ordering) → is_eq (ordering_then o p) ≡ (is_eq o && is_eq p)
tied_then Less p = refl
tied_then Equal p = refl
tied_then Greater p = refl

-- two answers are to the same client and line if the order finds them equal
pub tied_answers : (a b : KeptAnswer) → is_answer_to b.client b.line a ≡ is_eq (answer_order a b)
unfolding answer_order
tied_answers a b =
    ap (λ (t : Bool). t && bytes_eq a.line b.line) (unsigned_ties a.client b.client)
    ∙ ap (λ (t : Bool). is_eq (nat_cmp a.client b.client) && t) (texts_ties a.line b.line)
    ∙ sym (tied_then (nat_cmp a.client b.client) (slice_cmp nat_cmp a.line b.line))

-- one place comes before another: its answer does, or it is the older of two to the same client and line
abbrev pub ComesBefore : List KeptAnswer → ℕ → ℕ → Type 0
ComesBefore kept p q =
    (answer_order (answer_at kept p) (answer_at kept q) ≡ Less)
    ⊎ ((answer_order (answer_at kept p) (answer_at kept q) ≡ Equal) × (p < q))

parts_of_then : (o : Ordering) (p q : ℕ) → ordering_then o (nat_cmp p q) ≡ Less → (o ≡ Less) ⊎ ((o ≡ Equal) × (p < q))
parts_of_then Less p q h = inl refl
parts_of_then Equal p q h = inr (refl, ranked p q Less (sym h))
parts_of_then Greater p q h = cc

pub before_from_order : (kept : List KeptAnswer) (p q : ℕ) → place_order kept p q ≡ Less → ComesBefore kept p q
unfolding place_order
before_from_order kept p q h = parts_of_then (answer_order (answer_at kept p) (answer_at kept q)) p q h

pub order_from_less : (kept : List KeptAnswer) (p q : ℕ) → answer_order (answer_at kept p) (answer_at kept q) ≡ Less → place_order kept p q ≡ Less
unfolding place_order
order_from_less kept p q h = ap (λ (o : Ordering). ordering_then o (nat_cmp p q)) h

pub order_from_older : (kept : List KeptAnswer) (p q : ℕ) → answer_order (answer_at kept p) (answer_at kept q) ≡ Equal → p < q → place_order kept p q ≡ Less
unfolding place_order
order_from_older kept p q h lt = ap (λ (o : Ordering). ordering_then o (nat_cmp p q)) h ∙ sym (cond_below p q Less _ lt)

-- no place comes before itself
pub never_before_itself : (kept : List KeptAnswer) (p q : ℕ) → place_order kept p q ≡ Less → p ≡ q → ⊥
never_before_itself kept p q h e =
    let itself : place_order kept p p ≡ Less = ap (λ (m : ℕ). place_order kept p m) e ∙ h in
    elim (before_from_order kept p p itself) [
      | inl less ↦ (let same : answer_order (answer_at kept p) (answer_at kept p) ≡ Equal = tied_itself answer_order_total (answer_at kept p) in cc)
      | inr tied ↦ absurd (omega (arith, tied.1))
    ]

pub at_most_from_before : (kept : List KeptAnswer) (p q : ℕ) → place_order kept p q ≡ Less → is_gt (answer_order (answer_at kept p) (answer_at kept q)) ≡ false
at_most_from_before kept p q h =
    elim (before_from_order kept p q h) [ inl less ↦ ap is_gt less | inr tied ↦ ap is_gt tied.0 ]

pub not_tied_above : (o : Ordering) → is_gt o ≡ true → is_eq o ≡ false
not_tied_above Less h = cc
not_tied_above Equal h = cc
not_tied_above Greater h = refl
