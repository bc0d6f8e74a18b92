-- A text cut in two at the first of a mark.
use Rattle.std.proofs.Common.{◌≡◌, ℕ, ◌+◌, ◌-◌, ◌<◌, ◌≤◌, Bool, nat_lt, List, [], ◌∷◌, length, take, drop, Option, Some, None, sym, ap, subst, ◌∙◌, arith}
use Rattle.std.specs.Prelude.{◌==◌, position}
use Rattle.std.specs.List.{slice_split, position_or_len}
use Rattle.std.proofs.lemmas.Bool.{cond_both, ltb-false, ltb-true}
use Rattle.std.proofs.lemmas.List.{take_all, length-drop}
use Rattle.std.proofs.lemmas.List.Splits.{slice_split_first, slice_split_none}
use Rattle.std.proofs.lemmas.List.Sums.{fails_before_first}
use Rattle.field_text.specs.Cut.{Halves, halves_at, halves_of}

-- the rest of a text after a place, as a slice to its end
tail_of : (text : List ℕ) (i : ℕ) → take (length text - (i + 1)) (drop (i + 1) text) ≡ drop (i + 1) text
tail_of text i = take_all (length text - (i + 1)) (drop (i + 1) text) (omega (arith, length-drop (i + 1) text))

none_before : (p : ℕ → Bool) (text : List ℕ) → None ≡ position p text → length text ≤ position_or_len p text
none_before p text =
    cond_both (nat_lt (position_or_len p text) (length text)) (Some (position_or_len p text)) None
    (λ (o : Option ℕ). None ≡ o → length text ≤ position_or_len p text)
    (λ t e. absurd (cc))
    (λ f e. ltb-false _ _ f)

first_at : (p : ℕ → Bool) (text : List ℕ) (i : ℕ) → Some i ≡ position p text → (i ≡ position_or_len p text) × (position_or_len p text < length text)
first_at p text i =
    cond_both (nat_lt (position_or_len p text) (length text)) (Some (position_or_len p text)) None
    (λ (o : Option ℕ). Some i ≡ o → (i ≡ position_or_len p text) × (position_or_len p text < length text))
    (λ t e. (cc, ltb-true _ _ t))
    (λ f e. absurd (cc))

pub whole_piece : (p : ℕ → Bool) (text : List ℕ) → None ≡ position p text → slice_split p text ≡ text ∷ []
whole_piece p text e =
    let le = none_before p text e in
    slice_split_none p text (λ k d l. fails_before_first p text k d (omega arith))

pub first_piece : (p : ℕ → Bool) (text : List ℕ) (i : ℕ) → Some i ≡ position p text
    → slice_split p text ≡ take i text ∷ slice_split p (take (length text - (i + 1)) (drop (i + 1) text))
first_piece p text i e =
    let at = first_at p text i e in
    let split : slice_split p text ≡ take i text ∷ slice_split p (drop (i + 1) text) =
    subst (λ (k : ℕ). slice_split p text ≡ take k text ∷ slice_split p (drop (k + 1) text)) (sym at.0) (slice_split_first p text 0 at.1) in
    split ∙ ap (λ (r : List ℕ). take i text ∷ slice_split p r) (sym (tail_of text i))

pub halves_at_place : (mark : ℕ) (text : List ℕ) (i : ℕ) → Some i ≡ position (λ b. b == mark) text
    → Some (record { before = take i text; behind = take (length text - (i + 1)) (drop (i + 1) text) }) ≡ halves_of mark text
halves_at_place mark text i e =
    let at : List ℕ → Option Halves = λ r. Some (record { before = take i text; behind = r }) in
    ap at (tail_of text i) ∙ ap (halves_at text) e
