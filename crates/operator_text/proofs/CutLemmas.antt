-- A text cut in two at its first mark.
use Rattle.std.proofs.Common.{◌≡◌, ℕ, ◌+◌, Bool, true, false, cond, List, [], ◌∷◌, ◌++◌, length, take, drop, get_or, Option, Some, None, refl, sym, ap, subst, ◌∙◌, arith, length-append}
use Rattle.std.specs.Prelude.{◌==◌, not, nat_lt, position}
use Rattle.std.specs.List.{list_all, position_or_len}
use Rattle.std.proofs.lemmas.Bool.{and_parts, eq-eqb, eqb-true, lt-ltb, not-true}
use Rattle.std.proofs.lemmas.List.{drop_at, drop_more, take-append-drop, take_at}
use Rattle.std.proofs.lemmas.List.Quantifiers.{position-Some}
use Rattle.field_text.specs.Cut.{Halves, halves_at, halves_of}

abbrev is_mark : ℕ → ℕ → Bool
is_mark mark byte = byte == mark

abbrev cut : List ℕ → List ℕ → Option Halves
cut before behind = Some (record { before = before; behind = behind })

place_of_mark : (mark : ℕ) (before behind : List ℕ) → list_all (λ b. not (is_mark mark b)) before ≡ true
    → position_or_len (is_mark mark) (before ++ mark ∷ behind) ≡ length before
place_of_mark mark [] behind h = rw (eq-eqb mark mark refl) refl
place_of_mark mark (x ∷ before) behind h =
    let parts = and_parts (not (is_mark mark x)) (list_all (λ b. not (is_mark mark b)) before) h in
    let other : is_mark mark x ≡ false = not-true (is_mark mark x) parts.0 in
    rw other (ap (λ (n : ℕ). 1 + n) (place_of_mark mark before behind parts.1) ∙ omega arith)

-- what is joined by a mark is cut there
pub cut_joined : (mark : ℕ) (before behind : List ℕ) → list_all (λ b. not (is_mark mark b)) before ≡ true
    → halves_of mark (before ++ mark ∷ behind) ≡ cut before behind
cut_joined mark before behind h =
    let text = before ++ mark ∷ behind in
    let n = length before in
    let within : nat_lt n (length text) ≡ true = lt-ltb n (length text) (omega (arith, length-append before (mark ∷ behind))) in
    let at : position (is_mark mark) text ≡ Some n =
    ap (λ (k : ℕ). cond (nat_lt k (length text)) (Some k) None) (place_of_mark mark before behind h)
    ∙ ap (λ (b : Bool). cond b (Some n) None) within in
    let back : drop (n + 1) text ≡ behind =
    ap (λ (l : List ℕ). drop (n + 1) l) (one_more before behind) ∙ drop_at (before ++ mark ∷ []) behind (n + 1) (length-append before (mark ∷ [])) in
    ap (halves_at text) at ∙ ap (λ (l : List ℕ). cut l (drop (n + 1) text)) (take_at before (mark ∷ behind) n refl) ∙ ap (cut before) back
  where
    one_more : (xs ys : List ℕ) → xs ++ mark ∷ ys ≡ (xs ++ mark ∷ []) ++ ys
    one_more [] ys = refl
    one_more (x ∷ xs) ys = ap (λ (l : List ℕ). x ∷ l) (one_more xs ys)

at_place : (mark : ℕ) (text : List ℕ) (place : Option ℕ) (halves : Halves) → position (is_mark mark) text ≡ place
    → halves_at text place ≡ Some halves → text ≡ halves.before ++ mark ∷ halves.behind
at_place mark text None halves at e = absurd cc
at_place mark text (Some i) halves at e =
    let found = position-Some (is_mark mark) text i 0 at in
    let is_at : get_or text i 0 ≡ mark = eqb-true (get_or text i 0) mark found.1 in
    let whole : text ≡ take i text ++ mark ∷ drop (i + 1) text =
    sym (take-append-drop i text)
    ∙ ap (λ (l : List ℕ). take i text ++ l) (drop_more text i 0 found.0)
    ∙ ap (λ (b : ℕ). take i text ++ b ∷ drop (i + 1) text) is_at in
    let is : record { before = take i text; behind = drop (i + 1) text } ≡ halves = cc in
    subst (λ (h : Halves). text ≡ h.before ++ mark ∷ h.behind) is whole

-- what is cut was joined by a mark
pub joined_cut : (mark : ℕ) (text : List ℕ) (halves : Halves) → halves_of mark text ≡ Some halves → text ≡ halves.before ++ mark ∷ halves.behind
joined_cut mark text halves e = at_place mark text (position (is_mark mark) text) halves refl e
