-- The first line of a text, and the lines after it.
use Rattle.std.proofs.Common.{◌≡◌, ℕ, zero, suc, ◌+◌, ◌-◌, ◌<◌, ◌≤◌, Bool, true, false, cond, nat_lt, List, [], ◌∷◌, ◌++◌, length, take, Some, None, IfSome, Option, refl, sym, ap, subst, ◌∙◌, arith, inl, inr}
use Rattle.std.specs.Prelude.{◌==◌, ◌⊎◌, slice_index_or}
use Rattle.std.specs.Io.BufRead.{DropsThrough, take_through, drop_through}
use Rattle.std.specs.List.{onto_first}
use Rattle.std.proofs.lemmas.Bool.{eqb-true, lt-ltb, le-ltb}
use Rattle.std.proofs.lemmas.Bool.Decides.{nat_tests}
use Rattle.std.proofs.lemmas.List.Splits.{length-slice_split, slice_split-cons_no}
use Rattle.std.proofs.lemmas.List.{length-append, take_all, take-append-le}
use Rattle.users_input.specs.Input.{IsNext, TakesLine, TextLine, line_text, lines_between, lines_of, pieces_of}
use Rattle.users_input.specs.declared.input.NextLine.TheVariants.{Whole, Cut, End}

before_more : (is_cut : Bool) (line : List ℕ) (pieces : List (List ℕ)) → 0 < length pieces
    → lines_between is_cut (line ∷ pieces) ≡ Some line ∷ lines_between is_cut pieces
before_more is_cut line [] more = absurd (omega arith)
before_more is_cut line (piece ∷ pieces) more = refl

-- a piece before an LF is a line
lines_between-cons : (is_cut : Bool) (line rest : List ℕ)
    → lines_between is_cut (line ∷ pieces_of rest) ≡ Some line ∷ lines_between is_cut (pieces_of rest)
lines_between-cons is_cut line rest = before_more is_cut line (pieces_of rest) (omega (arith, length-slice_split (λ b. b == 10) rest))

-- no byte of a text is an LF
abbrev HasNoEnd : List ℕ → Type 0
HasNoEnd [] = Unit {0}
HasNoEnd (b ∷ bs) = ((b == 10) ≡ false) × HasNoEnd bs

no_end_take : (n : ℕ) (line : List ℕ) → HasNoEnd line → HasNoEnd (take n line)
no_end_take zero line h = tt
no_end_take (suc n) [] h = tt
no_end_take (suc n) (b ∷ line) h = (h.0, no_end_take n line h.1)

-- ---- the first line ends with an LF, or it is the last

data FirstLine (text : List ℕ) : Type 0 where
  Ended : (line rest : List ℕ) → HasNoEnd line → text ≡ line ++ 10 ∷ rest → FirstLine text
  Last : HasNoEnd text → FirstLine text

one_more : (b : ℕ) (text : List ℕ) (is : Bool) → (b == 10) ≡ is → FirstLine text → FirstLine (b ∷ text)
one_more b text true e first = Ended [] text tt (ap (λ (c : ℕ). c ∷ text) (eqb-true b 10 e))
one_more b text false e (Ended line rest h is) = Ended (b ∷ line) rest (e, h) (ap (λ (l : List ℕ). b ∷ l) is)
one_more b text false e (Last h) = Last (e, h)

first_line : (text : List ℕ) → FirstLine text
first_line [] = Last tt
first_line (b ∷ text) = one_more b text (b == 10) refl (first_line text)

-- ---- what is read of a text up to its first LF, and its pieces

taken_ended : (line rest : List ℕ) → HasNoEnd line → take_through 10 (line ++ 10 ∷ rest) ≡ line ++ 10 ∷ []
taken_ended [] rest h = refl
taken_ended (b ∷ line) rest h =
    ap (λ (c : Bool). cond c (b ∷ []) (b ∷ take_through 10 (line ++ 10 ∷ rest))) h.0 ∙ ap (λ (l : List ℕ). b ∷ l) (taken_ended line rest h.1)

left_ended : (line rest : List ℕ) → HasNoEnd line → drop_through 10 (line ++ 10 ∷ rest) ≡ rest
left_ended [] rest h = refl
left_ended (b ∷ line) rest h =
    ap (λ (c : Bool). cond c (line ++ 10 ∷ rest) (drop_through 10 (line ++ 10 ∷ rest))) h.0 ∙ left_ended line rest h.1

taken_last : (line : List ℕ) → HasNoEnd line → take_through 10 line ≡ line
taken_last [] h = refl
taken_last (b ∷ line) h = ap (λ (c : Bool). cond c (b ∷ []) (b ∷ take_through 10 line)) h.0 ∙ ap (λ (l : List ℕ). b ∷ l) (taken_last line h.1)

left_last : (line : List ℕ) → HasNoEnd line → drop_through 10 line ≡ []
left_last [] h = refl
left_last (b ∷ line) h = ap (λ (c : Bool). cond c line (drop_through 10 line)) h.0 ∙ left_last line h.1

pieces_ended : (line rest : List ℕ) → HasNoEnd line → pieces_of (line ++ 10 ∷ rest) ≡ line ∷ pieces_of rest
pieces_ended [] rest h = refl
pieces_ended (b ∷ line) rest h = slice_split-cons_no (λ c. c == 10) b (line ++ 10 ∷ rest) h.0 ∙ ap (onto_first b) (pieces_ended line rest h.1)

pieces_last : (line : List ℕ) → HasNoEnd line → pieces_of line ≡ line ∷ []
pieces_last [] h = refl
pieces_last (b ∷ line) h = slice_split-cons_no (λ c. c == 10) b line h.0 ∙ ap (onto_first b) (pieces_last line h.1)

text_ended : (line : List ℕ) → HasNoEnd line → line_text (line ++ 10 ∷ []) ≡ line
text_ended line h = ap (λ (ps : List (List ℕ)). slice_index_or ps 0 []) (pieces_ended line [] h)

text_last : (line : List ℕ) → HasNoEnd line → line_text line ≡ line
text_last line h = ap (λ (ps : List (List ℕ)). slice_index_or ps 0 []) (pieces_last line h)

-- all of a text is read or left
taken_and_left : (text : List ℕ) → text ≡ take_through 10 text ++ drop_through 10 text
taken_and_left [] = refl
taken_and_left (b ∷ text) = at (b == 10) (taken_and_left text)
  where
    at : (is : Bool) → text ≡ take_through 10 text ++ drop_through 10 text
        → b ∷ text ≡ cond is (b ∷ []) (b ∷ take_through 10 text) ++ cond is text (drop_through 10 text)
    at true e = refl
    at false e = ap (λ (l : List ℕ). b ∷ l) e

-- ---- lines up to a limit

take_ended : (room : ℕ) (line rest : List ℕ) → length line + 1 ≤ room → take room (line ++ 10 ∷ rest) ≡ line ++ 10 ∷ take (room - (length line + 1)) rest
take_ended zero line rest within = absurd (omega (arith, within))
take_ended (suc room) [] rest within =
    let same : room ≡ suc room - 1 = omega arith in
    ap (λ (n : ℕ). 10 ∷ take n rest) same
take_ended (suc room) (b ∷ line) rest within =
    let same : room - (length line + 1) ≡ suc room - (suc (length line) + 1) = omega arith in
    ap (λ (l : List ℕ). b ∷ l) (take_ended room line rest (omega (arith, within)) ∙ ap (λ (n : ℕ). line ++ 10 ∷ take n rest) same)

same_cut : (room n m : ℕ) → n ≤ room → nat_lt room (n + m) ≡ nat_lt (room - n) m
same_cut room n m within = grind (arith, nat_tests)

lines_ended : (room : ℕ) (line rest : List ℕ) → HasNoEnd line → length line + 1 ≤ room
    → lines_of room (line ++ 10 ∷ rest) ≡ Some line ∷ lines_of (room - (length line + 1)) rest
lines_ended room line rest h within =
    let text = line ++ 10 ∷ rest in
    let left = room - (length line + 1) in
    let sized : length text ≡ length line + 1 + length rest = omega (arith, length-append line (10 ∷ rest)) in
    ap (λ (t : List ℕ). lines_between (nat_lt room (length text)) (pieces_of t)) (take_ended room line rest within)
    ∙ ap (lines_between (nat_lt room (length text))) (pieces_ended line (take left rest) h)
    ∙ lines_between-cons (nat_lt room (length text)) line (take left rest)
    ∙ ap (λ (c : Bool). Some line ∷ lines_between c (pieces_of (take left rest))) (ap (nat_lt room) sized ∙ same_cut room (length line + 1) (length rest) within)

lines_cut : (room : ℕ) (text : List ℕ) → HasNoEnd (take room text) → room < length text → lines_of room text ≡ None ∷ []
lines_cut room text h past =
    ap (lines_between (nat_lt room (length text))) (pieces_last (take room text) h)
    ∙ ap (λ (c : Bool). lines_between c (take room text ∷ [])) (lt-ltb room (length text) past)

last_some : (b : ℕ) (rest : List ℕ) → lines_between false ((b ∷ rest) ∷ []) ≡ Some (b ∷ rest) ∷ []
last_some b rest = grind (arith, nat_tests)

lines_last : (room b : ℕ) (line : List ℕ) → HasNoEnd (b ∷ line) → length (b ∷ line) ≤ room → lines_of room (b ∷ line) ≡ Some (b ∷ line) ∷ []
lines_last room b line h within =
    ap (λ (t : List ℕ). lines_between (nat_lt room (length (b ∷ line))) (pieces_of t)) (take_all room (b ∷ line) within)
    ∙ ap (lines_between (nat_lt room (length (b ∷ line)))) (pieces_last (b ∷ line) h)
    ∙ ap (λ (c : Bool). lines_between c ((b ∷ line) ∷ [])) (le-ltb room (length (b ∷ line)) within)
    ∙ last_some b line

pub lines_none : (room : ℕ) → lines_of room [] ≡ []
lines_none room =
    ap (λ (t : List ℕ). lines_between (nat_lt room 0) (pieces_of t)) (take_all room [] (omega arith))
    ∙ ap (λ (c : Bool). lines_between c ([] ∷ [])) (le-ltb room 0 (omega arith))

-- a text beyond the limit is a line that passes it
pub lines_past : (b : ℕ) (text : List ℕ) → lines_of 0 (b ∷ text) ≡ None ∷ []
lines_past b text = lines_cut 0 (b ∷ text) tt (omega arith)

-- ---- the next line

abbrev IsEndedLine : List ℕ → List ℕ → Type 0
IsEndedLine line rest = (line ≡ line_text line ++ 10 ∷ []) ⊎ (rest ≡ [])

whole_at : (room : ℕ) (text : List ℕ) → FirstLine text → 0 < length (take_through 10 text) → length (take_through 10 text) ≤ room
    → lines_of room text ≡ Some (line_text (take_through 10 text)) ∷ lines_of (room - length (take_through 10 text)) (drop_through 10 text)
whole_at room text (Ended line rest h is) some within =
    let taken = ap (take_through 10) is ∙ taken_ended line rest h in
    let left = ap (drop_through 10) is ∙ left_ended line rest h in
    let said : line ≡ line_text (take_through 10 text) = sym (ap line_text taken ∙ text_ended line h) in
    let sized : length line + 1 ≡ length (take_through 10 text) = omega (arith, ap (length {A = ℕ}) taken, length-append line (10 ∷ [])) in
    ap (lines_of room) is ∙ lines_ended room line rest h (omega (arith, sized, within))
    ∙ ap (λ (l : List ℕ). Some l ∷ lines_of (room - (length line + 1)) rest) said
    ∙ ap (λ (n : ℕ). Some (line_text (take_through 10 text)) ∷ lines_of (room - n) rest) sized
    ∙ ap (λ (r : List ℕ). Some (line_text (take_through 10 text)) ∷ lines_of (room - length (take_through 10 text)) r) (sym left)
whole_at room [] (Last h) some within = absurd (omega (arith, some))
whole_at room (b ∷ text) (Last h) some within =
    let line = b ∷ text in
    let taken = taken_last line h in
    let said : line ≡ line_text (take_through 10 line) = sym (ap line_text taken ∙ text_last line h) in
    let sized : length line ≡ length (take_through 10 line) = sym (ap (length {A = ℕ}) taken) in
    lines_last room b text h (omega (arith, sized, within))
    ∙ ap (λ (l : List ℕ). Some l ∷ []) said
    ∙ ap (λ (ls : List TextLine). Some (line_text (take_through 10 line)) ∷ ls)
    (sym (ap (lines_of (room - length (take_through 10 line))) (left_last line h) ∙ lines_none (room - length (take_through 10 line))))

ended_at : (text : List ℕ) → FirstLine text → IsEndedLine (take_through 10 text) (drop_through 10 text)
ended_at text (Ended line rest h is) =
    let taken = ap (take_through 10) is ∙ taken_ended line rest h in
    let said : line_text (take_through 10 text) ≡ line = ap line_text taken ∙ text_ended line h in
    inl (taken ∙ ap (λ (l : List ℕ). l ++ 10 ∷ []) (sym said))
ended_at text (Last h) = inr (left_last text h)

cut_at_limit : (room : ℕ) (text : List ℕ) → FirstLine text → room < length (take_through 10 text) → lines_of room text ≡ None ∷ []
cut_at_limit room text (Ended line rest h is) past =
    let taken = ap (take_through 10) is ∙ taken_ended line rest h in
    let short : room ≤ length line = omega (arith, ap (length {A = ℕ}) taken, length-append line (10 ∷ []), past) in
    let front = ap (take room) is ∙ take-append-le room line (10 ∷ rest) short in
    lines_cut room text (subst HasNoEnd (sym front) (no_end_take room line h)) (omega (arith, short, ap (length {A = ℕ}) is, length-append line (10 ∷ rest)))
cut_at_limit room text (Last h) past =
    lines_cut room text (no_end_take room text h) (omega (arith, ap (length {A = ℕ}) (taken_last text h), past))

nothing_at : (text : List ℕ) → FirstLine text → take_through 10 text ≡ [] → text ≡ []
nothing_at text (Ended line rest h is) none =
    absurd (omega (arith, ap (length {A = ℕ}) (sym none ∙ ap (take_through 10) is ∙ taken_ended line rest h), length-append line (10 ∷ [])))
nothing_at text (Last h) none = sym (taken_last text h) ∙ none

-- the line that is read is the next one
next_whole : (room left : ℕ) (text line : List ℕ) → line ≡ take_through 10 text → 0 < length line → length line ≤ room
    → left ≡ room - length line → IsNext Whole line room text left (drop_through 10 text)
next_whole room left text line is some within left_is =
    subst (λ (l : List ℕ). 0 < length l → length l ≤ room → left ≡ room - length l → IsNext Whole l room text left (drop_through 10 text)) (sym is)
    (λ some within left_is.
    subst (λ (n : ℕ). IsNext Whole (take_through 10 text) room text n (drop_through 10 text)) (sym left_is)
    (whole_at room text (first_line text) some within, ended_at text (first_line text)))
    some within left_is

next_cut : (room left : ℕ) (text line : List ℕ) → line ≡ take_through 10 text → room < length line
    → left ≡ room - length line → IsNext Cut line room text left (drop_through 10 text)
next_cut room left text line is past left_is =
    let same = ap (length {A = ℕ}) is in
    (cut_at_limit room text (first_line text) (omega (arith, same, past)), omega (arith, past, left_is))

-- the next line of known bytes is taken off
pub takes_whole : (a b : Option (List ℕ)) (room left : ℕ) (line : List ℕ) → IfSome a (λ text. line ≡ take_through 10 text) → DropsThrough a b 10
    → 0 < length line → length line ≤ room → left ≡ room - length line → IfSome a (λ text. TakesLine Whole line room text left b)
takes_whole None b room left line is rest some within left_is = tt
takes_whole (Some text) b room left line is rest some within left_is = record {
  rest = drop_through 10 text;
  remaining_is = rest;
  parts = taken_and_left text ∙ ap (λ (l : List ℕ). l ++ drop_through 10 text) (sym is);
  next = next_whole room left text line is some within left_is;
}

pub takes_cut : (a b : Option (List ℕ)) (room left : ℕ) (line : List ℕ) → IfSome a (λ text. line ≡ take_through 10 text) → DropsThrough a b 10
    → room < length line → left ≡ room - length line → IfSome a (λ text. TakesLine Cut line room text left b)
takes_cut None b room left line is rest past left_is = tt
takes_cut (Some text) b room left line is rest past left_is = record {
  rest = drop_through 10 text;
  remaining_is = rest;
  parts = taken_and_left text ∙ ap (λ (l : List ℕ). l ++ drop_through 10 text) (sym is);
  next = next_cut room left text line is past left_is;
}

pub takes_end : (a b : Option (List ℕ)) (room left : ℕ) (line : List ℕ) → IfSome a (λ text. line ≡ take_through 10 text) → DropsThrough a b 10
    → line ≡ [] → IfSome a (λ text. TakesLine End line room text left b)
takes_end None b room left line is rest none = tt
takes_end (Some text) b room left line is rest none = record {
  rest = drop_through 10 text;
  remaining_is = rest;
  parts = taken_and_left text ∙ ap (λ (l : List ℕ). l ++ drop_through 10 text) (sym is);
  next = nothing_at text (first_line text) (sym is ∙ none);
}
