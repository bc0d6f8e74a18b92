-- A page that was written is read.
use Rattle.std.proofs.Common.{◌≡◌, ℕ, ◌+◌, ◌%◌, ◌^◌, ◌<◌, Bool, true, false, cond, List, [], ◌∷◌, ◌++◌, length, take, drop, Option, Some, refl, sym, ap, subst, ◌∙◌, arith, append_assoc, ne_eqb}
use Rattle.std.specs.Prelude.{◌==◌, All, codes}
use Rattle.std.specs.Fmt.{decimal}
use Rattle.std.specs.List.{concat, slice_split}
use Rattle.std.specs.Option.{option_map}
use Rattle.std.proofs.lemmas.Fmt.{decimal_by_steps}
use Rattle.std.proofs.lemmas.List.{take_at}
use Rattle.std.proofs.lemmas.List.Elements.{All-cons, All-head, All-nil, All-push, All-tail, All-take}
use Rattle.std.proofs.lemmas.List.Splits.{slice_split_at}
use Rattle.operator_text.specs.Page.{IsLine, fitting, has_room, is_left, last_line, next_page, page_for, page_of}
use Rattle.operator_text.specs.Reading.{LastCut, after_line, ending_of, last_cut, last_of, next_of, page_at, page_of_cut}
use Rattle.operator_text.proofs.CutLemmas.{cut_joined}
use Rattle.operator_text.proofs.NumberLemmas.{number_back}
use Rattle.operator_text.proofs.PageLemmas.{within}

-- ---- the last line

abbrev pub is_lf : ℕ → Bool
is_lf byte = byte == 10

abbrev pub HasNoLf : List ℕ → Type 0
HasNoLf text = All (λ byte. is_lf byte ≡ false) text

-- a last line without its LF
abbrev ending_text : Bool → ℕ → List ℕ
ending_text false next = codes "end"
ending_text true next = codes "next " ++ decimal next

last_line_is : (is_full : Bool) (next : ℕ) → last_line (next_page is_full next) ≡ ending_text is_full next ++ 10 ∷ []
last_line_is true next = refl
last_line_is false next = refl

pub no_lf_in_digits : (n : ℕ) → n < 2 ^ 64 → HasNoLf (decimal n)
no_lf_in_digits n fits =
    let P : ℕ → Type 0 = λ byte. is_lf byte ≡ false in
    decimal_by_steps (λ n text. HasNoLf text)
    (λ d low. All-cons P (48 + d) [] (ne_eqb (48 + d) 10 (omega arith)) (All-nil P))
    (λ m text many h. All-push P text (48 + m % 10) h (ne_eqb (48 + m % 10) 10 (omega arith))) n fits

ending_has_no_lf : (is_full : Bool) (next : ℕ) → next < 2 ^ 64 → HasNoLf (ending_text is_full next)
ending_has_no_lf false next fits =
    let P : ℕ → Type 0 = λ byte. is_lf byte ≡ false in
    All-cons P 101 (110 ∷ 100 ∷ []) refl (All-cons P 110 (100 ∷ []) refl (All-cons P 100 [] refl (All-nil P)))
ending_has_no_lf true next fits =
    let P : ℕ → Type 0 = λ byte. is_lf byte ≡ false in
    All-cons P 110 (101 ∷ 120 ∷ 116 ∷ 32 ∷ decimal next) refl
    (All-cons P 101 (120 ∷ 116 ∷ 32 ∷ decimal next) refl
    (All-cons P 120 (116 ∷ 32 ∷ decimal next) refl
    (All-cons P 116 (32 ∷ decimal next) refl (All-cons P 32 (decimal next) refl (no_lf_in_digits next fits)))))

ending_back : (is_full : Bool) (next : ℕ) → next < 2 ^ 32 → ending_of (ending_text is_full next) ≡ Some (next_page is_full next)
ending_back false next low = refl
ending_back true next low =
    ap next_of (cut_joined 32 (codes "next") (decimal next) refl) ∙ rw (number_back next low) refl

-- ---- the lines before it

more_parts : (part : List ℕ) (parts : List (List ℕ)) (cut : LastCut) → last_of parts ≡ Some cut → last_of (part ∷ parts) ≡ Some (after_line part cut)
more_parts part [] cut e = absurd cc
more_parts part ([] ∷ []) cut e = absurd cc
more_parts part ((b ∷ next) ∷ []) cut e = absurd cc
more_parts part ([] ∷ q ∷ parts) cut e = ap (option_map (after_line part)) e
more_parts part ((b ∷ next) ∷ q ∷ parts) cut e = ap (option_map (after_line part)) e

abbrev cut_of : List ℕ → List ℕ → Option LastCut
cut_of before last = Some (record { before = before; last = last })

lines_cut : (fitted : List (List ℕ)) (last : List ℕ) → All IsLine fitted → HasNoLf last → last_cut (concat fitted ++ (last ++ 10 ∷ [])) ≡ cut_of (concat fitted) last
lines_cut [] last lines plain = ap last_of (slice_split_at is_lf last 10 [] plain refl)
lines_cut (line ∷ fitted) last lines plain =
    let is = All-head IsLine line fitted lines in
    let rest = concat fitted ++ (last ++ 10 ∷ []) in
    let whole : concat (line ∷ fitted) ≡ is.text ++ 10 ∷ concat fitted =
    ap (λ (l : List ℕ). l ++ concat fitted) is.is ∙ append_assoc is.text (10 ∷ []) (concat fitted) in
    let text : concat (line ∷ fitted) ++ (last ++ 10 ∷ []) ≡ is.text ++ 10 ∷ rest =
    ap (λ (l : List ℕ). l ++ (last ++ 10 ∷ [])) whole ∙ append_assoc is.text (10 ∷ concat fitted) (last ++ 10 ∷ []) in
    ap last_cut text
    ∙ ap last_of (slice_split_at is_lf is.text 10 rest is.has_one_lf refl)
    ∙ more_parts is.text (slice_split is_lf rest) (record { before = concat fitted; last = last }) (lines_cut fitted last (All-tail IsLine line fitted lines) plain)
    ∙ ap (λ (l : List ℕ). cut_of l last) (sym whole)

-- ---- the lines of a page are the first ones

front : (fits : Bool) (line : List ℕ) (fitted lines : List (List ℕ)) → fitted ++ drop (length fitted) lines ≡ lines
    → (let all = cond fits (line ∷ fitted) [] in all ++ drop (length all) (line ∷ lines) ≡ line ∷ lines)
front true line fitted lines e = ap (λ (l : List (List ℕ)). line ∷ l) e
front false line fitted lines e = refl

pub fitting_is_front : (used from : ℕ) (lines : List (List ℕ)) → fitting used from lines ++ drop (length (fitting used from lines)) lines ≡ lines
fitting_is_front used from [] = refl
fitting_is_front used from (line ∷ lines) =
    front (has_room used (from + 1) line) line (fitting (used + length line) (from + 1) lines) lines (fitting_is_front (used + length line) (from + 1) lines)

fitted_lines : (used from : ℕ) (lines : List (List ℕ)) → All IsLine lines → All IsLine (fitting used from lines)
fitted_lines used from lines each =
    let fitted = fitting used from lines in
    let is : take (length fitted) lines ≡ fitted =
    ap (take (length fitted)) (sym (fitting_is_front used from lines)) ∙ take_at fitted (drop (length fitted) lines) (length fitted) refl in
    subst (All IsLine) is (All-take IsLine (length fitted) lines each)

pub page_is_read : (from : ℕ) (lines : List (List ℕ)) → from < 2 ^ 32 → All IsLine lines → page_at (page_of from lines) ≡ Some (page_for from lines)
page_is_read from lines low each =
    let fitted = fitting 0 from lines in
    let left = is_left (drop (length fitted) lines) in
    let next = from + length fitted in
    let is = within 0 from lines (omega arith) low in
    ap (λ (l : List ℕ). page_at (concat fitted ++ l)) (last_line_is left next)
    ∙ ap page_of_cut (lines_cut fitted (ending_text left next) (fitted_lines 0 from lines each) (ending_has_no_lf left next (omega (arith, is.numbers))))
    ∙ ap (option_map (λ (n : Option ℕ). record { lines = concat fitted; next = n })) (ending_back left next is.numbers)
