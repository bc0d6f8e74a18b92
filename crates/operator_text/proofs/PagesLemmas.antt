-- The pages of a report, put together, are the report.
use Rattle.std.proofs.Common.{◌≡◌, ℕ, zero, suc, ◌+◌, ◌-◌, ◌^◌, ◌<◌, ◌≤◌, Bool, true, false, List, [], ◌∷◌, ◌++◌, length, drop, Some, refl, sym, ap, subst, ◌∙◌, arith, append_assoc, length-append}
use Rattle.std.specs.Prelude.{All, nat_le, nat_lt, not}
use Rattle.std.specs.List.{concat}
use Rattle.std.proofs.lemmas.Bool.{and_from, le-leb, lt-ltb}
use Rattle.std.proofs.lemmas.List.{drop-drop, length-drop}
use Rattle.std.proofs.lemmas.List.Elements.{All-drop, All-head}
use Rattle.operator_text.specs.Page.{AreLines, IsLine, fitting, has_room, is_left, next_page}
use Rattle.operator_text.specs.Pages.{are_whole, following, is_end, joined, next_in, page_from, pages_from, pages_of}
use Rattle.operator_text.specs.Reading.{page_at}
use Rattle.operator_text.proofs.ReadingLemmas.{fitting_is_front, page_is_read}

concat-append : (xs ys : List (List ℕ)) → concat (xs ++ ys) ≡ concat xs ++ concat ys
concat-append [] ys = refl
concat-append (x ∷ xs) ys = ap (λ (l : List ℕ). x ++ l) (concat-append xs ys) ∙ sym (append_assoc x (concat xs) (concat ys))

-- ---- a page goes on

first_fits : (from : ℕ) (lines : List (List ℕ)) → All IsLine lines → from + length lines < 2 ^ 32 → 0 < length lines → 0 < length (fitting 0 from lines)
first_fits from [] each most some = absurd (omega arith)
first_fits from (line ∷ lines) each most some =
    let is = All-head IsLine line lines each in
    let bytes : nat_le (0 + length line) 1008 ≡ true = le-leb (0 + length line) 1008 (omega (arith, is.most)) in
    let number : nat_lt (from + 1) (2 ^ 32) ≡ true = lt-ltb (from + 1) (2 ^ 32) (omega arith) in
    let room : has_room 0 (from + 1) line ≡ true = and_from (nat_le (0 + length line) 1008) (nat_lt (from + 1) (2 ^ 32)) bytes number in
    rw room (omega arith)

pub goes_on : (lines : List (List ℕ)) (from : ℕ) → AreLines lines → from < length lines → 0 < length (fitting 0 from (drop from lines))
goes_on lines from are inside =
    first_fits from (drop from lines) (All-drop IsLine from lines are.each)
    (omega (arith, are.most, length-drop from lines)) (omega (arith, length-drop from lines))

-- ---- all pages

nothing_left : (lines : List (List ℕ)) → is_left lines ≡ false → lines ≡ []
nothing_left [] e = refl
nothing_left (line ∷ lines) e = absurd cc

something_left : (lines : List (List ℕ)) → is_left lines ≡ true → 0 < length lines
something_left [] e = absurd cc
something_left (line ∷ lines) e = omega arith

whole_more : (page : List ℕ) (pages : List (List ℕ)) → is_end (page_at page) ≡ false → are_whole pages ≡ true → are_whole (page ∷ pages) ≡ true
whole_more page [] last whole = absurd cc
whole_more page (next ∷ pages) last whole = and_from (not (is_end (page_at page))) (are_whole (next ∷ pages)) (ap not last) whole

-- the pages from a line on
pub record IsWhole (pages : List (List ℕ)) (bytes : List ℕ) : Type 0 where
  pub lines : joined pages ≡ bytes
  pub ends : are_whole pages ≡ true

-- the last page, or a page and those after it
one_page : (left : Bool) (page bytes : List ℕ) (next : ℕ) (rest : List (List ℕ)) (after : ℕ → List (List ℕ))
    → page_at page ≡ Some (record { lines = bytes; next = next_page left next }) → is_left rest ≡ left
    → (left ≡ true → IsWhole (after next) (concat rest))
    → IsWhole (page ∷ following after (next_in (page_at page))) (bytes ++ concat rest)
one_page false page bytes next rest after read is more = record {
  lines = rw (read, nothing_left rest is) refl;
  ends = rw read (ap is_end read);
}
one_page true page bytes next rest after read is more =
    let others = more refl in record {
      lines = rw read (ap (λ (l : List ℕ). bytes ++ l) others.lines);
      ends = rw read (whole_more page (after next) (ap is_end read) others.ends);
    }

pub whole_from : (fuel : ℕ) (lines : List (List ℕ)) (from : ℕ) → AreLines lines → from ≤ length lines → length lines < from + fuel
    → IsWhole (pages_from fuel lines from) (concat (drop from lines))
whole_from zero lines from are inside enough = absurd (omega arith)
whole_from (suc fuel) lines from are inside enough =
    let rest = drop from lines in
    let fitted = fitting 0 from rest in
    let left = drop (length fitted) rest in
    let next = from + length fitted in
    let all : fitted ++ left ≡ rest = fitting_is_front 0 from rest in
    let len : length fitted + length left ≡ length lines - from = omega (arith, ap length all, length-append fitted left, length-drop from lines) in
    let after : left ≡ drop next lines = drop-drop (length fitted) from lines in
    let read = page_is_read from rest (omega (arith, are.most)) (All-drop IsLine from lines are.each) in
    let whole = one_page (is_left left) (page_from lines from) (concat fitted) next left (pages_from fuel lines) read refl
    (λ is.
    let some = something_left left is in
    let onward = goes_on lines from are (omega arith) in
    subst (λ (l : List (List ℕ)). IsWhole (pages_from fuel lines next) (concat l)) (sym after) (whole_from fuel lines next are (omega arith) (omega arith))) in
    subst (IsWhole (pages_from (suc fuel) lines from)) (sym (concat-append fitted left) ∙ ap concat all) whole

pub whole_report : (lines : List (List ℕ)) → AreLines lines → IsWhole (pages_of lines) (concat lines)
whole_report lines are = whole_from (suc (length lines)) lines 0 are (omega arith) (omega arith)
