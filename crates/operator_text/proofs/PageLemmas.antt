-- Pages: pushes make them, and they are short.
use Rattle.std.proofs.Common.{◌≡◌, ℕ, ◌+◌, ◌^◌, ◌<◌, ◌≤◌, Bool, true, false, cond, List, [], ◌∷◌, ◌++◌, length, drop, refl, sym, ap, ◌∙◌, arith, append_assoc, length-append, add-zero}
use Rattle.std.specs.Prelude.{suc, nat_le, nat_lt, codes}
use Rattle.std.specs.Fmt.{decimal}
use Rattle.std.specs.List.{concat}
use Rattle.std.proofs.lemmas.Bool.{and_parts, leb-true, ltb-true}
use Rattle.std.proofs.lemmas.Fmt.{length-decimal-le}
use Rattle.operator_text.specs.Page.{PartRecord, fitting, has_room, is_left, last_line, new_part, next_page, page_of, part_text, pushed_all}

-- ---- pushes

abbrev part : List ℕ → ℕ → Bool → PartRecord
part bytes next is_full = record { lines = bytes; next = next; is_full = is_full }

full_stays : (bytes : List ℕ) (next : ℕ) (lines : List (List ℕ)) → pushed_all (part bytes next true) lines ≡ part bytes next true
full_stays bytes next [] = refl
full_stays bytes next (line ∷ lines) = full_stays bytes next lines

-- the page that is left to write for some lines that fit
abbrev rest_of_page : ℕ → List (List ℕ) → List (List ℕ) → List ℕ
rest_of_page from fitted lines = concat fitted ++ last_line (next_page (is_left (drop (length fitted) lines)) (from + length fitted))

one_more : (from : ℕ) (line : List ℕ) (fitted lines : List (List ℕ)) → rest_of_page from (line ∷ fitted) (line ∷ lines) ≡ line ++ rest_of_page (from + 1) fitted lines
one_more from line fitted lines =
    let numbers : from + suc (length fitted) ≡ from + 1 + length fitted = omega arith in
    append_assoc line (concat fitted) (last_line (next_page (is_left (drop (length fitted) lines)) (from + suc (length fitted))))
    ∙ ap (λ (n : ℕ). line ++ (concat fitted ++ last_line (next_page (is_left (drop (length fitted) lines)) n))) numbers

-- one push: the line fits or not
one_push : (fits : Bool) (bytes : List ℕ) (from : ℕ) (line : List ℕ) (lines : List (List ℕ)) (fitted : List (List ℕ))
    → part_text (pushed_all (part (bytes ++ line) (from + 1) false) lines) ≡ (bytes ++ line) ++ rest_of_page (from + 1) fitted lines
    → part_text (pushed_all (cond fits (part (bytes ++ line) (from + 1) false) (part bytes from true)) lines)
    ≡ bytes ++ rest_of_page from (cond fits (line ∷ fitted) []) (line ∷ lines)
one_push true bytes from line lines fitted e =
    e ∙ append_assoc bytes line (rest_of_page (from + 1) fitted lines)
    ∙ ap (λ (l : List ℕ). bytes ++ l) (sym (one_more from line fitted lines))
one_push false bytes from line lines fitted e =
    ap part_text (full_stays bytes from lines) ∙ ap (λ (n : ℕ). bytes ++ last_line (next_page true n)) (sym (add-zero from))

pushes : (bytes : List ℕ) (from : ℕ) (lines : List (List ℕ))
    → part_text (pushed_all (part bytes from false) lines) ≡ bytes ++ rest_of_page from (fitting (length bytes) from lines) lines
pushes bytes from [] = refl
pushes bytes from (line ∷ lines) =
    one_push (has_room (length bytes) (from + 1) line) bytes from line lines (fitting (length bytes + length line) (from + 1) lines)
    (pushes (bytes ++ line) (from + 1) lines
    ∙ ap (λ (used : ℕ). (bytes ++ line) ++ rest_of_page (from + 1) (fitting used (from + 1) lines) lines) (length-append bytes line))

pub pushes_make_the_page : (from : ℕ) (lines : List (List ℕ)) → part_text (pushed_all (new_part from) lines) ≡ page_of from lines
pushes_make_the_page from lines = pushes [] from lines

-- ---- lengths

-- what a page has room for: in bytes and in numbers
pub record IsWithin (used from : ℕ) (fitted : List (List ℕ)) : Type 0 where
  pub bytes : used + length (concat fitted) ≤ 1008
  pub numbers : from + length fitted < 2 ^ 32

one_within : (fits : Bool) (used from : ℕ) (line : List ℕ) (fitted : List (List ℕ)) → used ≤ 1008 → from < 2 ^ 32
    → (fits ≡ true → IsWithin (used + length line) (from + 1) fitted) → IsWithin used from (cond fits (line ∷ fitted) [])
one_within true used from line fitted few low more =
    let is = more refl in
    record { bytes = omega (arith, is.bytes, length-append line (concat fitted)); numbers = omega (arith, is.numbers) }
one_within false used from line fitted few low more = record { bytes = omega arith; numbers = omega arith }

pub within : (used from : ℕ) (lines : List (List ℕ)) → used ≤ 1008 → from < 2 ^ 32 → IsWithin used from (fitting used from lines)
within used from [] few low = record { bytes = omega arith; numbers = omega arith }
within used from (line ∷ lines) few low =
    one_within (has_room used (from + 1) line) used from line (fitting (used + length line) (from + 1) lines) few low
    (λ fits.
    let tests = and_parts (nat_le (used + length line) 1008) (nat_lt (from + 1) (2 ^ 32)) fits in
    within (used + length line) (from + 1) lines (leb-true (used + length line) 1008 tests.0) (ltb-true (from + 1) (2 ^ 32) tests.1))

last_is_short : (is_full : Bool) (next : ℕ) → next < 2 ^ 32 → length (last_line (next_page is_full next)) ≤ 16
last_is_short true next low =
    omega (arith, length-append (codes "next " ++ decimal next) (codes "\n"), length-append (codes "next ") (decimal next), length-decimal-le 10 next (omega arith) (omega arith) (omega arith))
last_is_short false next low = omega arith

pub page_is_short : (from : ℕ) (lines : List (List ℕ)) → from < 2 ^ 32 → length (page_of from lines) ≤ 1024
page_is_short from lines low =
    let fitted = fitting 0 from lines in
    let is = within 0 from lines (omega arith) low in
    let last = last_line (next_page (is_left (drop (length fitted) lines)) (from + length fitted)) in
    omega (arith, is.bytes, length-append (concat fitted) last, last_is_short (is_left (drop (length fitted) lines)) (from + length fitted) is.numbers)
