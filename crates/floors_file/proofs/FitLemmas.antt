-- How long a text of floors is.
use Rattle.std.proofs.Common.{◌≡◌, ℕ, ◌*◌, ◌^◌, ◌<◌, ◌≤◌, true, List, [], ◌∷◌, ◌++◌, length, arith, lit<, length-append}
use Rattle.std.specs.Prelude.{◌&&◌, nat_le}
use Rattle.std.specs.List.{flat_map, list_all}
use Rattle.std.specs.Fmt.{decimal}
use Rattle.std.proofs.lemmas.Bool.{and_parts, leb-true}
use Rattle.std.proofs.lemmas.Fmt.{length-decimal-le}
use Rattle.field_text.specs.Word.{is_visible, is_word}
use Rattle.floors_file.specs.declared.reading.HeadLine.{HeadLine}
use Rattle.floors_file.specs.Floors.{FloorRecord, FloorsRecord}
use Rattle.floors_file.specs.Writing.{AreFloors, AreRows, floors_text, head_text, row_text}
use Rattle.floors_file.proofs.RoundLemmas.{Ranges, ranges_of}

-- a number of so few digits
pub few_digits : (k n : ℕ) → 0 < k → k ≤ 19 → n < 10 ^ k → n < 2 ^ 64 → length (decimal n) ≤ k
few_digits k n some few less fits = length-decimal-le k n some less fits

pub word_short : (w : List ℕ) → is_word w ≡ true → length w ≤ 64
word_short w h =
    leb-true (length w) 64 (and_parts (nat_le 1 (length w)) (nat_le (length w) 64)
    (and_parts (nat_le 1 (length w) && nat_le (length w) 64) (list_all is_visible w) h).0).1

row_short : (row : FloorRecord) → is_word row.user ≡ true → row.next ≤ 2 ^ 62 → length (row_text row) ≤ 85
unfolding row_text
row_short row word fits =
    let short = word_short row.user word in
    let wide : 2 ^ 62 < 10 ^ 19 = lit< tt in
    let digits = few_digits 19 row.next (omega arith) (omega arith) (omega (arith, fits, wide)) (omega (arith, fits)) in
    simp length-append (omega (arith, short, digits))

rows_short : (before rows : List FloorRecord) → AreRows before rows → length (flat_map row_text rows) ≤ 85 * length rows
rows_short before [] are = omega arith
rows_short before (row ∷ rows) are =
    let first = row_short row are.0 are.1 in
    let rest = rows_short (before ++ row ∷ []) rows are.3 in
    omega (arith, length-append (row_text row) (flat_map row_text rows), first, rest)

head_short : (line : HeadLine) → Ranges 10000 line → length (head_text line.head line.tokens) ≤ 53
unfolding head_text
head_short line is =
    let ten : 10000 < 10 ^ 5 = lit< tt in
    let late : 2 ^ 40 < 10 ^ 13 = lit< tt in
    let wide : 2 ^ 62 < 10 ^ 19 = lit< tt in
    let node = few_digits 1 line.head.node (omega arith) (omega arith) (omega (arith, is.node)) (omega (arith, is.node)) in
    let members = few_digits 1 line.head.members (omega arith) (omega arith) (omega (arith, is.members)) (omega (arith, is.members)) in
    let boot = few_digits 19 line.head.boot (omega arith) (omega arith) (omega (arith, is.boot, wide)) (omega (arith, is.boot)) in
    let moment = few_digits 13 line.head.moment (omega arith) (omega arith) (omega (arith, is.moment, late)) (omega (arith, is.moment)) in
    let tokens = few_digits 5 line.tokens (omega arith) (omega arith) (omega (arith, is.tokens, ten)) (omega (arith, is.tokens)) in
    simp length-append (omega (arith, node, members, boot, moment, tokens))

pub floors_short : (floors : FloorsRecord) → AreFloors floors → length (floors_text floors) ≤ 850053
floors_short floors are =
    let line : HeadLine = record { head = floors.head; tokens = length floors.rows } in
    let is = ranges_of 10000 line are.head in
    let first = head_short line is in
    let rows = rows_short [] floors.rows are.rows in
    let few = is.tokens in
    omega (arith, length-append (head_text floors.head (length floors.rows)) (flat_map row_text floors.rows), first, rows, few)
