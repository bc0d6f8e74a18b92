-- Floors by names that were written, read back.
use Rattle.std.proofs.Common.{◌≡◌, ℕ, suc, ◌+◌, ◌^◌, ◌<◌, ◌≤◌, true, List, [], ◌∷◌, ◌++◌, length, refl, sym, ap, ◌∙◌, arith, append_assoc}
use Rattle.std.specs.Prelude.{Ok, ◌&&◌, nat_le, nat_lt, codes}
use Rattle.std.specs.List.{AllByRecursion, flat_map, join_with_byte}
use Rattle.std.specs.Fmt.{decimal}
use Rattle.std.proofs.lemmas.Bool.{and_parts}
use Rattle.std.proofs.lemmas.List.{append-nil}
use Rattle.std.proofs.lemmas.List.Splits.{length-slice_split}
use Rattle.field_text.specs.Word.{is_word}
use Rattle.hex.specs.Hex.{encode_lower}
use Rattle.token_file.specs.Fields.{is_line_end, lines_of}
use Rattle.floors_file.specs.declared.named.HeardBoot.{HeardBoot}
use Rattle.floors_file.specs.declared.named.NamedFloor.{NamedFloor}
use Rattle.floors_file.specs.Fields.{◌>>=◌, fields_of}
use Rattle.floors_file.specs.Named.{NamedFloorsRecord, NamedHeadRecord}
use Rattle.floors_file.specs.NamedReading.{NamedLineRecord, heard_from, heard_of, is_heard_next, is_heard_ranged, is_named_head, is_names_word, named_floors_of, named_head_of, named_of_lines, named_row_of, named_rows_from}
use Rattle.floors_file.specs.NamedWriting.{AreHeard, AreNamedFloors, AreNamedRows, IsNamedRow, body_text, heard_text, named_floors_text, named_row_text}
use Rattle.floors_file.specs.Reading.{at_line}
use Rattle.floors_file.proofs.NamedReadingLemmas.{heard_then, named_read, named_row_then}
use Rattle.floors_file.proofs.NamedSpellingLemmas.{body_back, boot_line_is, bytes_back, bytes_visible, head_line_is, heard_fields, named_fields, named_ranges_of, plain_line, row_fields, row_line_is}
use Rattle.floors_file.proofs.RoundLemmas.{IsVisible, Ranges, decimal_visible, fields_joined, le_from_test, line_joined, lt_false, lt_from_test, number_back, word_visible}

-- ---- the first line

names_visible : (word : List ℕ) → is_names_word word ≡ true → IsVisible word
names_visible word h = word_visible word (and_parts (nat_le 12 (length word)) (is_word word) h).1

head_visible : (line : NamedLineRecord) → is_names_word line.head.names ≡ true → is_word line.head.life ≡ true → Ranges 65536 (plain_line line)
    → AllByRecursion IsVisible (codes "floors" ∷ named_fields line.head line.rows)
head_visible line word life is = (
  refl,
  (
    refl,
    (
      decimal_visible line.head.node (omega (arith, is.node)),
      (
        decimal_visible line.head.members (omega (arith, is.members)),
        (
          decimal_visible line.head.boot (omega (arith, is.boot)),
          (
            decimal_visible line.head.moment (omega (arith, is.moment)),
            (
              decimal_visible line.rows (omega (arith, is.tokens)),
              (names_visible line.head.names word, (word_visible line.head.life life, tt)),
            ),
          ),
        ),
      ),
    ),
  ),
)

head_numbers_back : (line : NamedLineRecord) → is_names_word line.head.names ≡ true → is_named_head line ≡ true
    → is_word line.head.life ≡ true → Ranges 65536 (plain_line line)
    → named_head_of (codes "floors" ∷ named_fields line.head line.rows) ≡ Ok line
head_numbers_back line word ranged life is =
    rw (
      number_back line.head.node (omega (arith, is.node)),
      number_back line.head.members (omega (arith, is.members)),
      number_back line.head.boot (omega (arith, is.boot)),
      number_back line.head.moment (omega (arith, is.moment)),
      number_back line.rows (omega (arith, is.tokens)),
      word,
      ranged,
      life,
    ) refl

head_back : (line : NamedLineRecord) → is_names_word line.head.names ≡ true → is_named_head line ≡ true → is_word line.head.life ≡ true
    → named_head_of (fields_of (join_with_byte 32 (codes "floors" ∷ named_fields line.head line.rows))) ≡ Ok line
head_back line word ranged life =
    let is = named_ranges_of line ranged in
    ap named_head_of (fields_joined (codes "floors") (named_fields line.head line.rows) (head_visible line word life is))
    ∙ head_numbers_back line word ranged life is

-- ---- the rows

row_visible : (before : List NamedFloor) (row : NamedFloor) → IsNamedRow before row → AllByRecursion IsVisible (row_fields row)
row_visible before row is =
    (bytes_visible row.name, (bytes_visible row.seed, (decimal_visible row.next (let fits = is.next in omega (arith, fits)), tt)))

row_back : (before : List NamedFloor) (row : NamedFloor) → IsNamedRow before row → named_row_of before (row_fields row) ≡ Ok row
row_back before row is =
    let fits = is.next in
    rw (
      bytes_back row.name is.len is.bytes,
      bytes_back row.seed is.seed_len is.seed_bytes,
      number_back row.next (omega (arith, fits)),
      lt_false (2 ^ 62) row.next fits,
      is.new,
    ) refl

row_line_back : (before : List NamedFloor) (row : NamedFloor) → IsNamedRow before row
    → named_row_of before (fields_of (join_with_byte 32 (row_fields row))) ≡ Ok row
row_line_back before row is =
    ap (named_row_of before) (fields_joined (encode_lower row.name) (encode_lower row.seed ∷ decimal row.next ∷ []) (row_visible before row is))
    ∙ row_back before row is

rows_back : (number : ℕ) (before rows : List NamedFloor) (rest : List ℕ) → AreNamedRows before rows
    → named_rows_from number (length rows) before (lines_of (flat_map named_row_text rows ++ rest)) ≡ Ok (before ++ rows, lines_of rest)
rows_back number before [] rest are = ap (λ (l : List NamedFloor). Ok (l, lines_of rest)) (sym (append-nil before))
rows_back number before (row ∷ rows) rest are =
    let more = flat_map named_row_text rows ++ rest in
    let line = join_with_byte 32 (row_fields row) in
    let lines : lines_of (flat_map named_row_text (row ∷ rows) ++ rest) ≡ line ∷ lines_of more =
    ap lines_of (append_assoc (named_row_text row) (flat_map named_row_text rows) rest ∙ row_line_is row more)
    ∙ line_joined (encode_lower row.name) (encode_lower row.seed ∷ decimal row.next ∷ []) more (row_visible before row are.0) in
    ap (named_rows_from number (suc (length rows)) before) lines
    ∙ named_row_then number (length rows) before line (lines_of more) _ (length-slice_split is_line_end more)
    ∙ ap (λ o. at_line number o >>= λ row. named_rows_from (number + 1) (length rows) (before ++ row ∷ []) (lines_of more)) (row_line_back before row are.0)
    ∙ rows_back (number + 1) (before ++ row ∷ []) rows rest are.1
    ∙ ap (λ (l : List NamedFloor). Ok (l, lines_of rest)) (append_assoc before (row ∷ []) rows)

-- ---- the boots

pub record FitsHeard (one : HeardBoot) : Type 0 where
  pub member : one.member ≤ 9
  pub boot : one.boot < 2 ^ 62

pub fits_heard : (head : NamedHeadRecord) (one : HeardBoot) → head.members ≤ 9 → is_heard_ranged head one ≡ true → FitsHeard one
fits_heard head one nine h =
    let parts = and_parts (nat_le 1 one.member && nat_le one.member head.members) (nat_lt one.boot (2 ^ 62)) h in
    let members = le_from_test one.member head.members (and_parts (nat_le 1 one.member) (nat_le one.member head.members) parts.0).1 in
    record { member = omega (arith, members, nine); boot = lt_from_test one.boot (2 ^ 62) parts.1 }

boot_visible : (one : HeardBoot) → FitsHeard one → AllByRecursion IsVisible (heard_fields one)
boot_visible one fits =
    let member = fits.member in
    let boot = fits.boot in
    (refl, (decimal_visible one.member (omega (arith, member)), (decimal_visible one.boot (omega (arith, boot)), tt)))

boot_back : (head : NamedHeadRecord) (before : List HeardBoot) (one : HeardBoot) → FitsHeard one → is_heard_ranged head one ≡ true
    → is_heard_next head before one ≡ true → heard_of head before (heard_fields one) ≡ Ok one
boot_back head before one fits ranged next =
    let member = fits.member in
    let boot = fits.boot in
    rw (number_back one.member (omega (arith, member)), number_back one.boot (omega (arith, boot)), ranged, next) refl

boot_line_back : (head : NamedHeadRecord) (before : List HeardBoot) (one : HeardBoot) → FitsHeard one → is_heard_ranged head one ≡ true
    → is_heard_next head before one ≡ true → heard_of head before (fields_of (join_with_byte 32 (heard_fields one))) ≡ Ok one
boot_line_back head before one fits ranged next =
    ap (heard_of head before) (fields_joined (codes "heard") (decimal one.member ∷ decimal one.boot ∷ []) (boot_visible one fits))
    ∙ boot_back head before one fits ranged next

heard_back : (number : ℕ) (head : NamedHeadRecord) (before heard : List HeardBoot) → head.members ≤ 9 → AreHeard head before heard
    → heard_from number head before (lines_of (flat_map heard_text heard)) ≡ Ok (before ++ heard)
heard_back number head before [] nine are = ap Ok (sym (append-nil before))
heard_back number head before (one ∷ heard) nine are =
    let more = flat_map heard_text heard in
    let line = join_with_byte 32 (heard_fields one) in
    let fits = fits_heard head one nine are.0 in
    let lines : lines_of (flat_map heard_text (one ∷ heard)) ≡ line ∷ lines_of more =
    ap lines_of (boot_line_is one more)
    ∙ line_joined (codes "heard") (decimal one.member ∷ decimal one.boot ∷ []) more (boot_visible one fits) in
    ap (heard_from number head before) lines
    ∙ heard_then number head before line (lines_of more) _ (length-slice_split is_line_end more)
    ∙ ap (λ o. at_line number o >>= λ one. heard_from (number + 1) head (before ++ one ∷ []) (lines_of more)) (boot_line_back head before one fits are.0 are.1)
    ∙ heard_back (number + 1) head (before ++ one ∷ []) heard nine are.2
    ∙ ap Ok (append_assoc before (one ∷ []) heard)

-- ---- the whole text

lines_back : (floors : NamedFloorsRecord) → AreNamedFloors floors → named_of_lines (lines_of (body_text floors)) ≡ Ok floors
lines_back floors are =
    let rows = length floors.rows in
    let line : NamedLineRecord = record { head = floors.head; rows = rows } in
    let is = named_ranges_of line are.head in
    let left = flat_map heard_text floors.heard in
    let rest = flat_map named_row_text floors.rows ++ left in
    let first = join_with_byte 32 (codes "floors" ∷ named_fields floors.head rows) in
    let lines : lines_of (body_text floors) ≡ first ∷ lines_of rest =
    ap lines_of (head_line_is floors.head rows rest)
    ∙ line_joined (codes "floors") (named_fields floors.head rows) rest (head_visible line are.word are.life is) in
    named_read (body_text floors) first rest left line floors.rows floors.heard lines (sym (head_back line are.word are.head are.life))
    (rows_back 2 [] floors.rows left are.rows) (heard_back (rows + 2) floors.head [] floors.heard is.members are.heard)

pub named_back : (key : List ℕ) (floors : NamedFloorsRecord) → AreNamedFloors floors → named_floors_of key (named_floors_text key floors) ≡ Ok floors
named_back key floors are = ap (λ o. o >>= λ body. named_of_lines (lines_of body)) (body_back key (body_text floors)) ∙ lines_back floors are
