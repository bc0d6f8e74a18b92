-- How long a text of floors by names is.
use Rattle.std.proofs.Common.{◌≡◌, ℕ, ◌+◌, ◌*◌, ◌^◌, ◌<◌, ◌≤◌, true, List, [], ◌∷◌, ◌++◌, length, arith, lit<, length-append, sym, ◌∙◌}
use Rattle.std.specs.Prelude.{◌&&◌, ◌==◌, not, nat_le, nat_lt}
use Rattle.std.specs.List.{flat_map, list_all}
use Rattle.std.proofs.lemmas.Bool.{and_parts, leb-true, ltb-true}
use Rattle.std.proofs.lemmas.List.Folds.{list_all-append}
use Rattle.field_text.specs.Word.{is_word}
use Rattle.hex.specs.Hex.{encode_lower, lower_digits}
use Rattle.hex.proofs.HexLemmas.{length-encode_with}
use Rattle.floors_file.specs.declared.named.HeardBoot.{HeardBoot}
use Rattle.floors_file.specs.declared.named.NamedFloor.{NamedFloor}
use Rattle.floors_file.specs.Named.{NamedFloorsRecord, NamedHeadRecord}
use Rattle.floors_file.specs.NamedReading.{NamedLineRecord, is_names_word}
use Rattle.floors_file.specs.NamedWriting.{AreHeard, AreNamedFloors, AreNamedRows, IsNamedRow, body_text, heard_text, named_floors_text, named_head_text, named_row_text}
use Rattle.floors_file.specs.Sealed.{mac_line}
use Rattle.floors_file.proofs.FitLemmas.{few_digits, word_short}
use Rattle.floors_file.proofs.NamedRoundLemmas.{FitsHeard, fits_heard}
use Rattle.floors_file.proofs.NamedSpellingLemmas.{length_mac_line, named_ranges_of, plain_line}
use Rattle.floors_file.proofs.RoundLemmas.{Ranges}

head_short : (line : NamedLineRecord) → is_names_word line.head.names ≡ true → is_word line.head.life ≡ true → Ranges 65536 (plain_line line)
    → length (named_head_text line.head line.rows) ≤ 183
unfolding named_head_text
head_short line word of_life is =
    let five : 65536 < 10 ^ 5 = lit< tt in
    let late : 2 ^ 40 < 10 ^ 13 = lit< tt in
    let wide : 2 ^ 62 < 10 ^ 19 = lit< tt in
    let node = few_digits 1 line.head.node (omega arith) (omega arith) (omega (arith, is.node)) (omega (arith, is.node)) in
    let members = few_digits 1 line.head.members (omega arith) (omega arith) (omega (arith, is.members)) (omega (arith, is.members)) in
    let boot = few_digits 19 line.head.boot (omega arith) (omega arith) (omega (arith, is.boot, wide)) (omega (arith, is.boot)) in
    let moment = few_digits 13 line.head.moment (omega arith) (omega arith) (omega (arith, is.moment, late)) (omega (arith, is.moment)) in
    let rows = few_digits 5 line.rows (omega arith) (omega arith) (omega (arith, is.tokens, five)) (omega (arith, is.tokens)) in
    let names = word_short line.head.names (and_parts (nat_le 12 (length line.head.names)) (is_word line.head.names) word).1 in
    let life = word_short line.head.life of_life in
    simp length-append (omega (arith, node, members, boot, moment, rows, names, life))

row_short : (before : List NamedFloor) (row : NamedFloor) → IsNamedRow before row → length (named_row_text row) ≤ 86
unfolding named_row_text
row_short before row is =
    let wide : 2 ^ 62 < 10 ^ 19 = lit< tt in
    let fits = is.next in
    let digits = few_digits 19 row.next (omega arith) (omega arith) (omega (arith, fits, wide)) (omega (arith, fits)) in
    let name : length (encode_lower row.name) ≡ 32 = (let len = is.len in omega (arith, length-encode_with lower_digits row.name, len)) in
    let seed : length (encode_lower row.seed) ≡ 32 = (let len = is.seed_len in omega (arith, length-encode_with lower_digits row.seed, len)) in
    simp length-append (omega (arith, name, seed, digits))

rows_short : (before rows : List NamedFloor) → AreNamedRows before rows → length (flat_map named_row_text rows) ≤ 86 * length rows
rows_short before [] are = omega arith
rows_short before (row ∷ rows) are =
    let first = row_short before row are.0 in
    let rest = rows_short (before ++ row ∷ []) rows are.1 in
    omega (arith, length-append (named_row_text row) (flat_map named_row_text rows), first, rest)

boot_short : (one : HeardBoot) → FitsHeard one → length (heard_text one) ≤ 28
unfolding heard_text
boot_short one fits =
    let wide : 2 ^ 62 < 10 ^ 19 = lit< tt in
    let low = fits.member in
    let early = fits.boot in
    let member = few_digits 1 one.member (omega arith) (omega arith) (omega (arith, low)) (omega (arith, low)) in
    let boot = few_digits 19 one.boot (omega arith) (omega arith) (omega (arith, early, wide)) (omega (arith, early)) in
    simp length-append (omega (arith, member, boot))

heard_short : (head : NamedHeadRecord) (before heard : List HeardBoot) → head.members ≤ 9 → AreHeard head before heard
    → length (flat_map heard_text heard) ≤ 28 * length heard
heard_short head before [] nine are = omega arith
heard_short head before (one ∷ heard) nine are =
    let first = boot_short one (fits_heard head one nine are.0) in
    let rest = heard_short head (before ++ one ∷ []) heard nine are.2 in
    omega (arith, length-append (heard_text one) (flat_map heard_text heard), first, rest)

-- a member that is above each one before is above `low`
abbrev IsLow : ℕ → List HeardBoot → Type 0
IsLow low before = (k : ℕ) → 1 ≤ k → list_all (λ b. nat_lt b.member k) before ≡ true → low < k

-- as many boots as members at most, since they ascend
heard_few : (head : NamedHeadRecord) (before heard : List HeardBoot) (low : ℕ) → head.members ≤ 9 → length before ≤ low → low ≤ 9
    → IsLow low before → AreHeard head before heard → length before + length heard ≤ 9
heard_few head before [] low nine many high is are = omega (arith, many, high)
heard_few head before (one ∷ heard) low nine many high is are =
    let next = and_parts (not (one.member == head.node)) (list_all (λ b. nat_lt b.member one.member) before) are.1 in
    let ranged = and_parts (nat_le 1 one.member && nat_le one.member head.members) (nat_lt one.boot (2 ^ 62)) are.0 in
    let some = leb-true 1 one.member (and_parts (nat_le 1 one.member) (nat_le one.member head.members) ranged.0).0 in
    let above = is one.member some next.1 in
    let fits = (fits_heard head one nine are.0).member in
    let rest = heard_few head (before ++ one ∷ []) heard one.member nine (omega (arith, many, above, length-append before (one ∷ []))) fits (λ k some h.
    let both = and_parts (list_all (λ b. nat_lt b.member k) before) (list_all (λ b. nat_lt b.member k) (one ∷ []))
    (sym (list_all-append (λ b. nat_lt b.member k) before (one ∷ [])) ∙ h) in
    ltb-true one.member k (and_parts (nat_lt one.member k) true both.1).0) are.2 in
    omega (arith, rest, length-append before (one ∷ []))

pub named_floors_short : (key : List ℕ) (floors : NamedFloorsRecord) → AreNamedFloors floors → length (named_floors_text key floors) ≤ 5636600
named_floors_short key floors are =
    let line : NamedLineRecord = record { head = floors.head; rows = length floors.rows } in
    let is = named_ranges_of line are.head in
    let nine = is.members in
    let few = is.tokens in
    let first = head_short line are.word are.life is in
    let rows = rows_short [] floors.rows are.rows in
    let heard = heard_short floors.head [] floors.heard nine are.heard in
    let boots = heard_few floors.head [] floors.heard 0 nine (omega arith) (omega arith) (λ k some h. omega (arith, some)) are.heard in
    let head_text = named_head_text floors.head (length floors.rows) in
    let row_texts = flat_map named_row_text floors.rows in
    let heard_texts = flat_map heard_text floors.heard in
    omega (
      arith,
      length-append (body_text floors) (mac_line key (body_text floors)),
      length-append head_text (row_texts ++ heard_texts),
      length-append row_texts heard_texts,
      length_mac_line key (body_text floors),
      first,
      rows,
      heard,
      boots,
      few,
    )
