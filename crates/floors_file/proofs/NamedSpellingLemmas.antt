-- Floors by names have one spelling: what is written is read back, and what is read was written so.
use Rattle.std.proofs.Common.{◌≡◌, ℕ, zero, suc, ◌+◌, ◌-◌, ◌/◌, ◌%◌, ◌^◌, ◌<◌, ◌≤◌, Bool, true, false, cond, List, [], ◌∷◌, ◌++◌, length, take, drop, get_or, slice_index, Option, Some, None, refl, sym, ap, subst, ◌∙◌, arith, append_assoc, length-append, true≢false}
use Rattle.std.specs.Prelude.{Result, Ok, Err, not, ◌&&◌, ◌==◌, nat_le, nat_lt, codes}
use Rattle.std.specs.List.{flat_map, join_with_byte, list_all}
use Rattle.std.specs.Fmt.{decimal}
use Rattle.std.specs.Char.{is_ascii_digit}
use Rattle.std.specs.Str.{bytes_eq}
use Rattle.std.specs.Str.Parse.{digits_value}
use Rattle.std.proofs.lemmas.Bool.{and_parts, ltb-true}
use Rattle.std.proofs.lemmas.Fmt.{decimal-digits_value}
use Rattle.std.proofs.lemmas.List.{append-nil, take-append-drop}
use Rattle.std.proofs.Math.Seq.{drop-append_seam, take-append_seam}
use Rattle.std.proofs.lemmas.List.Splits.{join_with_byte-slice_split}
use Rattle.std.proofs.lemmas.Slice.Eq.{bytes_eq-Decides}
use Rattle.field_text.specs.Number.{number_of}
use Rattle.field_text.specs.Word.{is_visible, is_word}
use Rattle.hex.specs.Hex.{IsBytes, decode_sized, encode_lower, encode_with, lower_digits}
use Rattle.hex.specs.declared.error.FromHexError.{FromHexError}
use Rattle.hex.proofs.HexLemmas.{decode_sized-encode_lower}
use Rattle.token_file.specs.Fields.{lines_of}
use Rattle.floors_file.specs.declared.fault.LineFault.{LineFault}
use Rattle.floors_file.specs.declared.fault.LineFault.TheVariants.{BadMac, Heard, Life, NamesWord, NotFloors, Range, TooMany, Twice, Version}
use Rattle.floors_file.specs.declared.named.HeardBoot.{HeardBoot}
use Rattle.floors_file.specs.declared.named.NamedFloor.{NamedFloor}
use Rattle.floors_file.specs.declared.reading.HeadLine.{HeadLine}
use Rattle.floors_file.specs.Fields.{◌>>=◌, fields_of, has_leading_zero, is_digits, last_field, last_number, next_field, number_field, or_most, plain_number, with_fields, with_none}
use Rattle.floors_file.specs.Named.{NamedFloorsRecord, NamedHeadRecord, plain_head}
use Rattle.floors_file.specs.NamedReading.{NamedLineRecord, bytes_before, bytes_field, bytes_of_field, ended_named, first_named, heard_end, heard_from, heard_numbers, heard_of, if_lower, is_heard_next, is_heard_ranged, is_named_head, is_names_word, named_after, named_floors_of, named_head_of, named_numbers, named_of_lines, named_of_version, named_ranged, named_row_of, named_rows_from, new_heard, new_named_row}
use Rattle.floors_file.specs.NamedRows.{has_name}
use Rattle.floors_file.specs.NamedWriting.{body_text, heard_text, named_floors_text, named_head_text, named_row_text}
use Rattle.floors_file.specs.Reading.{at_line}
use Rattle.floors_file.specs.Sealed.{body_of, front_of, mac_digits, mac_line, sealed}
use Rattle.floors_file.proofs.RoundLemmas.{IsVisible, Ranges, and_both, le_from_test, own_digits, ranges_of}
use Rattle.floors_file.proofs.SealedLemmas.{length_mac_digits}

abbrev present : {A : Type 0} → A → Option A
present x = Some x

some_is : {A : Type 0} (x y : A) → present x ≡ present y → x ≡ y
some_is x y e = cc

abbrev good : {A E : Type 0} → A → Result A E
good x = Ok x

ok_is : {A E : Type 0} (x y : A) → good {A = A} {E = E} x ≡ good y → x ≡ y
ok_is x y e = cc

-- ---- steps that led to a result

record IsBound {A B E : Type 0} (o : Result A E) (next : A → Result B E) (y : B) : Type 0 where
  x : A
  first : o ≡ Ok x
  then : next x ≡ Ok y

bound : {A B E : Type 0} (o : Result A E) (next : A → Result B E) (y : B) → (o >>= next) ≡ Ok y → IsBound o next y
bound (Ok x) next y e = record { x = x; first = refl; then = e }
bound (Err fault) next y e = absurd cc

at_line_ok : {A : Type 0} (number : ℕ) (o : Result A LineFault) (y : A) → at_line number o ≡ Ok y → o ≡ Ok y
at_line_ok number (Ok x) y e = ap good (ok_is x y e)
at_line_ok number (Err fault) y e = absurd cc

-- ---- fields

next_is : (fields : List (List ℕ)) (x : List ℕ × List (List ℕ)) → next_field fields ≡ Ok x → fields ≡ x.0 ∷ x.1
next_is [] x e = absurd cc
next_is (field ∷ fields) x e = ap (λ (y : List ℕ × List (List ℕ)). y.0 ∷ y.1) (ok_is (field, fields) x e)

lead_is : (text : List ℕ) → 0 < length text → has_leading_zero text ≡ false → get_or text 0 0 ≡ 48 → length text ≡ 1
lead_is [] some plain is = absurd (omega (arith, some))
lead_is (digit ∷ []) some plain is = refl
lead_is (digit ∷ next ∷ digits) some plain is =
    let yes_it_is : (digit == 48) ≡ true = rw is refl in absurd (true≢false (sym yes_it_is ∙ plain))

record IsPlain (text : List ℕ) (n : ℕ) : Type 0 where
  lead : has_leading_zero text ≡ false
  digits : is_digits text ≡ true
  number : number_of text ≡ Some n

plain_parts : (lead digits : Bool) (number : Option ℕ) (n : ℕ) → cond lead None (cond digits (Some (or_most number)) None) ≡ Some n → n < 2 ^ 64 - 1
    → (lead ≡ false) × (digits ≡ true) × (number ≡ Some n)
plain_parts true digits number n e low = absurd cc
plain_parts false false number n e low = absurd cc
plain_parts false true None n e low = let most : 2 ^ 64 - 1 ≡ n = some_is (2 ^ 64 - 1) n e in absurd (omega (arith, most, low))
plain_parts false true (Some m) n e low = (refl, refl, e)

value_parts : (test : Bool) (value n : ℕ) → cond test (Some value) None ≡ Some n → (test ≡ true) × (value ≡ n)
value_parts true value n e = (refl, some_is value n e)
value_parts false value n e = absurd cc

-- a number without leading zeros is spelled in one way
pub plain_is : (text : List ℕ) (n : ℕ) → plain_number text ≡ Some n → n < 2 ^ 64 - 1 → text ≡ decimal n
plain_is text n e low =
    let parts = plain_parts (has_leading_zero text) (is_digits text) (number_of text) n e low in
    let value = value_parts (list_all is_ascii_digit text && (nat_lt 0 (length text) && nat_lt (digits_value 10 text) (2 ^ 64))) (digits_value 10 text) n parts.2 in
    let tests = and_parts (list_all is_ascii_digit text) (nat_lt 0 (length text) && nat_lt (digits_value 10 text) (2 ^ 64)) value.0 in
    let sizes = and_parts (nat_lt 0 (length text)) (nat_lt (digits_value 10 text) (2 ^ 64)) tests.1 in
    let some : 0 < length text = ltb-true 0 (length text) sizes.0 in
    let small : digits_value 10 text < 2 ^ 64 = ltb-true (digits_value 10 text) (2 ^ 64) sizes.1 in
    sym (decimal-digits_value own_digits text tests.0 some (lead_is text some parts.0) small) ∙ ap decimal value.1

with_fields_is : (number : Option ℕ) (fields : List (List ℕ)) (x : ℕ × List (List ℕ)) → with_fields number fields ≡ Ok x → (number ≡ Some x.0) × (fields ≡ x.1)
with_fields_is None fields x e = absurd cc
with_fields_is (Some n) fields x e =
    let is : (n, fields) ≡ x = ok_is (n, fields) x e in (ap (λ (y : ℕ × List (List ℕ)). present y.0) is, ap (λ (y : ℕ × List (List ℕ)). y.1) is)

-- a field that is a number, before others
record IsNumber (fields : List (List ℕ)) (n : ℕ) (rest : List (List ℕ)) : Type 0 where
  field : List ℕ
  is : fields ≡ field ∷ rest
  value : plain_number field ≡ Some n

number_is : (fields : List (List ℕ)) (x : ℕ × List (List ℕ)) → number_field fields ≡ Ok x → IsNumber fields x.0 x.1
number_is fields x e =
    let b = bound (next_field fields) (λ field. with_fields (plain_number field.0) field.1) x e in
    let w = with_fields_is (plain_number b.x.0) b.x.1 x b.then in
    record { field = b.x.0; is = next_is fields b.x b.first ∙ ap (λ (l : List (List ℕ)). b.x.0 ∷ l) w.1; value = w.0 }

spelled : (fields : List (List ℕ)) (n : ℕ) (rest : List (List ℕ)) → IsNumber fields n rest → n < 2 ^ 64 - 1 → fields ≡ decimal n ∷ rest
spelled fields n rest is low = is.is ∙ ap (λ (l : List ℕ). l ∷ rest) (plain_is is.field n is.value low)

none_left : {A : Type 0} (x : A) (fields : List (List ℕ)) (y : A) → with_none x fields ≡ Ok y → (x ≡ y) × (fields ≡ [])
none_left x [] y e = (ok_is x y e, refl)
none_left x (field ∷ fields) y e = absurd cc

last_is : (fields : List (List ℕ)) (n : ℕ) → last_number fields ≡ Ok n → IsNumber fields n []
last_is fields n e =
    let b = bound (number_field fields) (λ number. with_none number.0 number.1) n e in
    let is = number_is fields b.x b.first in
    let last = none_left b.x.0 b.x.1 n b.then in
    record { field = is.field; is = is.is ∙ ap (λ (l : List (List ℕ)). is.field ∷ l) last.1; value = is.value ∙ ap present last.0 }

last_field_is : (fields : List (List ℕ)) (field : List ℕ) → last_field fields ≡ Ok field → fields ≡ field ∷ []
last_field_is fields field e =
    let b = bound (next_field fields) (λ field. with_none field.0 field.1) field e in
    let last = none_left b.x.0 b.x.1 field b.then in
    next_is fields b.x b.first ∙ ap (λ (l : List (List ℕ)). b.x.0 ∷ l) last.1 ∙ ap (λ (l : List ℕ). l ∷ []) last.0

-- a test that let a result pass
test_is : {A : Type 0} (test : Bool) (pass : Result A LineFault) (fault : LineFault) (y : A) → cond test pass (Err fault) ≡ Ok y → (test ≡ true) × (pass ≡ Ok y)
test_is true pass fault y e = (refl, e)
test_is false pass fault y e = absurd cc

test_not : {A : Type 0} (test : Bool) (pass : Result A LineFault) (fault : LineFault) (y : A) → cond test (Err fault) pass ≡ Ok y → (test ≡ false) × (pass ≡ Ok y)
test_not true pass fault y e = absurd cc
test_not false pass fault y e = (refl, e)

not_false : (b : Bool) → not b ≡ false → b ≡ true
not_false true e = refl
not_false false e = absurd (true≢false e)

not_above : (a b : ℕ) → nat_lt a b ≡ false → b ≤ a
not_above a b h = grind arith

-- ---- the first line

abbrev pub named_fields : NamedHeadRecord → ℕ → List (List ℕ)
named_fields head rows =
    codes "2" ∷ decimal head.node ∷ decimal head.members ∷ decimal head.boot ∷ decimal head.moment ∷ decimal rows ∷ head.names ∷ head.life ∷ []

pub record IsHeadSpelled (fields : List (List ℕ)) (line : NamedLineRecord) : Type 0 where
  pub word : is_names_word line.head.names ≡ true
  pub ranged : is_named_head line ≡ true
  pub spelling : fields ≡ codes "floors" ∷ named_fields line.head line.rows

-- the numbers of a first line, as a file by users has them
abbrev pub plain_line : NamedLineRecord → HeadLine
plain_line line = record { head = plain_head line.head; tokens = line.rows }

pub named_ranges_of : (line : NamedLineRecord) → is_named_head line ≡ true → Ranges 65536 (plain_line line)
named_ranges_of line h = ranges_of 65536 (plain_line line) h

ranged_is : (line other : NamedLineRecord) → named_ranged line ≡ Ok other → (is_names_word line.head.names ≡ true) × (is_named_head line ≡ true) × (line ≡ other)
ranged_is line other e =
    let ended = cond (is_word line.head.life) (Ok line) (Err Life) in
    let one = test_not (not (is_names_word line.head.names)) (cond (not (is_named_head line)) (Err Range) ended) NamesWord other e in
    let two = test_not (not (is_named_head line)) ended Range other one.1 in
    let three = test_is (is_word line.head.life) (Ok line) Life other two.1 in
    (not_false (is_names_word line.head.names) one.0, not_false (is_named_head line) two.0, ok_is line other three.1)

abbrev line_of : ℕ → ℕ → ℕ → ℕ → ℕ → List ℕ → List ℕ → NamedLineRecord
line_of node members boot moment rows names life =
    record { head = record { node = node; members = members; boot = boot; moment = moment; names = names; life = life }; rows = rows }

abbrev then_life : ℕ → ℕ → ℕ → ℕ → ℕ → List ℕ → List ℕ → Result NamedLineRecord LineFault
then_life node members boot moment rows names life = named_ranged (line_of node members boot moment rows names life)

abbrev then_names : ℕ → ℕ → ℕ → ℕ → ℕ → List ℕ × List (List ℕ) → Result NamedLineRecord LineFault
then_names node members boot moment rows names = last_field names.1 >>= then_life node members boot moment rows names.0

abbrev then_rows : ℕ → ℕ → ℕ → ℕ → ℕ × List (List ℕ) → Result NamedLineRecord LineFault
then_rows node members boot moment rows = next_field rows.1 >>= then_names node members boot moment rows.0

abbrev then_moment : ℕ → ℕ → ℕ → ℕ × List (List ℕ) → Result NamedLineRecord LineFault
then_moment node members boot moment = number_field moment.1 >>= then_rows node members boot moment.0

abbrev then_boot : ℕ → ℕ → ℕ × List (List ℕ) → Result NamedLineRecord LineFault
then_boot node members boot = number_field boot.1 >>= then_moment node members boot.0

abbrev then_members : ℕ → ℕ × List (List ℕ) → Result NamedLineRecord LineFault
then_members node members = number_field members.1 >>= then_boot node members.0

abbrev then_node : ℕ × List (List ℕ) → Result NamedLineRecord LineFault
then_node node = number_field node.1 >>= then_members node.0

-- the fields of a first line after its version
record AreNumbersSpelled (fields : List (List ℕ)) (line : NamedLineRecord) : Type 0 where
  word : is_names_word line.head.names ≡ true
  ranged : is_named_head line ≡ true
  spelling : codes "2" ∷ fields ≡ named_fields line.head line.rows

numbers_spelled : (fields : List (List ℕ)) (line : NamedLineRecord) → named_numbers fields ≡ Ok line → AreNumbersSpelled fields line
numbers_spelled fields line e =
    let node = bound (number_field fields) then_node line e in
    let members = bound (number_field node.x.1) (then_members node.x.0) line node.then in
    let boot = bound (number_field members.x.1) (then_boot node.x.0 members.x.0) line members.then in
    let moment = bound (number_field boot.x.1) (then_moment node.x.0 members.x.0 boot.x.0) line boot.then in
    let rows = bound (number_field moment.x.1) (then_rows node.x.0 members.x.0 boot.x.0 moment.x.0) line moment.then in
    let names = bound (next_field rows.x.1) (then_names node.x.0 members.x.0 boot.x.0 moment.x.0 rows.x.0) line rows.then in
    let life = bound (last_field names.x.1) (then_life node.x.0 members.x.0 boot.x.0 moment.x.0 rows.x.0 names.x.0) line names.then in
    let read = line_of node.x.0 members.x.0 boot.x.0 moment.x.0 rows.x.0 names.x.0 life.x in
    let ranged = ranged_is read line life.then in
    let is = named_ranges_of read ranged.1 in
    let spelling : codes "2" ∷ fields ≡ named_fields read.head read.rows =
    ap (λ l. codes "2" ∷ l)
    (spelled fields node.x.0 node.x.1 (number_is fields node.x node.first) (omega (arith, is.node))
    ∙ ap (λ l. decimal node.x.0 ∷ l)
    (spelled node.x.1 members.x.0 members.x.1 (number_is node.x.1 members.x members.first) (omega (arith, is.members))
    ∙ ap (λ l. decimal members.x.0 ∷ l)
    (spelled members.x.1 boot.x.0 boot.x.1 (number_is members.x.1 boot.x boot.first) (omega (arith, is.boot))
    ∙ ap (λ l. decimal boot.x.0 ∷ l)
    (spelled boot.x.1 moment.x.0 moment.x.1 (number_is boot.x.1 moment.x moment.first) (omega (arith, is.moment))
    ∙ ap (λ l. decimal moment.x.0 ∷ l)
    (spelled moment.x.1 rows.x.0 rows.x.1 (number_is moment.x.1 rows.x rows.first) (omega (arith, is.tokens))
    ∙ ap (λ l. decimal rows.x.0 ∷ l)
    (next_is rows.x.1 names.x names.first
    ∙ ap (λ l. names.x.0 ∷ l) (last_field_is names.x.1 life.x life.first))))))) in
    subst (λ (l : NamedLineRecord). AreNumbersSpelled fields l) ranged.2 (record { word = ranged.0; ranged = ranged.1; spelling = spelling })

abbrev then_version : List ℕ × List (List ℕ) → Result NamedLineRecord LineFault
then_version version = cond (bytes_eq version.0 (codes "2")) (named_numbers version.1) (Err Version)

abbrev then_word : List ℕ × List (List ℕ) → Result NamedLineRecord LineFault
then_word word = cond (bytes_eq word.0 (codes "floors")) (named_of_version word.1) (Err NotFloors)

pub head_spelled : (fields : List (List ℕ)) (line : NamedLineRecord) → named_head_of fields ≡ Ok line → IsHeadSpelled fields line
head_spelled fields line e =
    let word = bound (next_field fields) then_word line e in
    let floors = test_is (bytes_eq word.x.0 (codes "floors")) (named_of_version word.x.1) NotFloors line word.then in
    let version = bound (next_field word.x.1) then_version line floors.1 in
    let two = test_is (bytes_eq version.x.0 (codes "2")) (named_numbers version.x.1) Version line version.then in
    let numbers = numbers_spelled version.x.1 line two.1 in
    record {
      word = numbers.word;
      ranged = numbers.ranged;
      spelling = next_is fields word.x word.first
          ∙ ap (λ l. l ∷ word.x.1) ((bytes_eq-Decides word.x.0 (codes "floors")).0 floors.0)
          ∙ ap (λ l. codes "floors" ∷ l) (next_is word.x.1 version.x version.first
          ∙ ap (λ l. l ∷ version.x.1) ((bytes_eq-Decides version.x.0 (codes "2")).0 two.0) ∙ numbers.spelling);
    }

pub rows_few : (fields : List (List ℕ)) (line : NamedLineRecord) → named_head_of fields ≡ Ok line → line.rows ≤ 65536
rows_few fields line e = (named_ranges_of line (head_spelled fields line e).ranged).tokens

-- ---- names and seeds

lower_is : (field : List ℕ) (bytes : Result (List ℕ) FromHexError) (name : List ℕ) → if_lower field bytes ≡ Some name → encode_lower name ≡ field
lower_is field (Err fault) name e = absurd cc
lower_is field (Ok bytes) name e = lower_test (bytes_eq (encode_lower bytes) field) refl e where
  lower_test : (b : Bool) → bytes_eq (encode_lower bytes) field ≡ b → cond b (Some bytes) None ≡ Some name → encode_lower name ≡ field
  lower_test true is e = ap encode_lower (sym (some_is bytes name e)) ∙ (bytes_eq-Decides (encode_lower bytes) field).0 is
  lower_test false is e = absurd cc

-- 16 bytes are spelled in one way
digits_are : (field bytes : List ℕ) → bytes_of_field field ≡ Some bytes → field ≡ encode_lower bytes
digits_are field bytes e = sym (lower_is field (decode_sized field 16) bytes e)

before_is : (bytes : Option (List ℕ)) (fields : List (List ℕ)) (x : List ℕ × List (List ℕ)) → bytes_before bytes fields ≡ Ok x → (bytes ≡ Some x.0) × (fields ≡ x.1)
before_is None fields x e = absurd cc
before_is (Some bytes) fields x e =
    let is : (bytes, fields) ≡ x = ok_is (bytes, fields) x e in
    (ap (λ (y : List ℕ × List (List ℕ)). present y.0) is, ap (λ (y : List ℕ × List (List ℕ)). y.1) is)

-- a field of 16 bytes, before others
bytes_are : (fields : List (List ℕ)) (x : List ℕ × List (List ℕ)) → bytes_field fields ≡ Ok x → fields ≡ encode_lower x.0 ∷ x.1
bytes_are fields x e =
    let b = bound (next_field fields) (λ field. bytes_before (bytes_of_field field.0) field.1) x e in
    let w = before_is (bytes_of_field b.x.0) b.x.1 x b.then in
    next_is fields b.x b.first
    ∙ ap (λ (l : List (List ℕ)). b.x.0 ∷ l) w.1
    ∙ ap (λ (l : List ℕ). l ∷ x.1) (digits_are b.x.0 x.0 w.0)

pub bytes_back : (bytes : List ℕ) → length bytes ≡ 16 → IsBytes bytes → bytes_of_field (encode_lower bytes) ≡ Some bytes
bytes_back bytes len are =
    ap (if_lower (encode_lower bytes)) (decode_sized-encode_lower bytes 16 len are)
    ∙ ap (λ b. cond b (Some bytes) None) ((bytes_eq-Decides (encode_lower bytes) (encode_lower bytes)).1 refl)

visible_at : (t : List ℕ) (d : ℕ) → IsVisible t → is_visible (slice_index t d) ≡ true
visible_at [] d h = refl
visible_at (b ∷ t) zero h = (and_parts (is_visible b) (list_all is_visible t) h).0
visible_at (b ∷ t) (suc d) h = visible_at t d (and_parts (is_visible b) (list_all is_visible t) h).1

digits_visible : (t bytes : List ℕ) → IsVisible t → IsVisible (encode_with t bytes)
unfolding encode_with
digits_visible t [] h = refl
digits_visible t (b ∷ rest) h =
    and_both (is_visible (slice_index t (b / 16))) (is_visible (slice_index t (b % 16)) && list_all is_visible (encode_with t rest)) (visible_at t (b / 16) h)
    (and_both (is_visible (slice_index t (b % 16))) (list_all is_visible (encode_with t rest)) (visible_at t (b % 16) h) (digits_visible t rest h))

pub bytes_visible : (bytes : List ℕ) → IsVisible (encode_lower bytes)
bytes_visible bytes = digits_visible lower_digits bytes refl

-- ---- the line of a row

abbrev pub row_fields : NamedFloor → List (List ℕ)
row_fields row = encode_lower row.name ∷ encode_lower row.seed ∷ decimal row.next ∷ []

abbrev then_seed : List NamedFloor → List ℕ → List ℕ × List (List ℕ) → Result NamedFloor LineFault
then_seed rows name seed = last_number seed.1 >>= new_named_row rows name seed.0

abbrev then_name : List NamedFloor → List ℕ × List (List ℕ) → Result NamedFloor LineFault
then_name rows name = bytes_field name.1 >>= then_seed rows name.0

row_is : (rows : List NamedFloor) (row other : NamedFloor) → new_named_row rows row.name row.seed row.next ≡ Ok other → (row.next ≤ 2 ^ 62) × (row ≡ other)
row_is rows row other e =
    let fits = test_not (nat_lt (2 ^ 62) row.next) (cond (has_name row.name rows) (Err Twice) (Ok row)) Range other e in
    let new = test_not (has_name row.name rows) (Ok row) Twice other fits.1 in
    (not_above (2 ^ 62) row.next fits.0, ok_is row other new.1)

pub row_spelled : (rows : List NamedFloor) (fields : List (List ℕ)) (row : NamedFloor) → named_row_of rows fields ≡ Ok row → fields ≡ row_fields row
row_spelled rows fields row e =
    let name = bound (bytes_field fields) (then_name rows) row e in
    let seed = bound (bytes_field name.x.1) (then_seed rows name.x.0) row name.then in
    let next = bound (last_number seed.x.1) (new_named_row rows name.x.0 seed.x.0) row seed.then in
    let read : NamedFloor = record { name = name.x.0; seed = seed.x.0; next = next.x } in
    let is = row_is rows read row next.then in
    bytes_are fields name.x name.first
    ∙ ap (λ (l : List (List ℕ)). encode_lower name.x.0 ∷ l)
    (bytes_are name.x.1 seed.x seed.first
    ∙ ap (λ (l : List (List ℕ)). encode_lower seed.x.0 ∷ l)
    (spelled seed.x.1 next.x [] (last_is seed.x.1 next.x next.first) (omega (arith, is.0))))
    ∙ ap row_fields is.1

-- ---- the line of a boot

abbrev pub heard_fields : HeardBoot → List (List ℕ)
heard_fields one = codes "heard" ∷ decimal one.member ∷ decimal one.boot ∷ []

abbrev then_boot_heard : NamedHeadRecord → List HeardBoot → ℕ → ℕ → Result HeardBoot LineFault
then_boot_heard head heard member boot = new_heard head heard (record { member = member; boot = boot })

abbrev then_member : NamedHeadRecord → List HeardBoot → ℕ × List (List ℕ) → Result HeardBoot LineFault
then_member head heard member = last_number member.1 >>= then_boot_heard head heard member.0

abbrev then_heard : NamedHeadRecord → List HeardBoot → List ℕ × List (List ℕ) → Result HeardBoot LineFault
then_heard head heard word = cond (bytes_eq word.0 (codes "heard")) (heard_numbers head heard word.1) (Err TooMany)

heard_is : (head : NamedHeadRecord) (heard : List HeardBoot) (one other : HeardBoot) → new_heard head heard one ≡ Ok other
    → (is_heard_ranged head one ≡ true) × (one ≡ other)
heard_is head heard one other e =
    let ranged = test_not (not (is_heard_ranged head one)) (cond (is_heard_next head heard one) (Ok one) (Err Heard)) Range other e in
    let next = test_is (is_heard_next head heard one) (Ok one) Heard other ranged.1 in
    (not_false (is_heard_ranged head one) ranged.0, ok_is one other next.1)

pub boot_spelled : (head : NamedHeadRecord) (heard : List HeardBoot) (fields : List (List ℕ)) (one : HeardBoot) → head.members ≤ 9
    → heard_of head heard fields ≡ Ok one → fields ≡ heard_fields one
boot_spelled head heard fields one nine e =
    let word = bound (next_field fields) (then_heard head heard) one e in
    let is_heard = test_is (bytes_eq word.x.0 (codes "heard")) (heard_numbers head heard word.x.1) TooMany one word.then in
    let member = bound (number_field word.x.1) (then_member head heard) one is_heard.1 in
    let boot = bound (last_number member.x.1) (then_boot_heard head heard member.x.0) one member.then in
    let read : HeardBoot = record { member = member.x.0; boot = boot.x } in
    let is = heard_is head heard read one boot.then in
    let parts = and_parts (nat_le 1 read.member && nat_le read.member head.members) (nat_lt read.boot (2 ^ 62)) is.0 in
    let members = le_from_test read.member head.members (and_parts (nat_le 1 read.member) (nat_le read.member head.members) parts.0).1 in
    let low = ltb-true read.boot (2 ^ 62) parts.1 in
    next_is fields word.x word.first
    ∙ ap (λ (l : List ℕ). l ∷ word.x.1) ((bytes_eq-Decides word.x.0 (codes "heard")).0 is_heard.0)
    ∙ ap (λ (l : List (List ℕ)). codes "heard" ∷ l)
    (spelled word.x.1 member.x.0 member.x.1 (number_is word.x.1 member.x member.first) (omega (arith, members, nine))
    ∙ ap (λ (l : List (List ℕ)). decimal member.x.0 ∷ l) (spelled member.x.1 boot.x [] (last_is member.x.1 boot.x boot.first) (omega (arith, low))))
    ∙ ap heard_fields is.1

-- ---- lines

abbrev joined_lines : List (List ℕ) → List ℕ
joined_lines lines = join_with_byte 10 lines

line_joined_back : (line : List ℕ) (fields : List (List ℕ)) → fields_of line ≡ fields → line ≡ join_with_byte 32 fields
line_joined_back line fields e = sym (join_with_byte-slice_split 32 line) ∙ ap (join_with_byte 32) e

pub head_line_is : (head : NamedHeadRecord) (rows : ℕ) (rest : List ℕ)
    → named_head_text head rows ++ rest ≡ join_with_byte 32 (codes "floors" ∷ named_fields head rows) ++ 10 ∷ rest
unfolding named_head_text
head_line_is head rows rest = simp append_assoc

pub row_line_is : (row : NamedFloor) (rest : List ℕ) → named_row_text row ++ rest ≡ join_with_byte 32 (row_fields row) ++ 10 ∷ rest
unfolding named_row_text
row_line_is row rest = simp append_assoc

pub boot_line_is : (one : HeardBoot) (rest : List ℕ) → heard_text one ++ rest ≡ join_with_byte 32 (heard_fields one) ++ 10 ∷ rest
unfolding heard_text
boot_line_is one rest = simp append_assoc

record AreHeardSpelled (heard all : List HeardBoot) (text : List ℕ) : Type 0 where
  more : List HeardBoot
  all_is : all ≡ heard ++ more
  spelling : text ≡ flat_map heard_text more

no_bytes : (heard : List HeardBoot) (line : List ℕ) (all : List HeardBoot) → heard_end heard line ≡ Ok all → (line ≡ []) × (heard ≡ all)
no_bytes heard [] all e = (refl, ok_is heard all e)
no_bytes heard (b ∷ line) all e = absurd cc

heard_lines_spelled : (number : ℕ) (head : NamedHeadRecord) (heard : List HeardBoot) (lines : List (List ℕ)) (all : List HeardBoot) → head.members ≤ 9
    → heard_from number head heard lines ≡ Ok all → AreHeardSpelled heard all (joined_lines lines)
heard_lines_spelled number head heard [] all nine e = absurd cc
heard_lines_spelled number head heard (line ∷ []) all nine e =
    let is = no_bytes heard line all (at_line_ok number (heard_end heard line) all e) in
    record { more = []; all_is = sym is.1 ∙ sym (append-nil heard); spelling = is.0 }
heard_lines_spelled number head heard (line ∷ next ∷ lines) all nine e =
    let one = bound (at_line number (heard_of head heard (fields_of line))) (λ one. heard_from (number + 1) head (heard ++ one ∷ []) (next ∷ lines)) all e in
    let read = at_line_ok number (heard_of head heard (fields_of line)) one.x one.first in
    let rest = heard_lines_spelled (number + 1) head (heard ++ one.x ∷ []) (next ∷ lines) all nine one.then in
    record {
      more = one.x ∷ rest.more;
      all_is = rest.all_is ∙ append_assoc heard (one.x ∷ []) rest.more;
      spelling = ap (λ (l : List ℕ). l ++ 10 ∷ joined_lines (next ∷ lines)) (line_joined_back line (heard_fields one.x) (boot_spelled head heard (fields_of line) one.x nine read))
          ∙ ap (λ (l : List ℕ). join_with_byte 32 (heard_fields one.x) ++ 10 ∷ l) rest.spelling
          ∙ sym (boot_line_is one.x (flat_map heard_text rest.more));
    }

record AreRowsSpelled (count : ℕ) (rows : List NamedFloor) (read : List NamedFloor × List (List ℕ)) (text : List ℕ) : Type 0 where
  more : List NamedFloor
  all_is : read.0 ≡ rows ++ more
  len : length more ≡ count
  spelling : text ≡ flat_map named_row_text more ++ joined_lines read.1

row_lines_spelled : (number count : ℕ) (rows : List NamedFloor) (lines : List (List ℕ)) (read : List NamedFloor × List (List ℕ))
    → named_rows_from number count rows lines ≡ Ok read → AreRowsSpelled count rows read (joined_lines lines)
row_lines_spelled number zero rows lines read e =
    let is = ok_is (rows, lines) read e in
    record {
      more = [];
      all_is = sym (ap (λ (r : List NamedFloor × List (List ℕ)). r.0) is) ∙ sym (append-nil rows);
      len = refl;
      spelling = ap (λ (r : List NamedFloor × List (List ℕ)). joined_lines r.1) is;
    }
row_lines_spelled number (suc count) rows [] read e = absurd cc
row_lines_spelled number (suc count) rows (line ∷ []) read e = absurd cc
row_lines_spelled number (suc count) rows (line ∷ next ∷ lines) read e =
    let row = bound (at_line number (named_row_of rows (fields_of line))) (λ row. named_rows_from (number + 1) count (rows ++ row ∷ []) (next ∷ lines)) read e in
    let is = at_line_ok number (named_row_of rows (fields_of line)) row.x row.first in
    let rest = row_lines_spelled (number + 1) count (rows ++ row.x ∷ []) (next ∷ lines) read row.then in
    record {
      more = row.x ∷ rest.more;
      all_is = rest.all_is ∙ append_assoc rows (row.x ∷ []) rest.more;
      len = (let len = rest.len in omega (arith, len));
      spelling = ap (λ (l : List ℕ). l ++ 10 ∷ joined_lines (next ∷ lines)) (line_joined_back line (row_fields row.x) (row_spelled rows (fields_of line) row.x is))
          ∙ ap (λ (l : List ℕ). join_with_byte 32 (row_fields row.x) ++ 10 ∷ l) rest.spelling
          ∙ sym (row_line_is row.x (flat_map named_row_text rest.more ++ joined_lines read.1))
          ∙ sym (append_assoc (named_row_text row.x) (flat_map named_row_text rest.more) (joined_lines read.1));
    }

abbrev then_lines : List (List ℕ) → NamedLineRecord → Result NamedFloorsRecord (ℕ × LineFault)
then_lines lines line = named_rows_from 2 line.rows [] lines >>= named_after line

abbrev with_heard : NamedLineRecord → List NamedFloor × List (List ℕ) → List HeardBoot → Result NamedFloorsRecord (ℕ × LineFault)
with_heard line read heard = Ok (record { head = line.head; rows = read.0; heard = heard })

ended_is : (lines : List (List ℕ)) (line other : NamedLineRecord) → ended_named lines line ≡ Ok other → (line ≡ other) × ((first : List ℕ) → joined_lines (first ∷ lines) ≡ first ++ 10 ∷ joined_lines lines)
ended_is [] line other e = absurd cc
ended_is (next ∷ lines) line other e = (ok_is line other e, λ first. refl)

lines_spelled : (lines : List (List ℕ)) (floors : NamedFloorsRecord) → named_of_lines lines ≡ Ok floors → joined_lines lines ≡ body_text floors
lines_spelled [] floors e = absurd cc
lines_spelled (first ∷ lines) floors e =
    let line = bound (at_line 1 (first_named lines first)) (then_lines lines) floors e in
    let head = bound (named_head_of (fields_of first)) (ended_named lines) line.x (at_line_ok 1 (first_named lines first) line.x line.first) in
    let ended = ended_is lines head.x line.x head.then in
    let spelled = head_spelled (fields_of first) line.x (head.first ∙ ap good ended.0) in
    let rows = bound (named_rows_from 2 line.x.rows [] lines) (named_after line.x) floors line.then in
    let heard = bound (heard_from (line.x.rows + 2) line.x.head [] rows.x.1) (with_heard line.x rows.x) floors rows.then in
    let floors_are = ok_is (record { head = line.x.head; rows = rows.x.0; heard = heard.x }) floors heard.then in
    let nine = (named_ranges_of line.x spelled.ranged).members in
    let row_lines = row_lines_spelled 2 line.x.rows [] lines rows.x rows.first in
    let heard_lines = heard_lines_spelled (line.x.rows + 2) line.x.head [] rows.x.1 heard.x nine heard.first in
    let count : line.x.rows ≡ length rows.x.0 = sym row_lines.len ∙ ap length (sym row_lines.all_is) in
    let rest : joined_lines lines ≡ flat_map named_row_text rows.x.0 ++ flat_map heard_text heard.x =
    row_lines.spelling
    ∙ ap (λ (l : List NamedFloor). flat_map named_row_text l ++ joined_lines rows.x.1) (sym row_lines.all_is)
    ∙ ap (λ (l : List ℕ). flat_map named_row_text rows.x.0 ++ l) (heard_lines.spelling ∙ ap (λ (l : List HeardBoot). flat_map heard_text l) (sym heard_lines.all_is)) in
    ended.1 first
    ∙ ap (λ (l : List ℕ). l ++ 10 ∷ joined_lines lines) (line_joined_back first (codes "floors" ∷ named_fields line.x.head line.x.rows) spelled.spelling)
    ∙ sym (head_line_is line.x.head line.x.rows (joined_lines lines))
    ∙ ap (λ (l : List ℕ). named_head_text line.x.head line.x.rows ++ l) rest
    ∙ ap (λ (n : ℕ). named_head_text line.x.head n ++ (flat_map named_row_text rows.x.0 ++ flat_map heard_text heard.x)) count
    ∙ ap body_text floors_are

-- ---- the MAC

mac_test : (test : Bool) (front body : List ℕ) (number : ℕ) → cond {A = Result (List ℕ) (ℕ × LineFault)} test (Ok front) (Err (number, BadMac)) ≡ Ok body → (test ≡ true) × (front ≡ body)
mac_test true front body number e = (refl, ok_is front body e)
mac_test false front body number e = absurd cc

pub sealed_is : (key text body : List ℕ) → body_of key text ≡ Ok body → sealed key body ≡ text
sealed_is key text body e =
    let is = mac_test (bytes_eq (drop (length text - 69) text) (mac_line key (front_of text))) (front_of text) body (length (lines_of (front_of text))) e in
    ap (λ (l : List ℕ). l ++ mac_line key l) (sym is.1)
    ∙ ap (λ (l : List ℕ). front_of text ++ l) (sym ((bytes_eq-Decides (drop (length text - 69) text) (mac_line key (front_of text))).0 is.0))
    ∙ take-append-drop (length text - 69) text

-- what is read was written
pub spelled_so : (key text : List ℕ) (floors : NamedFloorsRecord) → named_floors_of key text ≡ Ok floors → named_floors_text key floors ≡ text
spelled_so key text floors e =
    let body = bound (body_of key text) (λ body. named_of_lines (lines_of body)) floors e in
    let same : body_text floors ≡ body.x = sym (lines_spelled (lines_of body.x) floors body.then) ∙ join_with_byte-slice_split 10 body.x in
    ap (sealed key) same ∙ sealed_is key text body.x body.first

pub length_mac_line : (key body : List ℕ) → length (mac_line key body) ≡ 69
length_mac_line key body =
    let digits = length_mac_digits key body in
    omega (arith, length-append (mac_digits key body) (10 ∷ []), digits)

pub body_back : (key body : List ℕ) → body_of key (sealed key body) ≡ Ok body
body_back key body =
    let line = mac_line key body in
    let size = length_mac_line key body in
    let place : length (sealed key body) - 69 ≡ length body = omega (arith, length-append body line, size) in
    let front : front_of (sealed key body) ≡ body =
    ap (λ n. take n (body ++ line)) place ∙ take-append_seam body line in
    let last : drop (length (sealed key body) - 69) (sealed key body) ≡ line =
    ap (λ n. drop n (body ++ line)) place ∙ drop-append_seam body line in
    let test : bytes_eq (drop (length (sealed key body) - 69) (sealed key body)) (mac_line key (front_of (sealed key body))) ≡ true =
    (bytes_eq-Decides (drop (length (sealed key body) - 69) (sealed key body)) (mac_line key (front_of (sealed key body)))).1
    (last ∙ ap (mac_line key) (sym front)) in
    ap (λ b. cond {A = Result (List ℕ) (ℕ × LineFault)} b (Ok (front_of (sealed key body))) (Err (length (lines_of (front_of (sealed key body))), BadMac))) test ∙ ap good front
