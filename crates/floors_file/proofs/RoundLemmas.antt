-- Floors that were written, read back.
use Rattle.std.proofs.Common.{◌≡◌, ◌≢◌, ℕ, ◌+◌, ◌/◌, ◌%◌, ◌^◌, ◌<◌, ◌≤◌, Bool, true, false, cond, List, [], ◌∷◌, ◌++◌, length, Some, None, refl, sym, ap, ◌∙◌, arith, rules, append_assoc, ne_eqb, length-append}
use Rattle.std.specs.Prelude.{Ok, not, ◌&&◌, ◌==◌, nat_le, nat_lt, codes}
use Rattle.std.specs.List.{list_all, join_with_byte, flat_map, AllByRecursion}
use Rattle.std.specs.Fmt.{decimal}
use Rattle.std.specs.Str.Parse.{digits_value}
use Rattle.std.specs.Char.{is_ascii_digit}
use Rattle.std.proofs.lemmas.Bool.{and_parts}
use Rattle.std.proofs.lemmas.Fmt.{decimal_by_steps, digits_decimal, digits_value-decimal, decimal_nonempty}
use Rattle.std.proofs.lemmas.List.{append-nil}
use Rattle.std.proofs.lemmas.List.Folds.{list_all-append}
use Rattle.std.proofs.lemmas.List.Splits.{length-slice_split}
use Rattle.std.proofs.lemmas.Str.Parse.{IsNumeralModel, numerals_by_value}
use Rattle.field_text.specs.Number.{number_of}
use Rattle.field_text.specs.Word.{is_visible, is_word}
use Rattle.token_file.specs.Fields.{is_line_end, lines_of}
use Rattle.token_file.proofs.WritingLemmas.{split_at, split_whole}
use Rattle.floors_file.specs.declared.reading.HeadLine.{HeadLine}
use Rattle.floors_file.specs.declared.floors.Head.{Head}
use Rattle.floors_file.specs.Fields.{fields_of, has_leading_zero, is_digits, last_number, number_field, or_most, plain_number}
use Rattle.floors_file.specs.Floors.{FloorRecord, FloorsRecord}
use Rattle.floors_file.specs.Reading.{floors_of, has_user, head_numbers, head_of, is_head, next_row, row_of, rows_from}
use Rattle.floors_file.specs.Writing.{AreFloors, AreRows, floors_text, head_text, row_text}
use Rattle.floors_file.proofs.ReadingLemmas.{floors_read, row_then}

-- ---- fields

-- a text of bytes that are no blanks
abbrev pub IsVisible : List ℕ → Type 0
IsVisible text = list_all is_visible text ≡ true

abbrev is_space : ℕ → Bool
is_space byte = byte == 32

pub and_both : (x y : Bool) → x ≡ true → y ≡ true → (x && y) ≡ true
and_both x y h k = rw (h, k) refl

no_space : (b : ℕ) → is_visible b ≡ true → not (is_space b) ≡ true
no_space b h = grind arith

no_end : (b : ℕ) → is_visible b ≡ true → not (is_line_end b) ≡ true
no_end b h = grind arith

none_of : (p : ℕ → Bool) → ((b : ℕ) → is_visible b ≡ true → p b ≡ true) → (w : List ℕ) → IsVisible w → list_all p w ≡ true
none_of p each [] h = refl
none_of p each (b ∷ w) h =
    let parts = and_parts (is_visible b) (list_all is_visible w) h in
    and_both (p b) (list_all p w) (each b parts.0) (none_of p each w parts.1)

-- fields that single spaces divide
pub fields_joined : (first : List ℕ) (fields : List (List ℕ)) → AllByRecursion IsVisible (first ∷ fields)
    → fields_of (join_with_byte 32 (first ∷ fields)) ≡ first ∷ fields
fields_joined first [] h = split_whole is_space first (none_of (λ b. not (is_space b)) no_space first h.0)
fields_joined first (next ∷ fields) h =
    split_at is_space first 32 (join_with_byte 32 (next ∷ fields)) (none_of (λ b. not (is_space b)) no_space first h.0) refl
    ∙ ap (λ (rest : List (List ℕ)). first ∷ rest) (fields_joined next fields h.1)

inner_joined : (first : List ℕ) (fields : List (List ℕ)) → AllByRecursion IsVisible (first ∷ fields)
    → list_all (λ b. not (is_line_end b)) (join_with_byte 32 (first ∷ fields)) ≡ true
inner_joined first [] h = none_of (λ b. not (is_line_end b)) no_end first h.0
inner_joined first (next ∷ fields) h =
    list_all-append (λ b. not (is_line_end b)) first (32 ∷ join_with_byte 32 (next ∷ fields))
    ∙ and_both (list_all (λ b. not (is_line_end b)) first) (list_all (λ b. not (is_line_end b)) (join_with_byte 32 (next ∷ fields)))
    (none_of (λ b. not (is_line_end b)) no_end first h.0) (inner_joined next fields h.1)

-- a line of such fields, before others
pub line_joined : (first : List ℕ) (fields : List (List ℕ)) (rest : List ℕ) → AllByRecursion IsVisible (first ∷ fields)
    → lines_of (join_with_byte 32 (first ∷ fields) ++ 10 ∷ rest) ≡ join_with_byte 32 (first ∷ fields) ∷ lines_of rest
line_joined first fields rest h =
    split_at is_line_end (join_with_byte 32 (first ∷ fields)) 10 rest (inner_joined first fields h) refl

-- ---- numbers

digit_visible : (n : ℕ) → n < 10 → IsVisible ((48 + n) ∷ [])
digit_visible n low =
    rw (ne_eqb (48 + n) 9 (omega arith), ne_eqb (48 + n) 10 (omega arith), ne_eqb (48 + n) 13 (omega arith), ne_eqb (48 + n) 32 (omega arith)) refl

pub decimal_visible : (n : ℕ) → n < 2 ^ 64 → IsVisible (decimal n)
decimal_visible n fits =
    decimal_by_steps (λ n text. IsVisible text) digit_visible
    (λ n text low h. list_all-append is_visible text ((48 + n % 10) ∷ [])
    ∙ and_both (list_all is_visible text) (list_all is_visible ((48 + n % 10) ∷ [])) h (digit_visible (n % 10) (omega arith))) n fits

-- digits without a zero before them
record Plain (n : ℕ) (text : List ℕ) : Type 0 where
  first : ℕ
  others : List ℕ
  parts : text ≡ first ∷ others
  not_zero : 1 ≤ n → first ≢ 48
  plain : has_leading_zero text ≡ false

one_plain : (n : ℕ) → n < 10 → Plain n ((48 + n) ∷ [])
one_plain n low = record { first = 48 + n; others = []; parts = refl; not_zero = λ some e. omega (arith, e, some); plain = refl }

more_digits : (first : ℕ) (others : List ℕ) (digit : ℕ) → first ≢ 48 → has_leading_zero ((first ∷ others) ++ digit ∷ []) ≡ false
more_digits first [] digit h = ne_eqb first 48 h
more_digits first (next ∷ others) digit h = ne_eqb first 48 h

more_plain : (n : ℕ) (text : List ℕ) → 10 ≤ n → Plain (n / 10) text → Plain n (text ++ (48 + n % 10) ∷ [])
more_plain n text many is =
    let not_zero = is.not_zero (omega (arith, many)) in
    record {
      first = is.first;
      others = is.others ++ (48 + n % 10) ∷ [];
      parts = ap (λ l. l ++ (48 + n % 10) ∷ []) is.parts;
      not_zero = λ some. not_zero;
      plain = ap (λ l. has_leading_zero (l ++ (48 + n % 10) ∷ [])) is.parts ∙ more_digits is.first is.others (48 + n % 10) not_zero;
    }

pub own_digits : IsNumeralModel (λ ds. list_all is_ascii_digit ds ≡ true) (digits_value 10)
own_digits = numerals_by_value (λ ds. list_all is_ascii_digit ds ≡ true) (search rules)

lt_true : (a b : ℕ) → a < b → nat_lt a b ≡ true
lt_true a b h = grind arith

pub lt_false : (a b : ℕ) → b ≤ a → nat_lt a b ≡ false
lt_false a b h = grind arith

le_false : (a b : ℕ) → b < a → nat_le a b ≡ false
le_false a b h = grind arith

pub number_back : (n : ℕ) → n < 2 ^ 64 → plain_number (decimal n) ≡ Some n
number_back n fits =
    let value : digits_value 10 (decimal n) ≡ n = digits_value-decimal own_digits n fits in
    let digits = digits_decimal own_digits n fits in
    let some = lt_true 0 (length (decimal n)) (decimal_nonempty n fits) in
    let small : nat_lt (digits_value 10 (decimal n)) (2 ^ 64) ≡ true = rw value (lt_true n (2 ^ 64) fits) in
    let plain = (decimal_by_steps Plain one_plain more_plain n fits).plain in
    ap (λ b. cond b None (cond (is_digits (decimal n)) (Some (or_most (number_of (decimal n)))) None)) plain
    ∙ ap (λ b. cond b (Some (or_most (number_of (decimal n)))) None)
    (and_both (list_all is_ascii_digit (decimal n)) (nat_lt 0 (length (decimal n))) digits some)
    ∙ ap (λ b. Some (or_most (cond b (Some (digits_value 10 (decimal n))) None)))
    (and_both (list_all is_ascii_digit (decimal n)) (nat_lt 0 (length (decimal n)) && nat_lt (digits_value 10 (decimal n)) (2 ^ 64)) digits
    (and_both (nat_lt 0 (length (decimal n))) (nat_lt (digits_value 10 (decimal n)) (2 ^ 64)) some small))
    ∙ ap Some value

pub field_back : (n : ℕ) (fields : List (List ℕ)) → n < 2 ^ 64 → number_field (decimal n ∷ fields) ≡ Ok (n, fields)
field_back n fields fits = rw (number_back n fits) refl

pub last_back : (n : ℕ) → n < 2 ^ 64 → last_number (decimal n ∷ []) ≡ Ok n
last_back n fits = rw (number_back n fits) refl

-- ---- the first line

abbrev head_fields : Head → ℕ → List (List ℕ)
head_fields head tokens =
    codes "1" ∷ decimal head.node ∷ decimal head.members ∷ decimal head.boot ∷ decimal head.moment ∷ decimal tokens ∷ []

head_is : (head : Head) (tokens : ℕ) (rest : List ℕ)
    → head_text head tokens ++ rest ≡ join_with_byte 32 (codes "floors" ∷ head_fields head tokens) ++ 10 ∷ rest
unfolding head_text
head_is head tokens rest = simp append_assoc

record InRange (line : HeadLine) : Type 0 where
  node : line.head.node < 2 ^ 64
  members : line.head.members < 2 ^ 64
  boot : line.head.boot < 2 ^ 64
  moment : line.head.moment < 2 ^ 64
  tokens : line.tokens < 2 ^ 64

pub le_from_test : (a b : ℕ) → nat_le a b ≡ true → a ≤ b
le_from_test a b h = grind arith

pub lt_from_test : (a b : ℕ) → nat_lt a b ≡ true → a < b
lt_from_test a b h = grind arith

-- the ranges of a first line with at most `most` rows
pub record Ranges (most : ℕ) (line : HeadLine) : Type 0 where
  pub node : line.head.node ≤ 9
  pub members : line.head.members ≤ 9
  pub boot : line.head.boot < 2 ^ 62
  pub moment : line.head.moment < 2 ^ 40
  pub tokens : line.tokens ≤ most

pub ranges_of : (most : ℕ) (line : HeadLine) → is_head most line ≡ true → Ranges most line
ranges_of most line h =
    let one = and_parts (nat_le 1 line.head.node && nat_le line.head.node line.head.members && nat_le line.head.members 9
    && nat_lt line.head.boot (2 ^ 62) && nat_lt line.head.moment (2 ^ 40)) (nat_le line.tokens most) h in
    let two = and_parts (nat_le 1 line.head.node && nat_le line.head.node line.head.members && nat_le line.head.members 9
    && nat_lt line.head.boot (2 ^ 62)) (nat_lt line.head.moment (2 ^ 40)) one.0 in
    let three = and_parts (nat_le 1 line.head.node && nat_le line.head.node line.head.members && nat_le line.head.members 9)
    (nat_lt line.head.boot (2 ^ 62)) two.0 in
    let four = and_parts (nat_le 1 line.head.node && nat_le line.head.node line.head.members) (nat_le line.head.members 9) three.0 in
    let five = and_parts (nat_le 1 line.head.node) (nat_le line.head.node line.head.members) four.0 in
    let members = le_from_test line.head.members 9 four.1 in
    let node = le_from_test line.head.node line.head.members five.1 in
    record {
      node = omega (arith, node, members);
      members = members;
      boot = lt_from_test line.head.boot (2 ^ 62) three.1;
      moment = lt_from_test line.head.moment (2 ^ 40) two.1;
      tokens = le_from_test line.tokens most one.1;
    }

in_range : (line : HeadLine) → is_head 10000 line ≡ true → InRange line
in_range line h =
    let is = ranges_of 10000 line h in
    record {
      node = omega (arith, is.node);
      members = omega (arith, is.members);
      boot = omega (arith, is.boot);
      moment = omega (arith, is.moment);
      tokens = omega (arith, is.tokens);
    }

head_visible : (line : HeadLine) → InRange line → AllByRecursion IsVisible (codes "floors" ∷ head_fields line.head line.tokens)
head_visible line fits = (
  refl,
  (
    refl,
    (
      decimal_visible line.head.node fits.node,
      (
        decimal_visible line.head.members fits.members,
        (decimal_visible line.head.boot fits.boot, (decimal_visible line.head.moment fits.moment, (decimal_visible line.tokens fits.tokens, tt))),
      ),
    ),
  ),
)

numbers_back : (line : HeadLine) → is_head 10000 line ≡ true → InRange line
    → head_numbers (decimal line.head.node ∷ decimal line.head.members ∷ decimal line.head.boot ∷ decimal line.head.moment ∷ decimal line.tokens ∷ [])
    ≡ Ok line
numbers_back line is fits =
    rw (
      number_back line.head.node fits.node,
      number_back line.head.members fits.members,
      number_back line.head.boot fits.boot,
      number_back line.head.moment fits.moment,
      number_back line.tokens fits.tokens,
      is,
    ) refl

head_back : (line : HeadLine) → is_head 10000 line ≡ true → head_of (fields_of (join_with_byte 32 (codes "floors" ∷ head_fields line.head line.tokens))) ≡ Ok line
head_back line is =
    let fits = in_range line is in
    ap head_of (fields_joined (codes "floors") (head_fields line.head line.tokens) (head_visible line fits)) ∙ numbers_back line is fits

-- ---- the rows

pub word_visible : (w : List ℕ) → is_word w ≡ true → IsVisible w
word_visible w h = (and_parts (nat_le 1 (length w) && nat_le (length w) 64) (list_all is_visible w) h).1

row_is : (row : FloorRecord) (rest : List ℕ) → row_text row ++ rest ≡ join_with_byte 32 (row.user ∷ decimal row.next ∷ []) ++ 10 ∷ rest
unfolding row_text
row_is row rest = simp append_assoc

row_back : (before : List FloorRecord) (row : FloorRecord) → is_word row.user ≡ true → row.next ≤ 2 ^ 62 → has_user row.user before ≡ false
    → row_of before (row.user ∷ decimal row.next ∷ []) ≡ Ok row
row_back before row word fits new =
    rw (word, number_back row.next (omega (arith, fits)), lt_false (2 ^ 62) row.next fits, new) refl

next_back : (tokens : ℕ) (before : List FloorRecord) (row : FloorRecord) → length before < tokens → is_word row.user ≡ true → row.next ≤ 2 ^ 62
    → has_user row.user before ≡ false → next_row tokens before (join_with_byte 32 (row.user ∷ decimal row.next ∷ [])) ≡ Ok row
next_back tokens before row few word fits new =
    let fields = fields_joined row.user (decimal row.next ∷ []) (word_visible row.user word, (decimal_visible row.next (omega (arith, fits)), tt)) in
    rw (le_false tokens (length before) few) (ap (row_of before) fields ∙ row_back before row word fits new)

rows_back : (tokens : ℕ) (before rows : List FloorRecord) → AreRows before rows → length before + length rows ≡ tokens
    → rows_from tokens before (lines_of (flat_map row_text rows)) ≡ Ok (before ++ rows)
rows_back tokens before [] are e = rw (lt_false (length before) tokens (omega (arith, e))) (ap Ok (sym (append-nil before)))
rows_back tokens before (row ∷ rows) are e =
    let rest = flat_map row_text rows in
    let line = join_with_byte 32 (row.user ∷ decimal row.next ∷ []) in
    let lines : lines_of (row_text row ++ rest) ≡ line ∷ lines_of rest =
    ap lines_of (row_is row rest)
    ∙ line_joined row.user (decimal row.next ∷ []) rest (word_visible row.user are.0, (decimal_visible row.next (let fits = are.1 in omega (arith, fits)), tt)) in
    ap (rows_from tokens before) lines ∙ row_then tokens before line (lines_of rest) _ (length-slice_split is_line_end rest)
    ∙ rw (next_back tokens before row (omega (arith, e)) are.0 are.1 are.2)
    (rows_back tokens (before ++ row ∷ []) rows are.3 (omega (arith, e, length-append before (row ∷ [])))
    ∙ ap Ok (append_assoc before (row ∷ []) rows))

pub floors_back : (floors : FloorsRecord) → AreFloors floors → floors_of (floors_text floors) ≡ Ok floors
floors_back floors are =
    let tokens = length floors.rows in
    let line : HeadLine = record { head = floors.head; tokens = tokens } in
    let rest = flat_map row_text floors.rows in
    let first = join_with_byte 32 (codes "floors" ∷ head_fields floors.head tokens) in
    let lines : lines_of (floors_text floors) ≡ first ∷ lines_of rest =
    ap lines_of (head_is floors.head tokens rest)
    ∙ line_joined (codes "floors") (head_fields floors.head tokens) rest (head_visible line (in_range line are.head)) in
    floors_read (floors_text floors) first rest line floors.rows lines (sym (head_back line are.head)) (rows_back tokens [] floors.rows are.rows (omega arith))
