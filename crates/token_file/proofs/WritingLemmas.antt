-- A row that was written, read back.
use Rattle.std.proofs.Common.{◌≡◌, ℕ, suc, ◌+◌, ◌*◌, ◌/◌, ◌%◌, ◌^◌, ◌<◌, ◌≤◌, Bool, true, false, cond, List, [], ◌∷◌, ◌++◌, length, slice_index, Option, Some, None, Err, refl, sym, ap, ◌∙◌, arith, rules, true≢false, append_assoc, length-append}
use Rattle.std.specs.Prelude.{not, ◌&&◌, ◌||◌, nat_le, nat_lt, filter}
use Rattle.std.specs.List.{list_all, slice_split, onto_first, join_with_byte, AllByRecursion}
use Rattle.std.specs.Fmt.{decimal}
use Rattle.std.specs.Str.{bytes_eq}
use Rattle.std.specs.Str.Parse.{digits_value}
use Rattle.std.specs.Char.{is_ascii_digit}
use Rattle.std.proofs.lemmas.Bool.{and_parts}
use Rattle.std.proofs.lemmas.Fmt.{digits_decimal, digits_value-decimal, length-decimal-le, decimal_nonempty}
use Rattle.std.proofs.lemmas.List.Folds.{list_all-append}
use Rattle.std.proofs.lemmas.List.Splits.{slice_split-cons_yes, slice_split-cons_no}
use Rattle.std.proofs.lemmas.Str.Parse.{IsNumeralModel, numerals_by_value}
use Rattle.hex.specs.Hex.{IsBytes, encode_lower, encode_with, hex_digit_value, lower_digits}
use Rattle.hex.proofs.HexLemmas.{IsDigits-lower_digits, decode_of-encode_lower, length-encode_with}
use Rattle.hmac_core.specs.declared.hash.Hash.{Hash}
use Rattle.hmac_core.specs.declared.hash.Hash.TheVariants.{Sha1, Sha256, Sha512}
use Rattle.otp_core.specs.Range.{IsNext, IsSecret}
use Rattle.otp_core.specs.declared.digits.Digits.{Digits}
use Rattle.otp_core.specs.declared.digits.Digits.TheVariants.{Six, Seven, Eight}
use Rattle.secret_text.proofs.HexLemmas.{refusal-ok}
use Rattle.token_file.specs.declared.token.Kind.{Kind}
use Rattle.token_file.specs.declared.token.Kind.TheVariants.{Event, Time30, Time60}
use Rattle.token_file.specs.declared.token.Password.{Password}
use Rattle.token_file.specs.declared.token.Password.TheVariants.{NoneAllowed, NotChecked, Equal}
use Rattle.token_file.specs.declared.type_word.TokenType.{TokenType}
use Rattle.token_file.specs.Credential.{Credential, is_mark, is_password, is_hash_of}
use Rattle.field_text.specs.Word.{is_blank, is_visible, is_word}
use Rattle.token_file.specs.Fields.{has_bytes, fields_of, is_line_end, lines_of}
use Rattle.token_file.specs.Row.{Holds, counter_row, counter_of, credential_of, is_counter, kind_row, named_row, password_of, row_of, row_with, secret_of}
use Rattle.token_file.specs.TypeWord.{type_of}
use Rattle.token_file.specs.UsersFile.{Import, Instant, after_line, after_row, after_token}
use Rattle.token_file.specs.declared.fault.LineFault.TheVariants.{LineTooLong}
use Rattle.token_file.specs.Writing.{IsCredential, digits_word, hash_word, kind_word, type_word, password_column, factor_fields, written_fields, row_line, row_text, written_counter}
use Rattle.token_file.proofs.FieldLemmas.{IsField}

-- ---- parts of a text that a byte divides

split_more : (p : ℕ → Bool) (x : ℕ) (w rest : List ℕ) (b : ℕ) → not (p x) ≡ true → slice_split p (w ++ b ∷ rest) ≡ w ∷ slice_split p rest
    → slice_split p (x ∷ (w ++ b ∷ rest)) ≡ (x ∷ w) ∷ slice_split p rest
split_more p x w rest b h e = slice_split-cons_no p x (w ++ b ∷ rest) (grind arith) ∙ ap (onto_first x) e

pub split_at : (p : ℕ → Bool) (w : List ℕ) (b : ℕ) (rest : List ℕ) → list_all (λ x. not (p x)) w ≡ true → p b ≡ true
    → slice_split p (w ++ b ∷ rest) ≡ w ∷ slice_split p rest
split_at p [] b rest h is = slice_split-cons_yes p b rest is
split_at p (x ∷ w) b rest h is =
    let parts = and_parts (not (p x)) (list_all (λ x. not (p x)) w) h in
    split_more p x w rest b parts.0 (split_at p w b rest parts.1 is)

pub split_whole : (p : ℕ → Bool) (w : List ℕ) → list_all (λ x. not (p x)) w ≡ true → slice_split p w ≡ w ∷ []
split_whole p [] h = refl
split_whole p (x ∷ w) h =
    let parts = and_parts (not (p x)) (list_all (λ x. not (p x)) w) h in
    let no : p x ≡ false = let yes : not (p x) ≡ true = parts.0 in grind arith in
    slice_split-cons_no p x w no ∙ ap (onto_first x) (split_whole p w parts.1)

-- a part with bytes is a field
keep_field : (w : List ℕ) (parts : List (List ℕ)) → 1 ≤ length w → filter has_bytes (w ∷ parts) ≡ w ∷ filter has_bytes parts
keep_field [] parts h = absurd (omega (arith, h))
keep_field (x ∷ w) parts h = refl

-- the fields of words that TABs divide are the words
pub fields_of-joined : (words : List (List ℕ)) → AllByRecursion IsField words → fields_of (join_with_byte 9 words) ≡ words
fields_of-joined [] h = refl
fields_of-joined (w ∷ []) h = ap (filter has_bytes) (split_whole is_blank w h.0.visible) ∙ keep_field w [] h.0.some
fields_of-joined (w ∷ v ∷ words) h =
    ap (filter has_bytes) (split_at is_blank w 9 (join_with_byte 9 (v ∷ words)) h.0.visible refl)
    ∙ keep_field w (slice_split is_blank (join_with_byte 9 (v ∷ words))) h.0.some
    ∙ ap (λ (fields : List (List ℕ)). w ∷ fields) (fields_of-joined (v ∷ words) h.1)

-- ---- no LF in a line

abbrev pub is_inner : ℕ → Bool
is_inner byte = not (is_line_end byte)

inner_byte : (b : ℕ) → is_visible b ≡ true → is_inner b ≡ true
inner_byte b h = grind arith

and_both : (x y : Bool) → x ≡ true → y ≡ true → (x && y) ≡ true
and_both x y h k = rw (h, k) refl

inner_word : (w : List ℕ) → list_all is_visible w ≡ true → list_all is_inner w ≡ true
inner_word [] h = refl
inner_word (b ∷ w) h =
    let parts = and_parts (is_visible b) (list_all is_visible w) h in
    and_both (is_inner b) (list_all is_inner w) (inner_byte b parts.0) (inner_word w parts.1)

pub inner_joined : (words : List (List ℕ)) → AllByRecursion IsField words → list_all is_inner (join_with_byte 9 words) ≡ true
inner_joined [] h = refl
inner_joined (w ∷ []) h = inner_word w h.0.visible
inner_joined (w ∷ v ∷ words) h =
    list_all-append is_inner w (9 ∷ join_with_byte 9 (v ∷ words))
    ∙ and_both (list_all is_inner w) (list_all is_inner (join_with_byte 9 (v ∷ words))) (inner_word w h.0.visible) (inner_joined (v ∷ words) h.1)

-- ---- the type

pub type_of-type_word : (kind : Kind) (digits : Digits) (hash : Hash) → is_hash_of kind hash ≡ true
    → type_of (type_word kind digits hash) ≡ Some (record { kind = kind; digits = digits; hash = hash })
type_of-type_word Event Six Sha1 h = refl
type_of-type_word Event Seven Sha1 h = refl
type_of-type_word Event Eight Sha1 h = refl
type_of-type_word Event digits Sha256 h = absurd (true≢false (sym h))
type_of-type_word Event digits Sha512 h = absurd (true≢false (sym h))
type_of-type_word Time30 Six Sha1 h = refl
type_of-type_word Time30 Seven Sha1 h = refl
type_of-type_word Time30 Eight Sha1 h = refl
type_of-type_word Time30 Six Sha256 h = refl
type_of-type_word Time30 Seven Sha256 h = refl
type_of-type_word Time30 Eight Sha256 h = refl
type_of-type_word Time30 Six Sha512 h = refl
type_of-type_word Time30 Seven Sha512 h = refl
type_of-type_word Time30 Eight Sha512 h = refl
type_of-type_word Time60 Six Sha1 h = refl
type_of-type_word Time60 Seven Sha1 h = refl
type_of-type_word Time60 Eight Sha1 h = refl
type_of-type_word Time60 Six Sha256 h = refl
type_of-type_word Time60 Seven Sha256 h = refl
type_of-type_word Time60 Eight Sha256 h = refl
type_of-type_word Time60 Six Sha512 h = refl
type_of-type_word Time60 Seven Sha512 h = refl
type_of-type_word Time60 Eight Sha512 h = refl

-- ---- the fields

-- a part of a type of at most `len` bytes
record IsTypePart (len : ℕ) (part : List ℕ) : Type 0 where
  bound : length part ≤ len
  visible : list_all is_visible part ≡ true

kind_part : (kind : Kind) → IsTypePart 8 (kind_word kind)
kind_part Event = record { bound = omega arith; visible = refl }
kind_part Time30 = record { bound = omega arith; visible = refl }
kind_part Time60 = record { bound = omega arith; visible = refl }

kind_some : (kind : Kind) → 1 ≤ length (kind_word kind)
kind_some Event = omega arith
kind_some Time30 = omega arith
kind_some Time60 = omega arith

digits_part : (digits : Digits) → IsTypePart 2 (digits_word digits)
digits_part Six = record { bound = omega arith; visible = refl }
digits_part Seven = record { bound = omega arith; visible = refl }
digits_part Eight = record { bound = omega arith; visible = refl }

hash_part : (hash : Hash) → IsTypePart 7 (hash_word hash)
hash_part Sha1 = record { bound = omega arith; visible = refl }
hash_part Sha256 = record { bound = omega arith; visible = refl }
hash_part Sha512 = record { bound = omega arith; visible = refl }

part_after : (m n : ℕ) (front back : List ℕ) → IsTypePart m front → IsTypePart n back → IsTypePart (m + n) (front ++ back)
part_after m n front back f b = record {
  bound = omega (arith, length-append front back, f.bound, b.bound);
  visible = list_all-append is_visible front back ∙ and_both (list_all is_visible front) (list_all is_visible back) f.visible b.visible;
}

type_part : (kind : Kind) (digits : Digits) (hash : Hash) → IsTypePart 17 (type_word kind digits hash)
type_part kind digits hash =
    part_after 10 7 (kind_word kind ++ digits_word digits) (hash_word hash)
    (part_after 8 2 (kind_word kind) (digits_word digits) (kind_part kind) (digits_part digits)) (hash_part hash)

type_field : (kind : Kind) (digits : Digits) (hash : Hash) → IsField (type_word kind digits hash)
type_field kind digits hash = record {
  some = omega (arith, length-append (kind_word kind ++ digits_word digits) (hash_word hash), length-append (kind_word kind) (digits_word digits), kind_some kind);
  visible = (type_part kind digits hash).visible;
}

-- a word has 1 to 64 bytes, all visible
pub record IsShortField (word : List ℕ) : Type 0 where
  pub field : IsField word
  pub short : length word ≤ 64

le_from_test : (a b : ℕ) → nat_le a b ≡ true → a ≤ b
le_from_test a b h = grind arith

word_field : (w : List ℕ) → is_word w ≡ true → IsShortField w
word_field w h =
    let outer = and_parts (nat_le 1 (length w) && nat_le (length w) 64) (list_all is_visible w) h in
    let inner = and_parts (nat_le 1 (length w)) (nat_le (length w) 64) outer.0 in
    record {
      field = record { some = le_from_test 1 (length w) inner.0; visible = outer.1 };
      short = le_from_test (length w) 64 inner.1;
    }

column_field : (password : Password) → is_password password ≡ true → IsShortField (password_column password)
column_field NoneAllowed h = record { field = record { some = omega arith; visible = refl }; short = omega arith }
column_field NotChecked h = record { field = record { some = omega arith; visible = refl }; short = omega arith }
column_field (Equal text) h = word_field text.items (and_parts (is_word text.items) (not (is_mark text.items)) h).0

-- the column is read as the password
unmarked : (dash plus : Bool) (a b c : Password) → not (dash || plus) ≡ true → cond dash a (cond plus b c) ≡ c
unmarked true plus a b c h = absurd (true≢false (sym h))
unmarked false true a b c h = absurd (true≢false (sym h))
unmarked false false a b c h = refl

password_of-column : (password : Password) → is_password password ≡ true → password_of (password_column password) ≡ password
password_of-column NoneAllowed h = refl
password_of-column NotChecked h = refl
password_of-column (Equal text) h =
    unmarked (bytes_eq text.items (45 ∷ [])) (bytes_eq text.items (43 ∷ [])) NoneAllowed NotChecked (Equal text)
    (and_parts (is_word text.items) (not (is_mark text.items)) h).1

-- a digit is visible
hex_visible : (c d : ℕ) → hex_digit_value c ≡ Some d → is_visible c ≡ true
hex_visible c d h = grind arith

secret_visible : (bytes : List ℕ) → IsBytes bytes → list_all is_visible (encode_lower bytes) ≡ true
unfolding encode_with
secret_visible [] h = refl
secret_visible (b ∷ rest) h =
    let fits : b < 256 = h 0 in
    let high : b / 16 < 16 = omega arith in
    let low : b % 16 < 16 = omega arith in
    and_both (is_visible (slice_index lower_digits (b / 16))) (is_visible (slice_index lower_digits (b % 16)) && list_all is_visible (encode_lower rest))
    (hex_visible (slice_index lower_digits (b / 16)) (b / 16) (IsDigits-lower_digits (b / 16) high))
    (and_both (is_visible (slice_index lower_digits (b % 16))) (list_all is_visible (encode_lower rest))
    (hex_visible (slice_index lower_digits (b % 16)) (b % 16) (IsDigits-lower_digits (b % 16) low))
    (secret_visible rest (λ k. h (suc k))))

-- the text of a secret is read as the secret
secret_of-encode : (bytes : List ℕ) → IsSecret bytes → IsBytes bytes → secret_of (encode_lower bytes) ≡ Some bytes
secret_of-encode bytes fits are =
    let len : length (encode_lower bytes) ≡ 2 * length bytes = length-encode_with lower_digits bytes in
    let back = decode_of-encode_lower bytes are in
    let few = fits.0 in
    let many = fits.1 in
    let taken = refusal-ok (encode_lower bytes) bytes (omega (arith, len, few)) (omega (arith, len)) (omega (arith, len, many)) back in
    rw (taken, back) refl

-- ---- the counter

own_digits : IsNumeralModel (λ ds. list_all is_ascii_digit ds ≡ true) (digits_value 10)
own_digits = numerals_by_value (λ ds. list_all is_ascii_digit ds ≡ true) (search rules)

digit_visible : (b : ℕ) → is_ascii_digit b ≡ true → is_visible b ≡ true
digit_visible b h = grind arith

digits_visible : (w : List ℕ) → list_all is_ascii_digit w ≡ true → list_all is_visible w ≡ true
digits_visible [] h = refl
digits_visible (b ∷ w) h =
    let parts = and_parts (is_ascii_digit b) (list_all is_ascii_digit w) h in
    and_both (is_visible b) (list_all is_visible w) (digit_visible b parts.0) (digits_visible w parts.1)

next_fits : (n : ℕ) → IsNext n → n < 2 ^ 64
next_fits n h = omega (arith, h)

counter_field : (next : ℕ) → IsNext next → IsField (decimal next)
counter_field next h = record {
  some = decimal_nonempty next (next_fits next h);
  visible = digits_visible (decimal next) (digits_decimal own_digits next (next_fits next h));
}

lt_test : (a b : ℕ) → b ≤ a → nat_lt a b ≡ false
lt_test a b h = grind arith

le_test : (a b : ℕ) → a ≤ b → nat_le a b ≡ true
le_test a b h = grind arith

counter_of-decimal : (next : ℕ) → IsNext next → counter_of (decimal next) ≡ Some next
counter_of-decimal next h =
    let fits = next_fits next h in
    let value : digits_value 10 (decimal next) ≡ next = digits_value-decimal own_digits next fits in
    let is : is_counter (decimal next) ≡ true =
    and_both (nat_le 1 (length (decimal next)) && nat_le (length (decimal next)) 19 && list_all is_ascii_digit (decimal next)) (nat_le (digits_value 10 (decimal next)) (2 ^ 62))
    (and_both (nat_le 1 (length (decimal next)) && nat_le (length (decimal next)) 19) (list_all is_ascii_digit (decimal next))
    (and_both (nat_le 1 (length (decimal next))) (nat_le (length (decimal next)) 19)
    (le_test 1 (length (decimal next)) (decimal_nonempty next fits))
    (le_test (length (decimal next)) 19 (length-decimal-le 19 next (omega arith) (omega (arith, h)) fits)))
    (digits_decimal own_digits next fits))
    (rw value (le_test next (2 ^ 62) h)) in
    rw is (ap Some value)

-- ---- the row

-- what the parts of a token have
record Parts (c : Credential) : Type 0 where
  name : IsShortField c.name
  column : IsShortField (password_column c.password)
  password : password_of (password_column c.password) ≡ c.password
  hash : is_hash_of c.kind c.hash ≡ true

parts_of : (c : Credential) → IsCredential c → Parts c
parts_of c h =
    let outer = and_parts (is_word c.name && is_password c.password) (is_hash_of c.kind c.hash) h.parts in
    let inner = and_parts (is_word c.name) (is_password c.password) outer.0 in
    record {
      name = word_field c.name inner.0;
      column = column_field c.password inner.1;
      password = password_of-column c.password inner.1;
      hash = outer.1;
    }

secret_field : (bytes : List ℕ) → IsSecret bytes → IsBytes bytes → IsField (encode_lower bytes)
secret_field bytes fits are = record {
  some = omega (arith, length-encode_with lower_digits bytes, fits.0);
  visible = secret_visible bytes are;
}

factors_are : (kind : Kind) (next : ℕ) → IsNext next → AllByRecursion IsField (factor_fields kind next)
factors_are Event next h = (counter_field next h, tt)
factors_are Time30 next h = tt
factors_are Time60 next h = tt

pub fields_are : (c : Credential) (next : ℕ) → IsCredential c → IsNext next → AllByRecursion IsField (written_fields c next)
fields_are c next h fits =
    let parts = parts_of c h in
    (type_field c.kind c.digits c.hash, (parts.name.field, (parts.column.field, (secret_field c.secret h.secret h.bytes, factors_are c.kind next fits))))

read_named : (type : TokenType) (name column text secret : List ℕ) (rest : List (List ℕ)) → length name ≤ 64 → length column ≤ 64 → secret_of text ≡ Some secret
    → named_row type name column text rest ≡ kind_row type.kind (credential_of type name column secret) rest
read_named type name column text secret rest short narrow e =
    let name_fits : nat_lt 64 (length name) ≡ false = lt_test 64 (length name) short in
    let column_fits : nat_lt 64 (length column) ≡ false = lt_test 64 (length column) narrow in
    rw (name_fits, column_fits, e) refl

read_factors : (kind : Kind) (c : Credential) (next : ℕ) → IsNext next → kind_row kind c (factor_fields kind next) ≡ Holds c (written_counter kind next) None
read_factors Event c next h = ap (λ (counter : Option ℕ). counter_row c counter None) (counter_of-decimal next h)
read_factors Time30 c next h = refl
read_factors Time60 c next h = refl

read_fields : (c : Credential) (next : ℕ) → IsCredential c → IsNext next → row_of (written_fields c next) ≡ Holds c (written_counter c.kind next) None
read_fields c next h fits =
    let parts = parts_of c h in
    let type : TokenType = record { kind = c.kind; digits = c.digits; hash = c.hash } in
    let rest = factor_fields c.kind next in
    let column = password_column c.password in
    ap (λ (found : Option TokenType). row_with found (c.name ∷ column ∷ encode_lower c.secret ∷ rest)) (type_of-type_word c.kind c.digits c.hash parts.hash)
    ∙ read_named type c.name column (encode_lower c.secret) c.secret rest parts.name.short parts.column.short (secret_of-encode c.secret h.secret h.bytes)
    ∙ ap (λ (password : Password). kind_row c.kind (record { name = c.name; password = password; secret = c.secret; kind = c.kind; digits = c.digits; hash = c.hash }) rest) parts.password
    ∙ read_factors c.kind c next fits

pub row_is_read : (c : Credential) (next : ℕ) → IsCredential c → IsNext next → row_of (fields_of (row_line c next)) ≡ Holds c (written_counter c.kind next) None
row_is_read c next h fits = ap row_of (fields_of-joined (written_fields c next) (fields_are c next h fits)) ∙ read_fields c next h fits

-- ---- the line

pub row_is_line : (c : Credential) (next : ℕ) (rest : List ℕ) → IsCredential c → IsNext next → lines_of (row_text c next ++ rest) ≡ row_line c next ∷ lines_of rest
row_is_line c next rest h fits =
    ap lines_of (append_assoc (row_line c next) (10 ∷ []) rest)
    ∙ split_at is_line_end (row_line c next) 10 rest (inner_joined (written_fields c next) (fields_are c next h fits)) refl

secret_len : (bytes : List ℕ) → IsSecret bytes → length (encode_lower bytes) ≤ 256
secret_len bytes h = omega (arith, length-encode_with lower_digits bytes, h.1)

-- a secret and what follows it
end_len : (kind : Kind) (text : List ℕ) (next : ℕ) → IsNext next → length text ≤ 256 → length (join_with_byte 9 (text ∷ factor_fields kind next)) ≤ 276
end_len Event text next h fits = omega (arith, length-append text (9 ∷ decimal next), length-decimal-le 19 next (omega arith) (omega (arith, h)) (next_fits next h), fits)
end_len Time30 text next h fits = omega (arith, fits)
end_len Time60 text next h fits = omega (arith, fits)

-- a word and what follows it
word_len : (m n : ℕ) (word rest : List ℕ) → length word ≤ m → length rest ≤ n → length (word ++ 9 ∷ rest) ≤ m + 1 + n
word_len m n word rest h k = omega (arith, length-append word (9 ∷ rest), h, k)

-- a line has at most 424 bytes
line_len : (c : Credential) (next : ℕ) → IsCredential c → IsNext next → length (row_line c next) ≤ 424
line_len c next h fits =
    let parts = parts_of c h in
    let column = password_column c.password in
    let end = join_with_byte 9 (encode_lower c.secret ∷ factor_fields c.kind next) in
    word_len 17 406 (type_word c.kind c.digits c.hash) (c.name ++ 9 ∷ (column ++ 9 ∷ end)) (type_part c.kind c.digits c.hash).bound
    (word_len 64 341 c.name (column ++ 9 ∷ end) parts.name.short
    (word_len 64 276 column end parts.column.short
    (end_len c.kind (encode_lower c.secret) next fits (secret_len c.secret h.secret))))

pub row_is_short : (c : Credential) (next : ℕ) → IsCredential c → IsNext next → length (row_text c next) ≤ 425
row_is_short c next h fits = let len = line_len c next h fits in omega (arith, length-append (row_line c next) (10 ∷ []), len)

pub row_is_imported : (at : Instant) (so_far : Import) (c : Credential) (next : ℕ) → IsCredential c → IsNext next
    → after_line at so_far (row_line c next) ≡ after_token at so_far c (written_counter c.kind next) None
row_is_imported at so_far c next h fits =
    let short : nat_lt 4096 (length (row_line c next)) ≡ false = lt_test 4096 (length (row_line c next)) (let len = line_len c next h fits in omega (arith, len)) in
    ap (λ (long : Bool). cond long (Err LineTooLong) (after_row at so_far (row_of (fields_of (row_line c next))))) short
    ∙ ap (after_row at so_far) (row_is_read c next h fits)
