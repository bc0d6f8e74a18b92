-- The number of a line has one spelling.
use Rattle.std.proofs.Common.{◌≡◌, ℕ, ◌^◌, ◌<◌, Bool, true, false, cond, List, [], ◌∷◌, length, get_or, Option, Some, None, refl, sym, ap, ◌∙◌, arith, rules, ne_eqb}
use Rattle.std.specs.Prelude.{◌≢◌, ◌&&◌, nat_lt, zero, suc}
use Rattle.std.specs.Char.{is_ascii_digit}
use Rattle.std.specs.Fmt.{decimal, digits}
use Rattle.std.specs.List.{list_all}
use Rattle.std.specs.Str.Parse.{digits_value}
use Rattle.std.proofs.lemmas.Bool.{and_parts, eq-eqb, lt-ltb, ltb-true, true≢false}
use Rattle.std.proofs.lemmas.Fmt.{decimal-digits_value, decimal_nonempty, digits_decimal, digits_value-decimal, first_decimal}
use Rattle.std.proofs.lemmas.Str.Parse.{IsNumeralModel, numerals_by_value}
use Rattle.field_text.specs.Number.{number_of}
use Rattle.operator_text.specs.Number.{has_leading_zero, line_number, small}

digits_model : IsNumeralModel (λ ds. list_all is_ascii_digit ds ≡ true) (digits_value 10)
digits_model = numerals_by_value (λ ds. list_all is_ascii_digit ds ≡ true) (search rules)

some_is : (x y : ℕ) → (let some : ℕ → Option ℕ = λ n. Some n in some x ≡ some y) → x ≡ y
some_is x y e = cc

chosen : (test : Bool) (value n : ℕ) → cond test (Some value) None ≡ Some n → (test ≡ true) × (value ≡ n)
chosen true value n e = (refl, some_is value n e)
chosen false value n e = absurd cc

refused : (test : Bool) (o : Option ℕ) (n : ℕ) → cond test None o ≡ Some n → (test ≡ false) × (o ≡ Some n)
refused false o n e = (refl, e)
refused true o n e = absurd cc

small_is : (o : Option ℕ) (n : ℕ) → small o ≡ Some n → (o ≡ Some n) × (n < 2 ^ 32)
small_is None n e = absurd cc
small_is (Some m) n e =
    let is = chosen (nat_lt m (2 ^ 32)) m n e in
    let low : m < 2 ^ 32 = ltb-true m (2 ^ 32) is.0 in
    (ap (λ (k : ℕ). Some k) is.1, omega (arith, is.1))

lead_is : (text : List ℕ) → 0 < length text → has_leading_zero text ≡ false → get_or text 0 0 ≡ 48 → length text ≡ 1
lead_is [] some plain is = absurd (omega arith)
lead_is (digit ∷ []) some plain is = refl
lead_is (digit ∷ next ∷ digits) some plain is = absurd (true≢false (sym (eq-eqb digit 48 is) ∙ plain))

-- a number that is read is spelled as it is written
pub number_is : (text : List ℕ) (n : ℕ) → line_number text ≡ Some n → (n < 2 ^ 32) × (text ≡ decimal n)
number_is text n e =
    let lead = refused (has_leading_zero text) (small (number_of text)) n e in
    let low = small_is (number_of text) n lead.1 in
    let value = chosen (list_all is_ascii_digit text && (nat_lt 0 (length text) && nat_lt (digits_value 10 text) (2 ^ 64))) (digits_value 10 text) n low.0 in
    let tests = and_parts (list_all is_ascii_digit text) (nat_lt 0 (length text) && nat_lt (digits_value 10 text) (2 ^ 64)) value.0 in
    let sizes = and_parts (nat_lt 0 (length text)) (nat_lt (digits_value 10 text) (2 ^ 64)) tests.1 in
    let some : 0 < length text = ltb-true 0 (length text) sizes.0 in
    let fits : digits_value 10 text < 2 ^ 64 = ltb-true (digits_value 10 text) (2 ^ 64) sizes.1 in
    (low.1, sym (decimal-digits_value digits_model text tests.0 some (lead_is text some lead.0) fits) ∙ ap decimal value.1)

not_zero : (text : List ℕ) → get_or text 0 0 ≢ 48 → has_leading_zero text ≡ false
not_zero [] h = refl
not_zero (digit ∷ []) h = refl
not_zero (digit ∷ next ∷ digits) h = ne_eqb digit 48 h

no_lead : (n : ℕ) → n < 2 ^ 64 → has_leading_zero (decimal n) ≡ false
unfolding digits
no_lead zero fits = refl
no_lead (suc n) fits = not_zero (decimal (suc n)) (λ e. omega (arith, e, first_decimal (suc n) (omega arith) fits))

-- a number that is written is read
pub number_back : (n : ℕ) → n < 2 ^ 32 → line_number (decimal n) ≡ Some n
number_back n low =
    let fits : n < 2 ^ 64 = omega arith in
    let value : digits_value 10 (decimal n) ≡ n = digits_value-decimal digits_model n fits in
    let all_digits : list_all is_ascii_digit (decimal n) ≡ true = digits_decimal digits_model n fits in
    let some : nat_lt 0 (length (decimal n)) ≡ true = lt-ltb 0 (length (decimal n)) (decimal_nonempty n fits) in
    let in_range : nat_lt n (2 ^ 64) ≡ true = lt-ltb n (2 ^ 64) fits in
    let is_small : nat_lt n (2 ^ 32) ≡ true = lt-ltb n (2 ^ 32) low in
    rw (no_lead n fits, all_digits, some, value, in_range, is_small) refl
