-- Decimal numbers.
use Rattle.std.proofs.Common.{◌≡◌, ℕ, ◌^◌, Bool, true, false, nat_lt, cond, rules, List, length, Some, None, refl, sym, ap}
use Rattle.std.specs.Prelude.{◌&&◌, Result, Ok, Err}
use Rattle.std.specs.Bool.{Decides}
use Rattle.std.specs.Char.{is_ascii_digit}
use Rattle.std.specs.List.{list_all}
use Rattle.std.specs.Result.{OkIff, result_ok}
use Rattle.std.specs.Str.{IsUtf8}
use Rattle.std.specs.Str.Parse.{ParsesUnsigned, digits_value}
use Rattle.std.proofs.lemmas.Bool.Decides.{Decides-and, Decides-ltb}
use Rattle.std.proofs.lemmas.Fmt.{IsAscii-from_digits}
use Rattle.std.proofs.lemmas.Str.{IsUtf8-from_ascii}
use Rattle.std.proofs.lemmas.Str.Parse.{IsNumeralModel, numerals_by_value, parse_digits}
use Rattle.field_text.specs.Number.{number_of}

abbrev AreDigits : List ℕ → Type 0
AreDigits text = list_all is_ascii_digit text ≡ true

numerals : IsNumeralModel AreDigits (digits_value 10)
numerals = numerals_by_value AreDigits (search rules)

-- anything but digits
pub no_digits : (text : List ℕ) → list_all is_ascii_digit text ≡ false → None ≡ number_of text
no_digits text e = ap (λ (b : Bool). cond (b && (nat_lt 0 (length text) && nat_lt (digits_value 10 text) (2 ^ 64))) (Some (digits_value 10 text)) None) (sym e)

-- digits are text
pub digits_are_text : (text : List ℕ) → list_all is_ascii_digit text ≡ true → IsUtf8 text
digits_are_text text e = IsUtf8-from_ascii text (IsAscii-from_digits text (numerals.to text e))

by_tests : {E : Type 0} (r : Result ℕ E) (digits tests : Bool) (P : Type 0) (value : ℕ) → digits ≡ true → Decides tests P → OkIff r P value
    → result_ok r ≡ cond (digits && tests) (Some value) None
by_tests (Ok n) digits tests P value e d h = rw (e, d.1 h.0) (ap (λ (k : ℕ). Some k) h.1)
by_tests (Err fault) digits true P value e d h = absurd (h (d.0 refl))
by_tests (Err fault) digits false P value e d h = rw e refl

-- what std reads of digits
pub number_parsed : {E : Type 0} (text : List ℕ) (r : Result ℕ E) → list_all is_ascii_digit text ≡ true → ParsesUnsigned 64 10 text r → result_ok r ≡ number_of text
number_parsed text r e h =
    by_tests r _ _ _ _ e (Decides-and _ _ (Decides-ltb 0 (length text)) (Decides-ltb (digits_value 10 text) (2 ^ 64))) (parse_digits numerals 64 text r h e)
