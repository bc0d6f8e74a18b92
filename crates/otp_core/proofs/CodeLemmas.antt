-- Facts on the decimal digits of a number.
use Rattle.std.proofs.Common.{ℕ, ◌^◌, ◌<◌, ◌≤◌, lit≤, lit<, arith}
use Rattle.std.proofs.Math.Nat.{pow-le-pow_right}
use Rattle.std.specs.Char.{IsAsciiDigit}
use Rattle.std.proofs.lemmas.List.FromFn.{get_or-map-range_with_len, length-map-range_with_len}
use Rattle.otp_core.specs.Code.{IsCode, decimal_digits, digit_at}
use Rattle.otp_core.specs.Digits.{count_of}
use Rattle.otp_core.specs.declared.digits.Digits.{Digits}
use Rattle.otp_core.specs.declared.digits.Digits.TheVariants.{Six, Seven, Eight}

-- a code has 6 to 8 digits
pub count_of-bound : (digits : Digits) → (6 ≤ count_of digits) × (count_of digits ≤ 8)
count_of-bound Six = (lit≤ tt, lit≤ tt)
count_of-bound Seven = (lit≤ tt, lit≤ tt)
count_of-bound Eight = (lit≤ tt, lit≤ tt)

-- a power of ten is a divisor
pub ten_pow-positive : (n : ℕ) → 0 < 10 ^ n
ten_pow-positive n = let low = pow-le-pow_right {n = 10} (lit< tt) {i = 0} {j = n} (omega arith) in omega arith

-- each place has an ASCII digit
pub IsAsciiDigit-digit_at : (count number place : ℕ) → IsAsciiDigit (digit_at count number place)
IsAsciiDigit-digit_at count number place = (omega arith, omega arith)

-- the digits of a number make a code
pub IsCode-decimal_digits : (count number : ℕ) → 6 ≤ count → count ≤ 8 → IsCode (decimal_digits count number)
IsCode-decimal_digits count number low high =
    let len = length-map-range_with_len (digit_at count number) 0 count in (
      omega arith,
      omega arith,
      λ k d within.
          let at : k < count = omega arith in
          let e = get_or-map-range_with_len (digit_at count number) 0 count k k d at (omega arith) in
          let is_digit : IsAsciiDigit (digit_at count number k) = IsAsciiDigit-digit_at count number k in
          (rw e (is_digit.0), rw e (is_digit.1)),
    )
