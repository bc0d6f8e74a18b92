-- The ends are computed.
use Rattle.std.proofs.Common.{◌≤◌, lit<, lit≤, arith}
use Rattle.otp_core.proofs.CodeLemmas.{IsCode-decimal_digits}
use Rattle.otp_core.proofs.laws.ranges_are_worked.Goals as goal

pub returns-clause-factors : goal.returns-clause-factors
returns-clause-factors c = (lit< tt, λ h. omega (arith, h))

pub returns-clause-nexts : goal.returns-clause-nexts
returns-clause-nexts c = (lit≤ tt, λ h. omega (arith, h))

pub returns-clause-moments : goal.returns-clause-moments
returns-clause-moments c = (lit< tt, λ h. omega (arith, h))

pub returns-clause-secrets : goal.returns-clause-secrets
returns-clause-secrets c = (
  λ h. let e : 1 ≤ 0 = h.0 in omega (arith, e),
  (lit≤ tt, lit≤ tt),
  (lit≤ tt, lit≤ tt),
  λ h. let e : 129 ≤ 128 = h.1 in omega (arith, e),
)

pub returns-clause-limits : goal.returns-clause-limits
returns-clause-limits c = (
  (lit≤ tt, lit≤ tt, lit≤ tt, lit≤ tt),
  λ h. let e : 101 ≤ 100 = h.0 in omega (arith, e),
  λ h. let e : 11 ≤ 10 = h.1 in omega (arith, e),
  λ h. let e : 1001 ≤ 1000 = h.2 in omega (arith, e),
  λ h. let e : 11 ≤ 10 = h.3 in omega (arith, e),
)

pub returns-clause-codes : goal.returns-clause-codes
returns-clause-codes c = (
  IsCode-decimal_digits 6 12345 (lit≤ tt) (lit≤ tt),
  IsCode-decimal_digits 8 23456789 (lit≤ tt) (lit≤ tt),
)

pub returns-clause-short_code : goal.returns-clause-short_code
returns-clause-short_code c h = let e : 6 ≤ 5 = h.0 in omega (arith, e)

pub returns-clause-long_code : goal.returns-clause-long_code
returns-clause-long_code c h = let e : 9 ≤ 8 = h.1 in omega (arith, e)

pub returns-clause-no_digits : goal.returns-clause-no_digits
returns-clause-no_digits c = (
  λ h. let e = h.2 5 0 (lit< tt) in let low : 48 ≤ 47 = e.0 in omega (arith, low),
  λ h. let e = h.2 0 0 (lit< tt) in let high : 58 ≤ 57 = e.1 in omega (arith, high),
)
