-- The codes are computed, and a fit at fault is refuted by a code, by an end of its window, or by a lower fit.
use Rattle.std.proofs.Common.{◌≤◌, lit<, lit≤, refl, arith}
use Rattle.hmac_core.specs.Unfolded.sha1_steps
use Rattle.hmac_core.specs.Unfolded.sha256_steps
use Rattle.admit_core.specs.Fit.{code_at}
use Rattle.admit_core.proofs.laws.fits_are_worked.Goals as goal

pub returns-clause-checks : goal.returns-clause-checks
unfolding code_at sha1_steps.first_words sha1_steps.schedule sha1_steps.rounds sha1_steps.compress sha1_steps.hash_after sha1_steps.digest_bytes sha1_steps.sha1
returns-clause-checks c = refl

pub returns-clause-resyncs : goal.returns-clause-resyncs
unfolding code_at sha1_steps.first_words sha1_steps.schedule sha1_steps.rounds sha1_steps.compress sha1_steps.hash_after sha1_steps.digest_bytes sha1_steps.sha1
returns-clause-resyncs c = refl

pub returns-clause-equal_codes : goal.returns-clause-equal_codes
unfolding code_at sha1_steps.first_words sha1_steps.schedule sha1_steps.rounds sha1_steps.compress sha1_steps.hash_after sha1_steps.digest_bytes sha1_steps.sha1
returns-clause-equal_codes c = refl

pub returns-clause-steps : goal.returns-clause-steps
unfolding code_at sha1_steps.first_words sha1_steps.schedule sha1_steps.rounds sha1_steps.compress sha1_steps.hash_after sha1_steps.digest_bytes sha1_steps.sha1
returns-clause-steps c = refl

pub returns-clause-drifts : goal.returns-clause-drifts
unfolding code_at sha1_steps.first_words sha1_steps.schedule sha1_steps.rounds sha1_steps.compress sha1_steps.hash_after sha1_steps.digest_bytes sha1_steps.sha1
returns-clause-drifts c = refl

pub returns-clause-other_codes : goal.returns-clause-other_codes
unfolding code_at sha1_steps.first_words sha1_steps.schedule sha1_steps.rounds sha1_steps.compress sha1_steps.hash_after sha1_steps.digest_bytes sha1_steps.sha1
returns-clause-other_codes c = refl

pub returns-clause-other_hashes : goal.returns-clause-other_hashes
unfolding code_at sha256_steps.first_words sha256_steps.schedule sha256_steps.rounds sha256_steps.compress sha256_steps.hash_after sha256_steps.digest_bytes sha256_steps.sha256
returns-clause-other_hashes c = refl

pub returns-clause-fits : goal.returns-clause-fits
unfolding code_at sha1_steps.first_words sha1_steps.schedule sha1_steps.rounds sha1_steps.compress sha1_steps.hash_after sha1_steps.digest_bytes sha1_steps.sha1
returns-clause-fits c = ((refl, refl), λ h. omega (arith, h.0))

pub returns-clause-fits_in_a_row : goal.returns-clause-fits_in_a_row
unfolding code_at sha1_steps.first_words sha1_steps.schedule sha1_steps.rounds sha1_steps.compress sha1_steps.hash_after sha1_steps.digest_bytes sha1_steps.sha1
returns-clause-fits_in_a_row c = ((refl, refl, refl), λ h. omega (arith, h.0))

pub returns-clause-not_least : goal.returns-clause-not_least
unfolding code_at sha1_steps.first_words sha1_steps.schedule sha1_steps.rounds sha1_steps.compress sha1_steps.hash_after sha1_steps.digest_bytes sha1_steps.sha1
returns-clause-not_least c = (
  λ h. let e : 1 ≤ 0 = h.least 0 0 (refl, refl) (record { free = lit≤ tt; near = lit≤ tt; factor = lit< tt }) (record { free = lit≤ tt; near = lit≤ tt; factor = lit< tt }) in omega (arith, e),
  λ h. let e : 1 ≤ 0 = h.least 0 0 (refl, refl) (lit≤ tt) (lit≤ tt) in omega (arith, e),
)

pub returns-clause-below : goal.returns-clause-below
returns-clause-below c = (
  λ h. let e : 1 ≤ 0 = h.first.free in omega (arith, e),
  λ h. let e : 1 ≤ 0 = h.from in omega (arith, e),
)

pub returns-clause-beyond : goal.returns-clause-beyond
returns-clause-beyond c = (
  λ h. let e : 4 ≤ 3 = h.last.near in omega (arith, e),
  λ h. let e : 8 ≤ 7 = h.last.near in omega (arith, e),
  λ h. let e : 8 ≤ 7 = h.to in omega (arith, e),
)

pub returns-clause-something_fits : goal.returns-clause-something_fits
unfolding code_at sha1_steps.first_words sha1_steps.schedule sha1_steps.rounds sha1_steps.compress sha1_steps.hash_after sha1_steps.digest_bytes sha1_steps.sha1
returns-clause-something_fits c = (
  λ h. h 3 3 (refl, refl) (record { free = lit≤ tt; near = lit≤ tt; factor = lit< tt }) (record { free = lit≤ tt; near = lit≤ tt; factor = lit< tt }),
  λ h. h 3 3 (refl, refl) (lit≤ tt) (lit≤ tt),
)
