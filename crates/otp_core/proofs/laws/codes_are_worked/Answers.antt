-- Each code is computed.
use Rattle.std.proofs.Common.{refl}
use Rattle.hmac_core.specs.Unfolded.sha1_steps
use Rattle.hmac_core.specs.Unfolded.sha256_steps
use Rattle.hmac_core.specs.Unfolded.sha512_steps
use Rattle.otp_core.proofs.laws.codes_are_worked.Goals as goal

pub returns-clause-truncation : goal.returns-clause-truncation
unfolding sha1_steps.first_words sha1_steps.schedule sha1_steps.rounds sha1_steps.compress sha1_steps.hash_after sha1_steps.digest_bytes sha1_steps.sha1
returns-clause-truncation c = refl

pub returns-clause-table : goal.returns-clause-table
unfolding sha1_steps.first_words sha1_steps.schedule sha1_steps.rounds sha1_steps.compress sha1_steps.hash_after sha1_steps.digest_bytes sha1_steps.sha1
returns-clause-table c = refl

pub returns-clause-seven_digits : goal.returns-clause-seven_digits
unfolding sha1_steps.first_words sha1_steps.schedule sha1_steps.rounds sha1_steps.compress sha1_steps.hash_after sha1_steps.digest_bytes sha1_steps.sha1
returns-clause-seven_digits c = refl

pub returns-clause-eight_digits : goal.returns-clause-eight_digits
unfolding sha1_steps.first_words sha1_steps.schedule sha1_steps.rounds sha1_steps.compress sha1_steps.hash_after sha1_steps.digest_bytes sha1_steps.sha1
returns-clause-eight_digits c = refl

pub returns-clause-sha1 : goal.returns-clause-sha1
unfolding sha1_steps.first_words sha1_steps.schedule sha1_steps.rounds sha1_steps.compress sha1_steps.hash_after sha1_steps.digest_bytes sha1_steps.sha1
returns-clause-sha1 c = refl

pub returns-clause-sha256 : goal.returns-clause-sha256
unfolding sha256_steps.first_words sha256_steps.schedule sha256_steps.rounds sha256_steps.compress sha256_steps.hash_after sha256_steps.digest_bytes sha256_steps.sha256
returns-clause-sha256 c = refl

pub returns-clause-sha512 : goal.returns-clause-sha512
unfolding sha512_steps.first_words sha512_steps.schedule sha512_steps.rounds sha512_steps.compress sha512_steps.hash_after sha512_steps.digest_bytes sha512_steps.sha512
returns-clause-sha512 c = refl

pub returns-clause-late : goal.returns-clause-late
unfolding sha1_steps.first_words sha1_steps.schedule sha1_steps.rounds sha1_steps.compress sha1_steps.hash_after sha1_steps.digest_bytes sha1_steps.sha1
returns-clause-late c = refl
