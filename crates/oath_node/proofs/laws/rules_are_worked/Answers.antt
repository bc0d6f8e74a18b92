-- Each case is computed, the codes with it.
use Rattle.std.proofs.Common.{refl}
use Rattle.admit_core.specs.Fit.{code_at}
use Rattle.hmac_core.specs.Unfolded.sha1_steps
use Rattle.oath_node.proofs.laws.rules_are_worked.Goals as goal

pub returns-clause-bad_line : goal.returns-clause-bad_line
unfolding code_at sha1_steps.first_words sha1_steps.schedule sha1_steps.rounds sha1_steps.compress sha1_steps.hash_after sha1_steps.digest_bytes sha1_steps.sha1
returns-clause-bad_line c = refl

pub returns-clause-clock : goal.returns-clause-clock
unfolding code_at sha1_steps.first_words sha1_steps.schedule sha1_steps.rounds sha1_steps.compress sha1_steps.hash_after sha1_steps.digest_bytes sha1_steps.sha1
returns-clause-clock c = refl

pub returns-clause-last_moment : goal.returns-clause-last_moment
unfolding code_at sha1_steps.first_words sha1_steps.schedule sha1_steps.rounds sha1_steps.compress sha1_steps.hash_after sha1_steps.digest_bytes sha1_steps.sha1
returns-clause-last_moment c = refl

pub returns-clause-unknown : goal.returns-clause-unknown
unfolding code_at sha1_steps.first_words sha1_steps.schedule sha1_steps.rounds sha1_steps.compress sha1_steps.hash_after sha1_steps.digest_bytes sha1_steps.sha1
returns-clause-unknown c = refl

pub returns-clause-throttled : goal.returns-clause-throttled
unfolding code_at sha1_steps.first_words sha1_steps.schedule sha1_steps.rounds sha1_steps.compress sha1_steps.hash_after sha1_steps.digest_bytes sha1_steps.sha1
returns-clause-throttled c = refl

pub returns-clause-password : goal.returns-clause-password
unfolding code_at sha1_steps.first_words sha1_steps.schedule sha1_steps.rounds sha1_steps.compress sha1_steps.hash_after sha1_steps.digest_bytes sha1_steps.sha1
returns-clause-password c = refl

pub returns-clause-no_password : goal.returns-clause-no_password
unfolding code_at sha1_steps.first_words sha1_steps.schedule sha1_steps.rounds sha1_steps.compress sha1_steps.hash_after sha1_steps.digest_bytes sha1_steps.sha1
returns-clause-no_password c = refl

pub returns-clause-exhausted : goal.returns-clause-exhausted
unfolding code_at sha1_steps.first_words sha1_steps.schedule sha1_steps.rounds sha1_steps.compress sha1_steps.hash_after sha1_steps.digest_bytes sha1_steps.sha1
returns-clause-exhausted c = refl

pub returns-clause-last_factor : goal.returns-clause-last_factor
unfolding code_at sha1_steps.first_words sha1_steps.schedule sha1_steps.rounds sha1_steps.compress sha1_steps.hash_after sha1_steps.digest_bytes sha1_steps.sha1
returns-clause-last_factor c = refl

pub returns-clause-not_checked : goal.returns-clause-not_checked
unfolding code_at sha1_steps.first_words sha1_steps.schedule sha1_steps.rounds sha1_steps.compress sha1_steps.hash_after sha1_steps.digest_bytes sha1_steps.sha1
returns-clause-not_checked c = refl

pub returns-clause-first : goal.returns-clause-first
unfolding code_at sha1_steps.first_words sha1_steps.schedule sha1_steps.rounds sha1_steps.compress sha1_steps.hash_after sha1_steps.digest_bytes sha1_steps.sha1
returns-clause-first c = refl

pub returns-clause-furthest : goal.returns-clause-furthest
unfolding code_at sha1_steps.first_words sha1_steps.schedule sha1_steps.rounds sha1_steps.compress sha1_steps.hash_after sha1_steps.digest_bytes sha1_steps.sha1
returns-clause-furthest c = refl

pub returns-clause-too_far : goal.returns-clause-too_far
unfolding code_at sha1_steps.first_words sha1_steps.schedule sha1_steps.rounds sha1_steps.compress sha1_steps.hash_after sha1_steps.digest_bytes sha1_steps.sha1
returns-clause-too_far c = refl

pub returns-clause-gold : goal.returns-clause-gold
unfolding code_at sha1_steps.first_words sha1_steps.schedule sha1_steps.rounds sha1_steps.compress sha1_steps.hash_after sha1_steps.digest_bytes sha1_steps.sha1
returns-clause-gold c = refl

pub returns-clause-used_up : goal.returns-clause-used_up
unfolding code_at sha1_steps.first_words sha1_steps.schedule sha1_steps.rounds sha1_steps.compress sha1_steps.hash_after sha1_steps.digest_bytes sha1_steps.sha1
returns-clause-used_up c = refl

pub returns-clause-two_codes : goal.returns-clause-two_codes
unfolding code_at sha1_steps.first_words sha1_steps.schedule sha1_steps.rounds sha1_steps.compress sha1_steps.hash_after sha1_steps.digest_bytes sha1_steps.sha1
returns-clause-two_codes c = refl

pub returns-clause-two_too_far : goal.returns-clause-two_too_far
unfolding code_at sha1_steps.first_words sha1_steps.schedule sha1_steps.rounds sha1_steps.compress sha1_steps.hash_after sha1_steps.digest_bytes sha1_steps.sha1
returns-clause-two_too_far c = refl
