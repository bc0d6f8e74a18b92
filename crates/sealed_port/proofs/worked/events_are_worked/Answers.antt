-- Each case is computed.
use Rattle.std.proofs.Common.{refl}
use Rattle.hmac_core.specs.Unfolded.sha256_steps
use Rattle.sealed_wire.specs.Body.{head_at}
use Rattle.sealed_wire.specs.Key.{tag_of}
use Rattle.sealed_wire.specs.Sealed.{sealed_at, sealed_bytes}
use Rattle.sealed_port.proofs.worked.events_are_worked.Goals as goal

pub returns-clause-line : goal.returns-clause-line
unfolding tag_of sealed_bytes sealed_at head_at sha256_steps.first_words sha256_steps.schedule sha256_steps.rounds sha256_steps.compress sha256_steps.hash_after sha256_steps.digest_bytes sha256_steps.sha256
returns-clause-line c = refl

pub returns-clause-passed_over : goal.returns-clause-passed_over
unfolding head_at
returns-clause-passed_over c = refl

pub returns-clause-after_a_line : goal.returns-clause-after_a_line
unfolding tag_of sealed_bytes sealed_at head_at sha256_steps.first_words sha256_steps.schedule sha256_steps.rounds sha256_steps.compress sha256_steps.hash_after sha256_steps.digest_bytes sha256_steps.sha256
returns-clause-after_a_line c = refl

pub returns-clause-after_others : goal.returns-clause-after_others
unfolding head_at
returns-clause-after_others c = refl

pub returns-clause-answer : goal.returns-clause-answer
unfolding tag_of sealed_bytes sealed_at head_at sha256_steps.first_words sha256_steps.schedule sha256_steps.rounds sha256_steps.compress sha256_steps.hash_after sha256_steps.digest_bytes sha256_steps.sha256
returns-clause-answer c = refl
