-- Each case is computed.
use Rattle.std.proofs.Common.{refl}
use Rattle.hmac_core.specs.Unfolded.sha256_steps
use Rattle.sealed_wire.specs.Body.{head_at}
use Rattle.sealed_wire.specs.Key.{tag_of}
use Rattle.sealed_wire.specs.Sealed.{sealed_at, sealed_bytes}
use Rattle.sealed_port.proofs.request_worked.asides_are_worked.Goals as goal

pub returns-clause-handed : goal.returns-clause-handed
unfolding tag_of sealed_bytes sealed_at head_at sha256_steps.first_words sha256_steps.schedule sha256_steps.rounds sha256_steps.compress sha256_steps.hash_after sha256_steps.digest_bytes sha256_steps.sha256
returns-clause-handed c = refl

pub returns-clause-passed_over : goal.returns-clause-passed_over
unfolding tag_of sealed_bytes sealed_at head_at sha256_steps.first_words sha256_steps.schedule sha256_steps.rounds sha256_steps.compress sha256_steps.hash_after sha256_steps.digest_bytes sha256_steps.sha256
returns-clause-passed_over c = refl

pub returns-clause-after : goal.returns-clause-after
unfolding tag_of sealed_bytes sealed_at head_at sha256_steps.first_words sha256_steps.schedule sha256_steps.rounds sha256_steps.compress sha256_steps.hash_after sha256_steps.digest_bytes sha256_steps.sha256
returns-clause-after c = refl

pub returns-clause-behind : goal.returns-clause-behind
unfolding tag_of sealed_bytes sealed_at head_at sha256_steps.first_words sha256_steps.schedule sha256_steps.rounds sha256_steps.compress sha256_steps.hash_after sha256_steps.digest_bytes sha256_steps.sha256
returns-clause-behind c = refl

pub returns-clause-after_late : goal.returns-clause-after_late
unfolding tag_of sealed_bytes sealed_at head_at sha256_steps.first_words sha256_steps.schedule sha256_steps.rounds sha256_steps.compress sha256_steps.hash_after sha256_steps.digest_bytes sha256_steps.sha256
returns-clause-after_late c = refl

pub returns-clause-counts : goal.returns-clause-counts
unfolding tag_of sealed_bytes sealed_at head_at sha256_steps.first_words sha256_steps.schedule sha256_steps.rounds sha256_steps.compress sha256_steps.hash_after sha256_steps.digest_bytes sha256_steps.sha256
returns-clause-counts c = refl

pub returns-clause-report : goal.returns-clause-report
unfolding tag_of sealed_bytes sealed_at head_at sha256_steps.first_words sha256_steps.schedule sha256_steps.rounds sha256_steps.compress sha256_steps.hash_after sha256_steps.digest_bytes sha256_steps.sha256
returns-clause-report c = refl
