-- Each case is computed.
use Rattle.std.proofs.Common.{refl}
use Rattle.hmac_core.specs.Unfolded.sha256_steps
use Rattle.sealed_wire.specs.Body.{head_at}
use Rattle.sealed_wire.specs.Key.{tag_of}
use Rattle.sealed_wire.specs.Sealed.{sealed_at, sealed_bytes}
use Rattle.sealed_port.proofs.drain_worked.runs_that_drain_are_worked.Goals as goal

pub returns-clause-opened : goal.returns-clause-opened
unfolding tag_of sealed_bytes sealed_at head_at sha256_steps.first_words sha256_steps.schedule sha256_steps.rounds sha256_steps.compress sha256_steps.hash_after sha256_steps.digest_bytes sha256_steps.sha256
returns-clause-opened c = refl

pub returns-clause-after : goal.returns-clause-after
unfolding tag_of sealed_bytes sealed_at head_at sha256_steps.first_words sha256_steps.schedule sha256_steps.rounds sha256_steps.compress sha256_steps.hash_after sha256_steps.digest_bytes sha256_steps.sha256
returns-clause-after c = refl

pub returns-clause-steps : goal.returns-clause-steps
unfolding tag_of sealed_bytes sealed_at head_at sha256_steps.first_words sha256_steps.schedule sha256_steps.rounds sha256_steps.compress sha256_steps.hash_after sha256_steps.digest_bytes sha256_steps.sha256
returns-clause-steps c = refl

pub returns-clause-steps_before : goal.returns-clause-steps_before
unfolding tag_of sealed_bytes sealed_at head_at sha256_steps.first_words sha256_steps.schedule sha256_steps.rounds sha256_steps.compress sha256_steps.hash_after sha256_steps.digest_bytes sha256_steps.sha256
returns-clause-steps_before c = refl

pub returns-clause-aside : goal.returns-clause-aside
unfolding tag_of sealed_bytes sealed_at head_at sha256_steps.first_words sha256_steps.schedule sha256_steps.rounds sha256_steps.compress sha256_steps.hash_after sha256_steps.digest_bytes sha256_steps.sha256
returns-clause-aside c = refl

pub returns-clause-taken : goal.returns-clause-taken
unfolding tag_of sealed_bytes sealed_at head_at sha256_steps.first_words sha256_steps.schedule sha256_steps.rounds sha256_steps.compress sha256_steps.hash_after sha256_steps.digest_bytes sha256_steps.sha256
returns-clause-taken c = refl
