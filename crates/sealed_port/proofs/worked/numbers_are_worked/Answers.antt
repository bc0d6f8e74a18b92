-- Each case is computed.
use Rattle.std.proofs.Common.{refl}
use Rattle.hmac_core.specs.Unfolded.sha256_steps
use Rattle.sealed_wire.specs.Body.{head_at}
use Rattle.sealed_wire.specs.Key.{tag_of}
use Rattle.sealed_wire.specs.Sealed.{sealed_at, sealed_bytes}
use Rattle.sealed_port.proofs.worked.numbers_are_worked.Goals as goal

pub returns-clause-event : goal.returns-clause-event
unfolding head_at
returns-clause-event c = refl

pub returns-clause-opened : goal.returns-clause-opened
unfolding tag_of sealed_bytes sealed_at head_at sha256_steps.first_words sha256_steps.schedule sha256_steps.rounds sha256_steps.compress sha256_steps.hash_after sha256_steps.digest_bytes sha256_steps.sha256
returns-clause-opened c = refl

pub returns-clause-two : goal.returns-clause-two
unfolding tag_of sealed_bytes sealed_at head_at sha256_steps.first_words sha256_steps.schedule sha256_steps.rounds sha256_steps.compress sha256_steps.hash_after sha256_steps.digest_bytes sha256_steps.sha256
returns-clause-two c = refl
