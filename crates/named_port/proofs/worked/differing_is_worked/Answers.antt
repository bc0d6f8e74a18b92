-- Each case is computed.
use Rattle.std.proofs.Common.{refl}
use Rattle.hmac_core.specs.Unfolded.sha256_steps
use Rattle.named_wire.specs.Datagram.{datagram_at, datagram_bytes}
use Rattle.named_wire.specs.Head.{head_at}
use Rattle.vote_wire.specs.Key.{tag_of}
use Rattle.named_port.specs.Wire.{named_of, numbered_of}
use Rattle.named_port.proofs.worked.differing_is_worked.Goals as goal

pub returns-clause-known : goal.returns-clause-known
unfolding numbered_of
returns-clause-known c = refl

pub returns-clause-no_name : goal.returns-clause-no_name
unfolding numbered_of
returns-clause-no_name c = refl

pub returns-clause-no_fields : goal.returns-clause-no_fields
unfolding numbered_of
returns-clause-no_fields c = refl

pub returns-clause-by_name : goal.returns-clause-by_name
unfolding named_of numbered_of tag_of datagram_bytes datagram_at head_at sha256_steps.first_words sha256_steps.schedule sha256_steps.rounds sha256_steps.compress sha256_steps.hash_after sha256_steps.digest_bytes sha256_steps.sha256
returns-clause-by_name c = refl

pub returns-clause-version_2 : goal.returns-clause-version_2
unfolding named_of numbered_of tag_of datagram_bytes datagram_at head_at sha256_steps.first_words sha256_steps.schedule sha256_steps.rounds sha256_steps.compress sha256_steps.hash_after sha256_steps.digest_bytes sha256_steps.sha256
returns-clause-version_2 c = refl

pub returns-clause-key : goal.returns-clause-key
unfolding named_of numbered_of tag_of datagram_bytes datagram_at head_at sha256_steps.first_words sha256_steps.schedule sha256_steps.rounds sha256_steps.compress sha256_steps.hash_after sha256_steps.digest_bytes sha256_steps.sha256
returns-clause-key c = refl

pub returns-clause-without_bytes : goal.returns-clause-without_bytes
unfolding named_of numbered_of tag_of datagram_bytes datagram_at head_at sha256_steps.first_words sha256_steps.schedule sha256_steps.rounds sha256_steps.compress sha256_steps.hash_after sha256_steps.digest_bytes sha256_steps.sha256
returns-clause-without_bytes c = refl

pub returns-clause-stays : goal.returns-clause-stays
unfolding named_of numbered_of tag_of datagram_bytes datagram_at head_at sha256_steps.first_words sha256_steps.schedule sha256_steps.rounds sha256_steps.compress sha256_steps.hash_after sha256_steps.digest_bytes sha256_steps.sha256
returns-clause-stays c = refl

pub returns-clause-both : goal.returns-clause-both
unfolding named_of numbered_of tag_of datagram_bytes datagram_at head_at sha256_steps.first_words sha256_steps.schedule sha256_steps.rounds sha256_steps.compress sha256_steps.hash_after sha256_steps.digest_bytes sha256_steps.sha256
returns-clause-both c = refl
