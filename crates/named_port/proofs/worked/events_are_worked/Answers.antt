-- Each case is computed.
use Rattle.std.proofs.Common.{refl}
use Rattle.hmac_core.specs.Unfolded.sha256_steps
use Rattle.named_wire.specs.Datagram.{datagram_at, datagram_bytes}
use Rattle.named_wire.specs.Head.{head_at}
use Rattle.vote_wire.specs.Key.{tag_of}
use Rattle.named_port.specs.Wire.{named_of, numbered_of}
use Rattle.named_port.proofs.worked.events_are_worked.Goals as goal

pub returns-clause-handed : goal.returns-clause-handed
unfolding named_of numbered_of tag_of datagram_bytes datagram_at head_at sha256_steps.first_words sha256_steps.schedule sha256_steps.rounds sha256_steps.compress sha256_steps.hash_after sha256_steps.digest_bytes sha256_steps.sha256
returns-clause-handed c = refl

pub returns-clause-heard : goal.returns-clause-heard
unfolding named_of numbered_of tag_of datagram_bytes datagram_at head_at sha256_steps.first_words sha256_steps.schedule sha256_steps.rounds sha256_steps.compress sha256_steps.hash_after sha256_steps.digest_bytes sha256_steps.sha256
returns-clause-heard c = refl

pub returns-clause-older : goal.returns-clause-older
unfolding named_of numbered_of tag_of datagram_bytes datagram_at head_at sha256_steps.first_words sha256_steps.schedule sha256_steps.rounds sha256_steps.compress sha256_steps.hash_after sha256_steps.digest_bytes sha256_steps.sha256
returns-clause-older c = refl

pub returns-clause-older_is_noted : goal.returns-clause-older_is_noted
unfolding named_of numbered_of tag_of datagram_bytes datagram_at head_at sha256_steps.first_words sha256_steps.schedule sha256_steps.rounds sha256_steps.compress sha256_steps.hash_after sha256_steps.digest_bytes sha256_steps.sha256
returns-clause-older_is_noted c = refl

pub returns-clause-by_another : goal.returns-clause-by_another
unfolding named_of numbered_of tag_of datagram_bytes datagram_at head_at sha256_steps.first_words sha256_steps.schedule sha256_steps.rounds sha256_steps.compress sha256_steps.hash_after sha256_steps.digest_bytes sha256_steps.sha256
returns-clause-by_another c = refl

pub returns-clause-by_another_is_unheard : goal.returns-clause-by_another_is_unheard
unfolding named_of numbered_of tag_of datagram_bytes datagram_at head_at sha256_steps.first_words sha256_steps.schedule sha256_steps.rounds sha256_steps.compress sha256_steps.hash_after sha256_steps.digest_bytes sha256_steps.sha256
returns-clause-by_another_is_unheard c = refl

pub returns-clause-version_2 : goal.returns-clause-version_2
unfolding named_of numbered_of tag_of datagram_bytes datagram_at head_at sha256_steps.first_words sha256_steps.schedule sha256_steps.rounds sha256_steps.compress sha256_steps.hash_after sha256_steps.digest_bytes sha256_steps.sha256
returns-clause-version_2 c = refl

pub returns-clause-offered : goal.returns-clause-offered
unfolding named_of numbered_of tag_of datagram_bytes datagram_at head_at sha256_steps.first_words sha256_steps.schedule sha256_steps.rounds sha256_steps.compress sha256_steps.hash_after sha256_steps.digest_bytes sha256_steps.sha256
returns-clause-offered c = refl

pub returns-clause-run : goal.returns-clause-run
unfolding named_of numbered_of tag_of datagram_bytes datagram_at head_at sha256_steps.first_words sha256_steps.schedule sha256_steps.rounds sha256_steps.compress sha256_steps.hash_after sha256_steps.digest_bytes sha256_steps.sha256
returns-clause-run c = refl

pub returns-clause-greatest : goal.returns-clause-greatest
unfolding named_of numbered_of tag_of datagram_bytes datagram_at head_at sha256_steps.first_words sha256_steps.schedule sha256_steps.rounds sha256_steps.compress sha256_steps.hash_after sha256_steps.digest_bytes sha256_steps.sha256
returns-clause-greatest c = refl

pub returns-clause-greatest_at_last : goal.returns-clause-greatest_at_last
unfolding named_of numbered_of tag_of datagram_bytes datagram_at head_at sha256_steps.first_words sha256_steps.schedule sha256_steps.rounds sha256_steps.compress sha256_steps.hash_after sha256_steps.digest_bytes sha256_steps.sha256
returns-clause-greatest_at_last c = refl

pub returns-clause-none_of_another : goal.returns-clause-none_of_another
unfolding named_of numbered_of tag_of datagram_bytes datagram_at head_at sha256_steps.first_words sha256_steps.schedule sha256_steps.rounds sha256_steps.compress sha256_steps.hash_after sha256_steps.digest_bytes sha256_steps.sha256
returns-clause-none_of_another c = refl

pub returns-clause-none_to_another : goal.returns-clause-none_to_another
unfolding named_of numbered_of tag_of datagram_bytes datagram_at head_at sha256_steps.first_words sha256_steps.schedule sha256_steps.rounds sha256_steps.compress sha256_steps.hash_after sha256_steps.digest_bytes sha256_steps.sha256
returns-clause-none_to_another c = refl

pub returns-clause-none_by_others : goal.returns-clause-none_by_others
unfolding named_of numbered_of tag_of datagram_bytes datagram_at head_at sha256_steps.first_words sha256_steps.schedule sha256_steps.rounds sha256_steps.compress sha256_steps.hash_after sha256_steps.digest_bytes sha256_steps.sha256
returns-clause-none_by_others c = refl

pub returns-clause-offered_without_name : goal.returns-clause-offered_without_name
unfolding named_of numbered_of
returns-clause-offered_without_name c = refl
