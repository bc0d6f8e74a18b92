-- Each case is computed.
use Rattle.std.proofs.Common.{refl}
use Rattle.hmac_core.specs.Unfolded.sha256_steps
use Rattle.named_wire.specs.Datagram.{datagram_at, datagram_bytes}
use Rattle.named_wire.specs.Head.{head_at}
use Rattle.vote_wire.specs.Key.{tag_of}
use Rattle.floor_port.proofs.worked.silences_are_worked.Goals as goal

pub returns-clause-falls : goal.returns-clause-falls
unfolding tag_of datagram_bytes datagram_at head_at sha256_steps.first_words sha256_steps.schedule sha256_steps.rounds sha256_steps.compress sha256_steps.hash_after sha256_steps.digest_bytes sha256_steps.sha256
returns-clause-falls c = refl

pub returns-clause-fallen : goal.returns-clause-fallen
unfolding tag_of datagram_bytes datagram_at head_at sha256_steps.first_words sha256_steps.schedule sha256_steps.rounds sha256_steps.compress sha256_steps.hash_after sha256_steps.digest_bytes sha256_steps.sha256
returns-clause-fallen c = refl

pub returns-clause-fell : goal.returns-clause-fell
unfolding tag_of datagram_bytes datagram_at head_at sha256_steps.first_words sha256_steps.schedule sha256_steps.rounds sha256_steps.compress sha256_steps.hash_after sha256_steps.digest_bytes sha256_steps.sha256
returns-clause-fell c = refl

pub returns-clause-second_falls : goal.returns-clause-second_falls
unfolding tag_of datagram_bytes datagram_at head_at sha256_steps.first_words sha256_steps.schedule sha256_steps.rounds sha256_steps.compress sha256_steps.hash_after sha256_steps.digest_bytes sha256_steps.sha256
returns-clause-second_falls c = refl

pub returns-clause-second_fallen : goal.returns-clause-second_fallen
unfolding tag_of datagram_bytes datagram_at head_at sha256_steps.first_words sha256_steps.schedule sha256_steps.rounds sha256_steps.compress sha256_steps.hash_after sha256_steps.digest_bytes sha256_steps.sha256
returns-clause-second_fallen c = refl

pub returns-clause-second_fell : goal.returns-clause-second_fell
unfolding tag_of datagram_bytes datagram_at head_at sha256_steps.first_words sha256_steps.schedule sha256_steps.rounds sha256_steps.compress sha256_steps.hash_after sha256_steps.digest_bytes sha256_steps.sha256
returns-clause-second_fell c = refl

pub returns-clause-none_is_left : goal.returns-clause-none_is_left
unfolding tag_of datagram_bytes datagram_at head_at sha256_steps.first_words sha256_steps.schedule sha256_steps.rounds sha256_steps.compress sha256_steps.hash_after sha256_steps.digest_bytes sha256_steps.sha256
returns-clause-none_is_left c = refl

pub returns-clause-same_boot : goal.returns-clause-same_boot
unfolding tag_of datagram_bytes datagram_at head_at sha256_steps.first_words sha256_steps.schedule sha256_steps.rounds sha256_steps.compress sha256_steps.hash_after sha256_steps.digest_bytes sha256_steps.sha256
returns-clause-same_boot c = refl

pub returns-clause-older_boot : goal.returns-clause-older_boot
unfolding tag_of datagram_bytes datagram_at head_at sha256_steps.first_words sha256_steps.schedule sha256_steps.rounds sha256_steps.compress sha256_steps.hash_after sha256_steps.digest_bytes sha256_steps.sha256
returns-clause-older_boot c = refl

pub returns-clause-no_fall : goal.returns-clause-no_fall
unfolding tag_of datagram_bytes datagram_at head_at sha256_steps.first_words sha256_steps.schedule sha256_steps.rounds sha256_steps.compress sha256_steps.hash_after sha256_steps.digest_bytes sha256_steps.sha256
returns-clause-no_fall c = refl

pub returns-clause-silent : goal.returns-clause-silent
returns-clause-silent c = refl

pub returns-clause-unchanged : goal.returns-clause-unchanged
returns-clause-unchanged c = refl

pub returns-clause-told_once : goal.returns-clause-told_once
returns-clause-told_once c = refl

pub returns-clause-another_member : goal.returns-clause-another_member
returns-clause-another_member c = refl

pub returns-clause-others : goal.returns-clause-others
returns-clause-others c = refl

pub returns-clause-lower : goal.returns-clause-lower
unfolding tag_of datagram_bytes datagram_at head_at sha256_steps.first_words sha256_steps.schedule sha256_steps.rounds sha256_steps.compress sha256_steps.hash_after sha256_steps.digest_bytes sha256_steps.sha256
returns-clause-lower c = refl

pub returns-clause-lower_falls : goal.returns-clause-lower_falls
unfolding tag_of datagram_bytes datagram_at head_at sha256_steps.first_words sha256_steps.schedule sha256_steps.rounds sha256_steps.compress sha256_steps.hash_after sha256_steps.digest_bytes sha256_steps.sha256
returns-clause-lower_falls c = refl

pub returns-clause-fells : goal.returns-clause-fells
unfolding tag_of datagram_bytes datagram_at head_at sha256_steps.first_words sha256_steps.schedule sha256_steps.rounds sha256_steps.compress sha256_steps.hash_after sha256_steps.digest_bytes sha256_steps.sha256
returns-clause-fells c = refl

pub returns-clause-two_fell : goal.returns-clause-two_fell
returns-clause-two_fell c = refl
