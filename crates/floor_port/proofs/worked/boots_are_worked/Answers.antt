-- Each case is computed.
use Rattle.std.proofs.Common.{refl}
use Rattle.hmac_core.specs.Unfolded.sha256_steps
use Rattle.named_wire.specs.Datagram.{datagram_at, datagram_bytes}
use Rattle.named_wire.specs.Head.{head_at}
use Rattle.vote_wire.specs.Key.{tag_of}
use Rattle.floor_port.proofs.worked.boots_are_worked.Goals as goal

pub returns-clause-greater : goal.returns-clause-greater
returns-clause-greater c = refl

pub returns-clause-known : goal.returns-clause-known
returns-clause-known c = refl

pub returns-clause-floors : goal.returns-clause-floors
unfolding tag_of datagram_bytes datagram_at head_at sha256_steps.first_words sha256_steps.schedule sha256_steps.rounds sha256_steps.compress sha256_steps.hash_after sha256_steps.digest_bytes sha256_steps.sha256
returns-clause-floors c = refl

pub returns-clause-vote : goal.returns-clause-vote
unfolding tag_of datagram_bytes datagram_at head_at sha256_steps.first_words sha256_steps.schedule sha256_steps.rounds sha256_steps.compress sha256_steps.hash_after sha256_steps.digest_bytes sha256_steps.sha256
returns-clause-vote c = refl

pub returns-clause-older_boot : goal.returns-clause-older_boot
unfolding tag_of datagram_bytes datagram_at head_at sha256_steps.first_words sha256_steps.schedule sha256_steps.rounds sha256_steps.compress sha256_steps.hash_after sha256_steps.digest_bytes sha256_steps.sha256
returns-clause-older_boot c = refl

pub returns-clause-another_tag : goal.returns-clause-another_tag
unfolding tag_of datagram_bytes datagram_at head_at sha256_steps.first_words sha256_steps.schedule sha256_steps.rounds sha256_steps.compress sha256_steps.hash_after sha256_steps.digest_bytes sha256_steps.sha256
returns-clause-another_tag c = refl

pub returns-clause-another_sender : goal.returns-clause-another_sender
unfolding tag_of datagram_bytes datagram_at head_at sha256_steps.first_words sha256_steps.schedule sha256_steps.rounds sha256_steps.compress sha256_steps.hash_after sha256_steps.digest_bytes sha256_steps.sha256
returns-clause-another_sender c = refl

pub returns-clause-fallen : goal.returns-clause-fallen
returns-clause-fallen c = refl

pub returns-clause-told : goal.returns-clause-told
unfolding tag_of datagram_bytes datagram_at head_at sha256_steps.first_words sha256_steps.schedule sha256_steps.rounds sha256_steps.compress sha256_steps.hash_after sha256_steps.digest_bytes sha256_steps.sha256
returns-clause-told c = refl

pub returns-clause-older_floors : goal.returns-clause-older_floors
unfolding tag_of datagram_bytes datagram_at head_at sha256_steps.first_words sha256_steps.schedule sha256_steps.rounds sha256_steps.compress sha256_steps.hash_after sha256_steps.digest_bytes sha256_steps.sha256
returns-clause-older_floors c = refl

pub returns-clause-nothing_is_noted : goal.returns-clause-nothing_is_noted
unfolding tag_of datagram_bytes datagram_at head_at sha256_steps.first_words sha256_steps.schedule sha256_steps.rounds sha256_steps.compress sha256_steps.hash_after sha256_steps.digest_bytes sha256_steps.sha256
returns-clause-nothing_is_noted c = refl

pub returns-clause-after_a_vote : goal.returns-clause-after_a_vote
unfolding tag_of datagram_bytes datagram_at head_at sha256_steps.first_words sha256_steps.schedule sha256_steps.rounds sha256_steps.compress sha256_steps.hash_after sha256_steps.digest_bytes sha256_steps.sha256
returns-clause-after_a_vote c = refl

pub returns-clause-before_a_vote : goal.returns-clause-before_a_vote
unfolding tag_of datagram_bytes datagram_at head_at sha256_steps.first_words sha256_steps.schedule sha256_steps.rounds sha256_steps.compress sha256_steps.hash_after sha256_steps.digest_bytes sha256_steps.sha256
returns-clause-before_a_vote c = refl
