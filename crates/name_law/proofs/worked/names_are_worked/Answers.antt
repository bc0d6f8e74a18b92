-- Each case is computed.
use Rattle.std.proofs.Common.{refl}
use Rattle.hmac_core.specs.Unfolded.sha256_steps
use Rattle.named_wire.specs.Datagram.{datagram_at, datagram_bytes}
use Rattle.named_wire.specs.Head.{head_at}
use Rattle.vote_wire.specs.Datagram as old
use Rattle.vote_wire.specs.Key.{tag_of}
use Rattle.named_port.specs.Wire.{named_of, numbered_of}
use Rattle.name_law.proofs.worked.names_are_worked.Goals as goal

pub returns-clause-own : goal.returns-clause-own
unfolding named_of numbered_of tag_of datagram_bytes datagram_at head_at old.datagram_bytes sha256_steps.first_words sha256_steps.schedule sha256_steps.rounds sha256_steps.compress sha256_steps.hash_after sha256_steps.digest_bytes sha256_steps.sha256
returns-clause-own c = refl

pub returns-clause-named : goal.returns-clause-named
unfolding named_of numbered_of tag_of datagram_bytes datagram_at head_at old.datagram_bytes sha256_steps.first_words sha256_steps.schedule sha256_steps.rounds sha256_steps.compress sha256_steps.hash_after sha256_steps.digest_bytes sha256_steps.sha256
returns-clause-named c = refl

pub returns-clause-numbered : goal.returns-clause-numbered
unfolding named_of numbered_of tag_of datagram_bytes datagram_at head_at old.datagram_bytes sha256_steps.first_words sha256_steps.schedule sha256_steps.rounds sha256_steps.compress sha256_steps.hash_after sha256_steps.digest_bytes sha256_steps.sha256
returns-clause-numbered c = refl

pub returns-clause-handed : goal.returns-clause-handed
unfolding named_of numbered_of tag_of datagram_bytes datagram_at head_at old.datagram_bytes sha256_steps.first_words sha256_steps.schedule sha256_steps.rounds sha256_steps.compress sha256_steps.hash_after sha256_steps.digest_bytes sha256_steps.sha256
returns-clause-handed c = refl

pub returns-clause-another_key : goal.returns-clause-another_key
unfolding named_of numbered_of tag_of datagram_bytes datagram_at head_at old.datagram_bytes sha256_steps.first_words sha256_steps.schedule sha256_steps.rounds sha256_steps.compress sha256_steps.hash_after sha256_steps.digest_bytes sha256_steps.sha256
returns-clause-another_key c = refl

pub returns-clause-no_name : goal.returns-clause-no_name
unfolding named_of numbered_of tag_of datagram_bytes datagram_at head_at old.datagram_bytes sha256_steps.first_words sha256_steps.schedule sha256_steps.rounds sha256_steps.compress sha256_steps.hash_after sha256_steps.digest_bytes sha256_steps.sha256
returns-clause-no_name c = refl

pub returns-clause-another_order : goal.returns-clause-another_order
unfolding named_of numbered_of tag_of datagram_bytes datagram_at head_at old.datagram_bytes sha256_steps.first_words sha256_steps.schedule sha256_steps.rounds sha256_steps.compress sha256_steps.hash_after sha256_steps.digest_bytes sha256_steps.sha256
returns-clause-another_order c = refl

pub returns-clause-same_boot : goal.returns-clause-same_boot
unfolding named_of numbered_of tag_of datagram_bytes datagram_at head_at old.datagram_bytes sha256_steps.first_words sha256_steps.schedule sha256_steps.rounds sha256_steps.compress sha256_steps.hash_after sha256_steps.digest_bytes sha256_steps.sha256
returns-clause-same_boot c = refl

pub returns-clause-older_boot : goal.returns-clause-older_boot
unfolding named_of numbered_of tag_of datagram_bytes datagram_at head_at old.datagram_bytes sha256_steps.first_words sha256_steps.schedule sha256_steps.rounds sha256_steps.compress sha256_steps.hash_after sha256_steps.digest_bytes sha256_steps.sha256
returns-clause-older_boot c = refl

pub returns-clause-another_address : goal.returns-clause-another_address
unfolding named_of numbered_of tag_of datagram_bytes datagram_at head_at old.datagram_bytes sha256_steps.first_words sha256_steps.schedule sha256_steps.rounds sha256_steps.compress sha256_steps.hash_after sha256_steps.digest_bytes sha256_steps.sha256
returns-clause-another_address c = refl

pub returns-clause-another_node : goal.returns-clause-another_node
unfolding named_of numbered_of tag_of datagram_bytes datagram_at head_at old.datagram_bytes sha256_steps.first_words sha256_steps.schedule sha256_steps.rounds sha256_steps.compress sha256_steps.hash_after sha256_steps.digest_bytes sha256_steps.sha256
returns-clause-another_node c = refl
