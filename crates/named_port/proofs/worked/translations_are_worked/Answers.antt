-- Each case is computed.
use Rattle.std.proofs.Common.{refl}
use Rattle.hmac_core.specs.Unfolded.sha256_steps
use Rattle.named_wire.specs.Datagram.{datagram_at, datagram_bytes}
use Rattle.named_wire.specs.Head.{head_at}
use Rattle.vote_wire.specs.Key.{tag_of}
use Rattle.named_port.specs.Wire.{named_of, numbered_of}
use Rattle.named_port.proofs.worked.translations_are_worked.Goals as goal

pub returns-clause-named : goal.returns-clause-named
unfolding named_of numbered_of tag_of datagram_bytes datagram_at head_at sha256_steps.first_words sha256_steps.schedule sha256_steps.rounds sha256_steps.compress sha256_steps.hash_after sha256_steps.digest_bytes sha256_steps.sha256
returns-clause-named c = refl

pub returns-clause-numbered : goal.returns-clause-numbered
unfolding named_of numbered_of tag_of datagram_bytes datagram_at head_at sha256_steps.first_words sha256_steps.schedule sha256_steps.rounds sha256_steps.compress sha256_steps.hash_after sha256_steps.digest_bytes sha256_steps.sha256
returns-clause-numbered c = refl

pub returns-clause-back : goal.returns-clause-back
unfolding named_of numbered_of tag_of datagram_bytes datagram_at head_at sha256_steps.first_words sha256_steps.schedule sha256_steps.rounds sha256_steps.compress sha256_steps.hash_after sha256_steps.digest_bytes sha256_steps.sha256
returns-clause-back c = refl

pub returns-clause-key : goal.returns-clause-key
unfolding named_of numbered_of tag_of datagram_bytes datagram_at head_at sha256_steps.first_words sha256_steps.schedule sha256_steps.rounds sha256_steps.compress sha256_steps.hash_after sha256_steps.digest_bytes sha256_steps.sha256
returns-clause-key c = refl

pub returns-clause-no_name : goal.returns-clause-no_name
unfolding named_of numbered_of tag_of datagram_bytes datagram_at head_at sha256_steps.first_words sha256_steps.schedule sha256_steps.rounds sha256_steps.compress sha256_steps.hash_after sha256_steps.digest_bytes sha256_steps.sha256
returns-clause-no_name c = refl

pub returns-clause-no_number : goal.returns-clause-no_number
unfolding named_of numbered_of
returns-clause-no_number c = refl

pub returns-clause-no_tag : goal.returns-clause-no_tag
unfolding named_of numbered_of
returns-clause-no_tag c = refl

pub returns-clause-kinds : goal.returns-clause-kinds
unfolding named_of numbered_of
returns-clause-kinds c = refl

pub returns-clause-another_node : goal.returns-clause-another_node
unfolding named_of numbered_of tag_of datagram_bytes datagram_at head_at sha256_steps.first_words sha256_steps.schedule sha256_steps.rounds sha256_steps.compress sha256_steps.hash_after sha256_steps.digest_bytes sha256_steps.sha256
returns-clause-another_node c = refl

pub returns-clause-wrong_last : goal.returns-clause-wrong_last
unfolding named_of numbered_of
returns-clause-wrong_last c = refl

pub returns-clause-several : goal.returns-clause-several
unfolding named_of numbered_of
returns-clause-several c = refl
