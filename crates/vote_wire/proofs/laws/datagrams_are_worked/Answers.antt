-- Each case is computed.
use Rattle.std.proofs.Common.{refl}
use Rattle.hmac_core.specs.Unfolded.sha256_steps
use Rattle.vote_wire.specs.Body.{body_at, message_at, vote_at, denial_at, floor_at, proposal_at, factor_at, next_at}
use Rattle.vote_wire.specs.Datagram.{datagram_at, datagram_bytes}
use Rattle.vote_wire.specs.Key.{tag_of}
use Rattle.vote_wire.proofs.laws.datagrams_are_worked.Goals as goal

pub returns-clause-tag : goal.returns-clause-tag
unfolding tag_of datagram_bytes datagram_at body_at message_at vote_at denial_at floor_at proposal_at factor_at next_at sha256_steps.first_words sha256_steps.schedule sha256_steps.rounds sha256_steps.compress sha256_steps.hash_after sha256_steps.digest_bytes sha256_steps.sha256
returns-clause-tag c = refl

pub returns-clause-bytes : goal.returns-clause-bytes
unfolding tag_of datagram_bytes datagram_at body_at message_at vote_at denial_at floor_at proposal_at factor_at next_at sha256_steps.first_words sha256_steps.schedule sha256_steps.rounds sha256_steps.compress sha256_steps.hash_after sha256_steps.digest_bytes sha256_steps.sha256
returns-clause-bytes c = refl

pub returns-clause-read : goal.returns-clause-read
unfolding tag_of datagram_bytes datagram_at body_at message_at vote_at denial_at floor_at proposal_at factor_at next_at sha256_steps.first_words sha256_steps.schedule sha256_steps.rounds sha256_steps.compress sha256_steps.hash_after sha256_steps.digest_bytes sha256_steps.sha256
returns-clause-read c = refl

pub returns-clause-key : goal.returns-clause-key
unfolding tag_of datagram_bytes datagram_at body_at message_at vote_at denial_at floor_at proposal_at factor_at next_at sha256_steps.first_words sha256_steps.schedule sha256_steps.rounds sha256_steps.compress sha256_steps.hash_after sha256_steps.digest_bytes sha256_steps.sha256
returns-clause-key c = refl

pub returns-clause-first_byte : goal.returns-clause-first_byte
unfolding tag_of datagram_bytes datagram_at body_at message_at vote_at denial_at floor_at proposal_at factor_at next_at sha256_steps.first_words sha256_steps.schedule sha256_steps.rounds sha256_steps.compress sha256_steps.hash_after sha256_steps.digest_bytes sha256_steps.sha256
returns-clause-first_byte c = refl

pub returns-clause-last_byte : goal.returns-clause-last_byte
unfolding tag_of datagram_bytes datagram_at body_at message_at vote_at denial_at floor_at proposal_at factor_at next_at sha256_steps.first_words sha256_steps.schedule sha256_steps.rounds sha256_steps.compress sha256_steps.hash_after sha256_steps.digest_bytes sha256_steps.sha256
returns-clause-last_byte c = refl

pub returns-clause-body : goal.returns-clause-body
unfolding tag_of datagram_bytes datagram_at body_at message_at vote_at denial_at floor_at proposal_at factor_at next_at sha256_steps.first_words sha256_steps.schedule sha256_steps.rounds sha256_steps.compress sha256_steps.hash_after sha256_steps.digest_bytes sha256_steps.sha256
returns-clause-body c = refl

pub returns-clause-no_tag : goal.returns-clause-no_tag
unfolding tag_of datagram_bytes datagram_at body_at message_at vote_at denial_at floor_at proposal_at factor_at next_at sha256_steps.first_words sha256_steps.schedule sha256_steps.rounds sha256_steps.compress sha256_steps.hash_after sha256_steps.digest_bytes sha256_steps.sha256
returns-clause-no_tag c = refl
