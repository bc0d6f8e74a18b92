-- Each case is computed.
use Rattle.std.proofs.Common.{refl, arith, inl, inr, ap, length}
use Rattle.hmac_core.specs.Unfolded.sha256_steps
use Rattle.vote_wire.specs.Body.{body_at, message_at, vote_at, denial_at, floor_at, proposal_at, factor_at, next_at}
use Rattle.vote_wire.specs.Datagram.{datagram_at, datagram_bytes}
use Rattle.vote_wire.specs.Key.{tag_of}
use Rattle.vote_wire.proofs.laws.bare_key_is_worked.Goals as goal

pub returns-clause-tag : goal.returns-clause-tag
unfolding tag_of datagram_bytes datagram_at body_at message_at vote_at denial_at floor_at proposal_at factor_at next_at
returns-clause-tag c = refl

pub returns-clause-bytes : goal.returns-clause-bytes
unfolding tag_of datagram_bytes datagram_at body_at message_at vote_at denial_at floor_at proposal_at factor_at next_at
returns-clause-bytes c = refl

pub returns-clause-read : goal.returns-clause-read
unfolding tag_of datagram_bytes datagram_at body_at message_at vote_at denial_at floor_at proposal_at factor_at next_at
returns-clause-read c = refl

pub returns-clause-tagged : goal.returns-clause-tagged
unfolding tag_of datagram_bytes datagram_at body_at message_at vote_at denial_at floor_at proposal_at factor_at next_at
returns-clause-tagged c = refl

pub returns-clause-under_a_key : goal.returns-clause-under_a_key
unfolding tag_of datagram_bytes datagram_at body_at message_at vote_at denial_at floor_at proposal_at factor_at next_at sha256_steps.first_words sha256_steps.schedule sha256_steps.rounds sha256_steps.compress sha256_steps.hash_after sha256_steps.digest_bytes sha256_steps.sha256
returns-clause-under_a_key c = refl

pub returns-clause-is_no_key : goal.returns-clause-is_no_key
returns-clause-is_no_key c = λ key. absurd (omega (arith, key.0))

pub returns-clause-is_allowed : goal.returns-clause-is_allowed
returns-clause-is_allowed c = inr refl

pub returns-clause-few_bytes : goal.returns-clause-few_bytes
returns-clause-few_bytes c = λ key. elim key [
  | inl cluster ↦ absurd (omega (arith, cluster.0))
  | inr none ↦ absurd cc
]
