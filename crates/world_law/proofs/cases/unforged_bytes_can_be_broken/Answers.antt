-- The bytes of the Grant are computed, and their tag.
use Rattle.std.proofs.Common.{◌≡◌, ◌∙◌, ℕ, zero, suc, ◌+◌, ◌^◌, ◌<◌, ◌≤◌, List, [], ◌∷◌, length, Some, None, refl, sym, ap, arith}
use Rattle.std.specs.Prelude.{slice_get}
use Rattle.std.proofs.lemmas.Option.{none-some, same_Some}
use Rattle.hmac_core.specs.Unfolded.sha256_steps
use Rattle.vote_core.specs.Schedule.{Envelope}
use Rattle.vote_wire.specs.Body.{body_at, message_at, vote_at, denial_at, floor_at, proposal_at, factor_at, next_at}
use Rattle.vote_wire.specs.Datagram.{datagram_at, datagram_bytes}
use Rattle.vote_wire.specs.Key.{tag_of}
use Rattle.oath_node.specs.Hosted.{envelope_at}
use Rattle.book_law.specs.Lives.{Output, Sealed, ToClient, ToPeer, state_after, state_after_action}
use Rattle.world_law.specs.Bytes.{AreUnforged, IsUnforgedRead}
use Rattle.world_law.specs.Examples.{ask, grant, one_node, three_nodes}
use Rattle.world_law.specs.Steady.{sealed_by}
use Rattle.world_law.proofs.cases.unforged_bytes_can_be_broken.Goals as goal

-- the bytes of the Grant
abbrev grant_bytes : List ℕ
grant_bytes = datagram_bytes three_nodes.key grant.sender grant.receiver grant.message

grant_reads : envelope_at three_nodes.key grant_bytes ≡ Some grant
unfolding tag_of datagram_bytes datagram_at body_at message_at vote_at denial_at floor_at proposal_at factor_at next_at sha256_steps.first_words sha256_steps.schedule sha256_steps.rounds sha256_steps.compress sha256_steps.hash_after sha256_steps.digest_bytes sha256_steps.sha256
grant_reads = refl

-- no bytes
nothing_read : envelope_at three_nodes.key [] ≡ None
unfolding tag_of datagram_bytes datagram_at body_at message_at vote_at denial_at floor_at proposal_at factor_at next_at sha256_steps.first_words sha256_steps.schedule sha256_steps.rounds sha256_steps.compress sha256_steps.hash_after sha256_steps.digest_bytes sha256_steps.sha256
nothing_read = refl

pub returns-clause-unread : goal.returns-clause-unread
returns-clause-unread c = record { bytes = []; reads = nothing_read; offers = λ envelope read own. absurd (none-some envelope read) }

pub returns-clause-noise : goal.returns-clause-noise
returns-clause-noise c = record {
  bytes = grant_bytes;
  reads = grant_reads;
  offers = λ envelope read own.
      let same = same_Some grant envelope read in
      let sender : 2 ≡ 3 = ap (λ (l : Envelope). l.sender) same ∙ own in
      absurd (omega (arith, sender));
}

pub returns-clause-offered : goal.returns-clause-offered
returns-clause-offered c = record {
  bytes = grant_bytes;
  reads = grant_reads;
  offers = λ envelope read own. record { place = 0; envelope = grant; is_there = refl; bytes_are = refl };
}

none : {A : Type 0} (x : A) (place : ℕ) → slice_get [] place ≡ Some x → ⊥
none x place e = absurd cc

only : {A : Type 0} (x y : A) (place : ℕ) → slice_get (x ∷ []) place ≡ Some y → x ≡ y
only x y zero e = cc
only x y (suc place) e = absurd cc

never_offered : IsUnforgedRead three_nodes.key [] 2 (Some grant) → ⊥
never_offered h =
    let o = h.offers grant refl refl in
    none (ToPeer (record { key = three_nodes.key; envelope = o.envelope })) o.place o.is_there

pub returns-clause-forged : goal.returns-clause-forged
returns-clause-forged c h = never_offered h

-- the sender of an output, and the size of its key; an answer has neither
abbrev sender_of : Output → ℕ
sender_of (ToPeer sealed) = sealed.envelope.sender
sender_of (ToClient told) = 0

abbrev key_of : Output → ℕ
key_of (ToPeer sealed) = length sealed.key
key_of (ToClient told) = 0

pub returns-clause-offered_under_another_key : goal.returns-clause-offered_under_another_key
returns-clause-offered_under_another_key c h =
    let o = h.offers grant refl refl in
    let size : 0 ≡ 32 = ap key_of (only (ToPeer (sealed_by one_node grant)) (ToPeer (record { key = three_nodes.key; envelope = o.envelope })) o.place o.is_there) in
    omega (arith, size)

-- the first sender that bytes name
said_by_two : (bytes : List ℕ) (other : Envelope) → envelope_at three_nodes.key bytes ≡ Some grant → envelope_at three_nodes.key bytes ≡ Some other → 2 ≡ other.sender
said_by_two bytes other one two = ap (λ (l : Envelope). l.sender) (same_Some grant other (sym one ∙ two))

ask_reads : envelope_at three_nodes.key (datagram_bytes three_nodes.key ask.sender ask.receiver ask.message) ≡ Some ask
unfolding tag_of datagram_bytes datagram_at body_at message_at vote_at denial_at floor_at proposal_at factor_at next_at sha256_steps.first_words sha256_steps.schedule sha256_steps.rounds sha256_steps.compress sha256_steps.hash_after sha256_steps.digest_bytes sha256_steps.sha256
ask_reads = refl

pub returns-clause-offered_by_another : goal.returns-clause-offered_by_another
returns-clause-offered_by_another c h =
    let o = h.offers grant refl refl in
    let same = only (ToPeer (sealed_by three_nodes ask)) (ToPeer (record { key = three_nodes.key; envelope = o.envelope })) o.place o.is_there in
    let is_ask : ask ≡ o.envelope = envelopes (sealed_by three_nodes ask) (record { key = three_nodes.key; envelope = o.envelope }) same in
    let bytes : h.bytes ≡ datagram_bytes three_nodes.key ask.sender ask.receiver ask.message =
    o.bytes_are ∙ ap (λ (l : Envelope). datagram_bytes three_nodes.key l.sender l.receiver l.message) (sym is_ask) in
    let sender : 2 ≡ 1 = said_by_two h.bytes ask h.reads (ap (envelope_at three_nodes.key) bytes ∙ ask_reads) in
    omega (arith, sender)
  where
    envelopes : (one other : Sealed) → ToPeer one ≡ ToPeer other → one.envelope ≡ other.envelope
    envelopes one other e = ap (λ (sealed : Sealed). sealed.envelope) (sealeds one other e)
      where
        sealeds : (one other : Sealed) → ToPeer one ≡ ToPeer other → one ≡ other
        sealeds one other e = cc

pub returns-clause-forged_in_the_history : goal.returns-clause-forged_in_the_history
unfolding AreUnforged state_after state_after_action
returns-clause-forged_in_the_history c h = never_offered h.unforged.1.0

pub returns-clause-forged_in_a_stop : goal.returns-clause-forged_in_a_stop
unfolding AreUnforged state_after state_after_action
returns-clause-forged_in_a_stop c h = never_offered h.unforged.1.0

pub returns-clause-out_of_range : goal.returns-clause-out_of_range
returns-clause-out_of_range c h = let low : 2 ^ 62 + 1 ≤ 2 ^ 62 = h 0 in omega (arith, low)

pub returns-clause-too_many_nodes : goal.returns-clause-too_many_nodes
returns-clause-too_many_nodes c h = let few : 10 ≤ 9 = h.nodes in omega (arith, few)

pub returns-clause-first_floor_out_of_range : goal.returns-clause-first_floor_out_of_range
returns-clause-first_floor_out_of_range c h = let low : 2 ^ 62 + 1 ≤ 2 ^ 62 = h.floors 1 0 in omega (arith, low)

pub returns-clause-first_boot_out_of_range : goal.returns-clause-first_boot_out_of_range
returns-clause-first_boot_out_of_range c h = let low : 2 ^ 62 + 1 < 2 ^ 62 = h.boots 1 in omega (arith, low)
