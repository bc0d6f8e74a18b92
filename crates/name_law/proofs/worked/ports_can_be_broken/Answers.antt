-- What was not read is told by its event or its bytes, and what is not offered by its number or its ends.
use Rattle.std.proofs.Common.{◌≡◌, ⊎_elim, inl, inr, ℕ, zero, suc, ◌<◌, List, [], ◌∷◌, Some, None, refl, ap, sym, ◌∙◌, subst, arith}
use Rattle.std.specs.List.{slice_get}
use Rattle.std.proofs.lemmas.Option.{none-some}
use Rattle.hmac_core.specs.Unfolded.sha256_steps
use Rattle.datagram_port.specs.Port.{PortEvent, Quiet, Received}
use Rattle.datagram_port.specs.declared.port.Sender.TheVariants.{Peer}
use Rattle.named_wire.specs.Datagram.{datagram_at, datagram_bytes}
use Rattle.named_wire.specs.Head.{head_at}
use Rattle.vote_core.specs.Schedule.{Envelope}
use Rattle.vote_wire.specs.Body.{HasSpelling}
use Rattle.vote_wire.specs.Datagram as old
use Rattle.vote_wire.specs.Key.{bare, tag_of}
use Rattle.named_port.specs.Examples.{named_ask, node_2, zeros}
use Rattle.named_port.specs.Translator.{TranslatorRecord, between, bytes_or_none, translated}
use Rattle.named_port.specs.Wire.{named_of, numbered_of, token_of}
use Rattle.oath_node.specs.Hosted.{envelope_at}
use Rattle.book_law.specs.Uses.{ToClientOwn, ToPeerOwn}
use Rattle.name_law.specs.Datagrams.{handed_bytes}
use Rattle.name_law.specs.Examples.{ask_of, came, silver_told}
use Rattle.name_law.proofs.Datagrams.{no_bytes}
use Rattle.name_law.proofs.Examples.{ask_spelled, reads_asked}
use Rattle.name_law.proofs.Names.{spelled_with}
use Rattle.name_law.proofs.worked.ports_can_be_broken.Goals as goal

pub returns-clause-offer : goal.returns-clause-offer
unfolding named_of numbered_of tag_of datagram_bytes datagram_at head_at old.datagram_bytes sha256_steps.first_words sha256_steps.schedule sha256_steps.rounds sha256_steps.compress sha256_steps.hash_after sha256_steps.digest_bytes sha256_steps.sha256
returns-clause-offer c = refl

-- ---- what is read

-- the address and the bytes of a received datagram
abbrev address_of : PortEvent → ℕ
address_of (Received (Peer from) bytes) = from
address_of _ = 0

abbrev bytes_of : PortEvent → List ℕ
bytes_of (Received (Peer from) bytes) = bytes
bytes_of _ = []

none_read : datagram_at zeros [] ≡ None
unfolding named_of numbered_of tag_of datagram_bytes datagram_at head_at old.datagram_bytes sha256_steps.first_words sha256_steps.schedule sha256_steps.rounds sha256_steps.compress sha256_steps.hash_after sha256_steps.digest_bytes sha256_steps.sha256
none_read = refl

-- a translator under the key hands in nothing for no bytes
nothing_handed : (t : TranslatorRecord) → t.key ≡ zeros → handed_bytes t 1 [] ≡ []
nothing_handed t key =
    ap (λ k. bytes_or_none (translated t (between 1 t.me (datagram_at k [])))) key ∙ ap (λ read. bytes_or_none (translated t (between 1 t.me read))) none_read

pub returns-clause-reads : goal.returns-clause-reads
returns-clause-reads c = record {
  translator = node_2;
  is_of = record { key = refl; names_are = refl; me = refl };
  bytes = named_ask;
  came = inr (inl refl);
  reads = reads_asked;
}

pub returns-clause-reads_nothing : goal.returns-clause-reads_nothing
returns-clause-reads_nothing c = record {
  translator = node_2;
  is_of = record { key = refl; names_are = refl; me = refl };
  bytes = [];
  came = inr (inl refl);
  reads = sym (ap (envelope_at bare) (nothing_handed node_2 refl) ∙ no_bytes);
}

quiet_is_none : (bytes : List ℕ) → Quiet ≡ Received (Peer 1) bytes → ⊥
quiet_is_none bytes e = let from : 0 ≡ 1 = ap address_of e in omega (arith, from)

pub returns-clause-reads_no_event : goal.returns-clause-reads_no_event
returns-clause-reads_no_event c h = ⊎_elim (λ e. quiet_is_none h.bytes e) (λ none. absurd none) h.came

pub returns-clause-reads_from_another : goal.returns-clause-reads_from_another
returns-clause-reads_from_another c h =
    ⊎_elim (λ (e : came named_ask ≡ Received (Peer 3) h.bytes). let from : 1 ≡ 3 = ap address_of e in absurd (omega (arith, from))) (λ none. absurd none) h.came

pub returns-clause-reads_without_bytes : goal.returns-clause-reads_without_bytes
returns-clause-reads_without_bytes c h =
    ⊎_elim
    (λ (e : came [] ≡ Received (Peer 1) h.bytes).
    absurd (none-some (ask_of 1) (sym (h.reads ∙ ap (λ b. envelope_at bare (handed_bytes h.translator 1 b)) (sym (ap bytes_of e)) ∙ ap (envelope_at bare) (nothing_handed h.translator h.is_of.key) ∙ no_bytes))))
    (λ none. absurd none) h.came

-- ---- what is offered

peer_is : (a b : Envelope) → Some (ToPeerOwn a) ≡ Some (ToPeerOwn b) → a ≡ b
peer_is a b e = cc

no_peer : (b : Envelope) → Some (ToClientOwn silver_told) ≡ Some (ToPeerOwn b) → ⊥
no_peer b e = cc

seated_ask : (place : ℕ) (envelope : Envelope) → slice_get (ToPeerOwn (ask_of 1) ∷ ToClientOwn silver_told ∷ []) place ≡ Some (ToPeerOwn envelope)
    → HasSpelling envelope.sender envelope.receiver envelope.message × (token_of envelope.message < 2)
seated_ask zero envelope at =
    subst (λ (x : Envelope). HasSpelling x.sender x.receiver x.message × (token_of x.message < 2)) (peer_is (ask_of 1) envelope at)
    (spelled_with 1 2 0 1 (ask_of 2).message (omega arith) (ask_spelled 2), omega arith)
seated_ask (suc zero) envelope at = absurd (no_peer envelope at)
seated_ask (suc (suc place)) envelope at = absurd (none-some (ToPeerOwn envelope) at)

pub returns-clause-seated : goal.returns-clause-seated
returns-clause-seated c = seated_ask

pub returns-clause-past_the_seats : goal.returns-clause-past_the_seats
returns-clause-past_the_seats c h = let low : 2 < 2 = (h 1 (ask_of 2) refl).1 in omega (arith, low)

pub returns-clause-unspelled : goal.returns-clause-unspelled
returns-clause-unspelled c h = (h 0 (record (ask_of 1) { receiver = 1 }) refl).0.0.apart refl
