-- What a datagram of the journal is in the world, and what bytes that are none.
use Rattle.std.proofs.Common.{◌≡◌, ℕ, zero, suc, true, false, List, [], ◌∷◌, map, Option, Some, None, refl, sym, ap, ◌∙◌, subst}
use Rattle.std.proofs.lemmas.Bool.{cond-true, cond-false}
use Rattle.std.specs.List.{slice_get}
use Rattle.std.specs.Option.{option_map}
use Rattle.std.proofs.lemmas.Option.{none-some, same_Some}
use Rattle.vote_core.specs.Schedule.{Envelope}
use Rattle.vote_core.specs.declared.message.Message.{Message}
use Rattle.vote_wire.specs.Body.{HasSpelling}
use Rattle.vote_wire.specs.Datagram.{datagram_at, datagram_bytes}
use Rattle.oath_node.specs.Hosted.{envelope_at}
use Rattle.oath_node.specs.Machine.{Peer}
use Rattle.cluster_sim.specs.Journal.{AreSpelled, Letter, letter_of}
use Rattle.cluster_sim.specs.World.{World, delivered_event, is_from, noise_event}

abbrev pub AgainLaw : Type 0
AgainLaw = (key : List ℕ) (from to : ℕ) (m : Message) → HasSpelling from to m → datagram_at key (datagram_bytes key from to m) ≡ Some (from, to, m)

abbrev as_envelope : ℕ × ℕ × Message → Envelope
as_envelope x = record { sender = x.0; receiver = x.1; message = x.2 }

pub unsent_letter : (key : List ℕ) (ls : List Envelope) (k : ℕ) → slice_get (map (letter_of key) ls) k ≡ None → slice_get ls k ≡ None
unsent_letter key [] k e = refl
unsent_letter key (l ∷ ls) zero e = absurd (none-some (letter_of key l) (sym e))
unsent_letter key (l ∷ ls) (suc k) e = unsent_letter key ls k e

letter_peer : AgainLaw → (key : List ℕ) (l : Envelope) → HasSpelling l.sender l.receiver l.message → (d : Letter) → letter_of key l ≡ d → Some (Peer d.sender (envelope_at key d.bytes)) ≡ delivered_event (Some l)
letter_peer again key l spelled d e =
    subst (λ (x : Letter). Some (Peer x.sender (envelope_at key x.bytes)) ≡ delivered_event (Some l)) e
    (ap (λ (o : Option (ℕ × ℕ × Message)). Some (Peer l.sender (option_map as_envelope o))) (again key l.sender l.receiver l.message spelled))

letter_at : AgainLaw → (key : List ℕ) (ls : List Envelope) (k : ℕ) (d : Letter) → ((l : Envelope) → slice_get ls k ≡ Some l → HasSpelling l.sender l.receiver l.message) → slice_get (map (letter_of key) ls) k ≡ Some d
    → Some (Peer d.sender (envelope_at key d.bytes)) ≡ delivered_event (slice_get ls k)
letter_at again key [] k d spelled e = absurd (none-some d e)
letter_at again key (l ∷ ls) zero d spelled e = letter_peer again key l (spelled l refl) d (same_Some (letter_of key l) d e)
letter_at again key (l ∷ ls) (suc k) d spelled e = letter_at again key ls k d spelled e

-- a datagram of the journal comes as the envelope that was sent
pub handed_is : AgainLaw → (key : List ℕ) (w : World) (sent : List Letter) (k : ℕ) (d : Letter) → sent ≡ map (letter_of key) w.sent → AreSpelled w → slice_get sent k ≡ Some d
    → (x : Letter) → x ≡ d → Some (Peer x.sender (envelope_at key x.bytes)) ≡ delivered_event (slice_get w.sent k)
handed_is again key w sent k d same spelled e x is =
    subst (λ (y : Letter). Some (Peer y.sender (envelope_at key y.bytes)) ≡ delivered_event (slice_get w.sent k)) (sym is)
    (letter_at again key w.sent k d (spelled k) (ap (λ (l : List Letter). slice_get l k) (sym same) ∙ e))

-- ---- noise

-- bytes of an envelope whose sender is the receiver itself are no event
pub noise_own : (from : ℕ) (o : Option Envelope) → is_from from o ≡ true → noise_event from o ≡ None
noise_own from o own = cond-true (is_from from o) None (Some (Peer from o)) own

pub noise_other : (from : ℕ) (o : Option Envelope) → is_from from o ≡ false → noise_event from o ≡ Some (Peer from o)
noise_other from o other = cond-false (is_from from o) None (Some (Peer from o)) other
