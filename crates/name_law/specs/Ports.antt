-- The port of a process over a translator: what the process reads of the events that the translator received, and what
-- it offers below.
use Rattle.std.specs.Prelude.{◌≡◌, ℕ, ◌<◌, List, length, Option, Some, slice_get}
use Rattle.datagram_port.specs.Port.{Offered, PortEvent, Received}
use Rattle.datagram_port.specs.declared.port.Sender.TheVariants.{Client, Peer}
use Rattle.named_port.specs.Runs.{Has}
use Rattle.named_port.specs.Translator.{TranslatorRecord, new_translator}
use Rattle.named_port.specs.Wire.{token_of}
use Rattle.oath_node.specs.Hosted.{envelope_at}
use Rattle.vote_core.specs.Schedule.{Envelope}
use Rattle.vote_wire.specs.Body.{HasSpelling}
use Rattle.vote_wire.specs.Key.{bare}
use Rattle.book_law.specs.Lives.{Terms, named_envelope}
use Rattle.book_law.specs.Uses.{OwnOutput, ToClientOwn, ToPeerOwn}
use Rattle.name_law.specs.Datagrams.{IsTranslatorOf, handed_bytes, named_datagram, own_names}

-- the translator of a node's process in a boot, at its start, which knows boots of the members
abbrev pub first_translator : List (List ℕ) → ℕ → Terms → ℕ → List ℕ → TranslatorRecord
first_translator names node terms boot known =
    new_translator terms.key (own_names names terms.seats) node boot known

-- A process reads what its translator handed in for one of the events: bytes from the member's address.
pub record ReadsEvent (names : List (List ℕ)) (node : ℕ) (terms : Terms) (calls : List PortEvent) (from : ℕ)
    (read : Option Envelope) : Type 0 where
  pub translator : TranslatorRecord
  pub is_of : IsTranslatorOf names node terms translator
  pub bytes : List ℕ
  pub came : Has calls (Received (Peer from) bytes)
  pub reads : read ≡ envelope_at bare (handed_bytes translator from bytes)

-- each envelope among the outputs has a spelling, and is about a number with a seat
abbrev pub AreSeated : Terms → List OwnOutput → Type 0
AreSeated terms own = (place : ℕ) (envelope : Envelope) → slice_get own place ≡ Some (ToPeerOwn envelope)
    → HasSpelling envelope.sender envelope.receiver envelope.message
    × (token_of envelope.message < length terms.seats)

-- the offer below of an output of a process in a boot: an envelope by its name under the key, or an answer
abbrev pub named_offer : List (List ℕ) → Terms → ℕ → OwnOutput → PortEvent
named_offer names terms boot (ToPeerOwn envelope) =
    Offered (Peer envelope.receiver)
    (named_datagram names boot (record { key = terms.key; envelope = named_envelope terms.seats envelope }))
named_offer names terms boot (ToClientOwn answer) = Offered (Client answer.client) answer.bytes
