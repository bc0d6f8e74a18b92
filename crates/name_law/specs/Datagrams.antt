-- The datagrams of envelopes under canonical tokens, by the tokens' names. A process has its own numbers, and a
-- translator below its port turns them into names. All processes have the same names for canonical tokens.
use Rattle.std.specs.Prelude.{◌≡◌, ℕ, ◌^◌, ◌<◌, true, List, [], length, map, Option, Some, None, slice_get, slice_index_or}
use Rattle.token_names.specs.Names.{AreDistinct}
use Rattle.vote_core.specs.Books.{are_apart, number_of, numbered_message}
use Rattle.vote_core.specs.Schedule.{Envelope}
use Rattle.vote_wire.specs.Body.{HasSpelling}
use Rattle.vote_wire.specs.Datagram.{datagram_bytes}
use Rattle.vote_wire.specs.Key.{bare}
use Rattle.named_port.specs.Translator.{TranslatorRecord, bytes_or_none, sent_by, translated}
use Rattle.named_port.specs.Wire.{named_bytes, token_of}
use Rattle.seat_law.specs.Seats.{seat_name}
use Rattle.book_law.specs.Lives.{Sealed, Terms}

-- ---- Names

-- the names of the canonical tokens, each of 16 bytes, no two alike
pub record AreNames (names : List (List ℕ)) : Type 0 where
  pub distinct : AreDistinct names
  pub whole : (token : ℕ) (name : List ℕ) → slice_get names token ≡ Some name → length name ≡ 16

-- the name of a canonical token, no bytes for an unknown one
abbrev pub name_at : List (List ℕ) → ℕ → List ℕ
name_at names token = slice_index_or names token []

-- the names of the rows of a process's book
abbrev pub own_names : List (List ℕ) → List ℕ → List (List ℕ)
own_names names seats = map (name_at names) seats

-- the number that a process with the seats has for the canonical token, if any
abbrev pub own_number : List ℕ → ℕ → Option ℕ
own_number seats token = number_of (length seats) (seat_name seats) token

-- The translator of a node's process under the terms, in any boot. It may have heard any boots of members.
pub record IsTranslatorOf (names : List (List ℕ)) (node : ℕ) (terms : Terms) (translator : TranslatorRecord)
    : Type 0 where
  pub key : translator.key ≡ terms.key
  pub names_are : translator.names ≡ own_names names terms.seats
  pub me : translator.me ≡ node

-- ---- Datagrams

-- the datagram of a node to its port: version 2, under the bare key, with the node's number of the token
abbrev pub own_datagram : Envelope → List ℕ
own_datagram envelope = datagram_bytes bare envelope.sender envelope.receiver envelope.message

-- the datagram of an envelope from a node in a boot: version 3, under its key, with the name of the canonical token
abbrev pub named_datagram : List (List ℕ) → ℕ → Sealed → List ℕ
named_datagram names boot sealed =
    let envelope = sealed.envelope in
    named_bytes sealed.key boot envelope.sender envelope.receiver (name_at names (token_of envelope.message))
    envelope.message

-- the envelope with a process's number in place of the canonical token
abbrev pub numbered_envelope : Envelope → ℕ → Envelope
numbered_envelope envelope number = record envelope { message = numbered_message number envelope.message }

-- the envelope has a spelling, with a number in place of the canonical token
abbrev pub IsSpelled : Envelope → Type 0
IsSpelled envelope = HasSpelling envelope.sender envelope.receiver (numbered_message 0 envelope.message)

-- the datagram that a process reads for the envelope, by its number of the canonical token: no bytes without a number
abbrev pub bytes_for : Envelope → Option ℕ → List ℕ
bytes_for envelope None = []
bytes_for envelope (Some number) = own_datagram (numbered_envelope envelope number)

-- A process under the terms can read the datagram of the envelope, from a node in a boot. The datagram is under the key
-- of the process, and the parts are in range.
pub record IsReadable (names : List (List ℕ)) (terms : Terms) (boot : ℕ) (sealed : Sealed) : Type 0 where
  pub are_names : AreNames names
  pub seats : are_apart (length terms.seats) (seat_name terms.seats) ≡ true
  pub key : sealed.key ≡ terms.key
  pub token : token_of sealed.envelope.message < length names
  pub spelled : IsSpelled sealed.envelope
  pub boot_below : boot < 2 ^ 64

-- the bytes that a translator hands in for a datagram from a member's address
abbrev pub handed_bytes : TranslatorRecord → ℕ → List ℕ → List ℕ
handed_bytes translator from bytes = bytes_or_none (translated translator (sent_by translator from bytes))
