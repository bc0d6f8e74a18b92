-- The events of the port below in an execution, and the boots that they tell of members.
use Rattle.std.specs.Prelude.{◌≡◌, ◌⊎◌, ℕ, ◌≤◌, ◌==◌, max, true, if◌then◌else◌, List, [], ◌∷◌, ◌++◌, drop, take, slice_get, slice_index, Option, Some, None}
use Rattle.datagram_port.specs.Port.{PortEvent, Received, Quiet, Faulted, Offered}
use Rattle.datagram_port.specs.declared.port.Sender.TheVariants.{Client, Peer}
use Rattle.named_wire.specs.Datagram.{datagram_at}
use Rattle.named_wire.specs.declared.head.Head.{Head}
use Rattle.vote_core.specs.declared.message.Message.{Message}
use Rattle.named_port.specs.Translator.{TranslatorRecord, after_event, between, handed_in, new_translator, offered}
use Rattle.named_port.specs.Wire.{is_of_one_token, named_at, named_bytes, numbered_bytes, token_of, unpacked}

-- the boot of a head, or 0
abbrev pub boot_of : Option (Head × List ℕ) → ℕ
boot_of None = 0
boot_of (Some read) = read.0.boot

-- The boot that an event tells of a member: that of a datagram which the member sent to the node `me`, with a right
-- tag. Any other event tells 0.
abbrev pub boot_told : List ℕ → ℕ → ℕ → PortEvent → ℕ
boot_told key me member (Received (Peer number) bytes) =
    if number == member then boot_of (between number me (datagram_at key bytes)) else 0
boot_told key me member (Received (Client number) bytes) = 0
boot_told key me member Quiet = 0
boot_told key me member Faulted = 0
boot_told key me member (Offered to bytes) = 0

-- the greatest boot that the events tell of a member
abbrev pub greatest_boot : List ℕ → ℕ → ℕ → List PortEvent → ℕ
greatest_boot key me member [] = 0
greatest_boot key me member (event ∷ events) = max (boot_told key me member event) (greatest_boot key me member events)

-- the translator after events of the port below, in order
abbrev pub after_events : TranslatorRecord → List PortEvent → TranslatorRecord
after_events translator [] = translator
after_events translator (event ∷ events) = after_events (after_event translator event) events

-- ---- the calls of a node's port: the events that the port below received, and the node's offers

-- a translator as it was at its start
abbrev pub at_start : TranslatorRecord → TranslatorRecord
at_start translator =
    new_translator translator.key translator.names translator.me translator.boot translator.known

-- the events of the node's port: what is handed in for each event of the port below, and the node's offers
abbrev pub handed_events : TranslatorRecord → List PortEvent → List PortEvent
handed_events translator [] = []
handed_events translator (event ∷ events) =
    handed_in translator event ∷ handed_events (after_event translator event) events

-- the events of the port below for a call: what it received, or what it was offered for an offer of the node
abbrev pub below_event : TranslatorRecord → PortEvent → List PortEvent
below_event translator (Received sender bytes) = Received sender bytes ∷ []
below_event translator Quiet = Quiet ∷ []
below_event translator Faulted = Faulted ∷ []
below_event translator (Offered to bytes) = offered translator to bytes

-- the events of the port below for calls, in order
abbrev pub below_events : TranslatorRecord → List PortEvent → List PortEvent
below_events translator [] = []
below_events translator (event ∷ events) =
    below_event translator event ++ below_events (after_event translator event) events

-- A port and its translator after calls, from a start at which the port below had no event. If the port below keeps a
-- record, the record is that of the calls.
pub record IsAfter (below : Option (List PortEvent)) (translator : TranslatorRecord) (calls : List PortEvent)
    : Type 0 where
  pub heard_is : translator.heard ≡ (after_events (at_start translator) calls).heard
  pub below_is : (events : List PortEvent) → below ≡ Some events → events ≡ below_events (at_start translator) calls

-- ---- translations

-- the event is in the list
abbrev pub Has : List PortEvent → PortEvent → Type 0
Has [] one = ⊥
Has (event ∷ events) one = (event ≡ one) ⊎ Has events one

-- a datagram that the port below was offered for a member is the translation of one that the node offered
pub record IsOfferOf (key : List ℕ) (names : List (List ℕ)) (boot : ℕ) (calls : List PortEvent) (member : ℕ)
    (bytes : List ℕ) : Type 0 where
  pub offer : List ℕ
  pub is_offered : Has calls (Offered (Peer member) offer)
  pub bytes_are : named_at key names boot offer ≡ Some bytes

-- Bytes that were handed to the node `me` as a datagram of a member: the translation of an event. The event is a
-- datagram from the member, under the key, that the member sent to the node in a boot. No greater boot of the member
-- was known at the start, and no earlier event told one. The book has the datagram's name, and the bytes have its
-- number and the same fields.
pub record IsTranslated (key : List ℕ) (names : List (List ℕ)) (me : ℕ) (known : List ℕ) (before : List PortEvent)
    (event : PortEvent) (member : ℕ) (bytes : List ℕ) : Type 0 where
  pub named : List ℕ
  pub event_is : event ≡ Received (Peer member) named
  pub head : Head
  pub body : List ℕ
  pub reads : datagram_at key named ≡ Some (head, body)
  pub from_is : head.from ≡ member
  pub to_is : head.to ≡ me
  pub known_is : slice_index known member ≤ head.boot
  pub boot_is : greatest_boot key me member before ≤ head.boot
  pub one_token : is_of_one_token head.kind ≡ true
  pub number : ℕ
  pub name_is : slice_get names number ≡ Some (take 16 body)
  pub fields : List ℕ
  pub fields_are : unpacked head.kind head.from head.to (drop 16 body) ≡ Some fields
  pub bytes_are : Some bytes ≡ numbered_bytes head fields (Some number)

-- A named datagram of a head says by name what a message says by number.
pub record IsNamedOf (key : List ℕ) (names : List (List ℕ)) (head : Head) (bytes : List ℕ) (from to : ℕ)
    (message : Message) : Type 0 where
  pub name : List ℕ
  pub name_is : slice_get names (token_of message) ≡ Some name
  pub bytes_are : bytes ≡ named_bytes key head.boot from to name message
  pub from_is : from ≡ head.from
  pub to_is : to ≡ head.to
