-- The translation of members' datagrams, the boots that a member was heard in, and the members that differ.
use Rattle.std.specs.Prelude.{ℕ, ◌&&◌, Bool, true, not, nat_lt, ◌==◌, if◌then◌else◌, List, [], ◌∷◌, length, Option, Some, None, is_none, slice_index, slice_set}
use Rattle.datagram_port.specs.Port.{PortEvent, Received, Quiet, Faulted, Offered}
use Rattle.datagram_port.specs.declared.port.Sender.{Sender}
use Rattle.datagram_port.specs.declared.port.Sender.TheVariants.{Client, Peer}
use Rattle.named_wire.specs.Datagram.{datagram_at}
use Rattle.named_wire.specs.declared.head.Head.{Head}
use Rattle.named_port.specs.Wire.{is_of_one_token, named_at, numbered_of}
use Rattle.gatekeeping.specs.Members.{nobody}
use Rattle.gatekeeping.specs.declared.gatekeeper.Older.{Older}

-- A translator of a node: the cluster's key, the names of its book, its number and boot, the boots of the members that
-- it knew at its start, the greatest boot of each that it knew or heard, from member 0 to 9, the last dropped datagram
-- of an older boot, and whether each member differs, from 0 to 9.
pub record TranslatorRecord : Type 0 where
  pub key : List ℕ
  pub names : List (List ℕ)
  pub me : ℕ
  pub boot : ℕ
  pub known : List ℕ
  pub heard : List ℕ
  pub older : Option Older
  pub differing : List Bool

-- a translator at its start, which knows boots of the members
abbrev pub new_translator : List ℕ → List (List ℕ) → ℕ → ℕ → List ℕ → TranslatorRecord
new_translator key names me boot known =
    record {
      key = key;
      names = names;
      me = me;
      boot = boot;
      known = known;
      heard = known;
      older = None;
      differing = nobody;
    }

-- the head and the body of a datagram, if its head is from `member` to `me`
abbrev pub between : ℕ → ℕ → Option (Head × List ℕ) → Option (Head × List ℕ)
between member me None = None
between member me (Some read) =
    if (read.0.from == member) && (read.0.to == me) then Some read else None

-- the head and the body of a datagram that `member` sent to the node, if its tag is right
abbrev pub sent_by : TranslatorRecord → ℕ → List ℕ → Option (Head × List ℕ)
sent_by translator member bytes = between member translator.me (datagram_at translator.key bytes)

-- whether a boot is below the greatest one that its member was heard in
abbrev pub is_older : List ℕ → Head → Bool
is_older heard head = nat_lt head.boot (slice_index heard head.from)

-- the numbered datagram for the head and the body of a member's datagram
abbrev pub translated : TranslatorRecord → Option (Head × List ℕ) → Option (List ℕ)
translated translator None = None
translated translator (Some read) =
    if is_older translator.heard read.0 then None
    else numbered_of translator.names read.0 read.1

-- the translator after the head and the body of a member's datagram
abbrev pub after_read : TranslatorRecord → Option (Head × List ℕ) → TranslatorRecord
after_read translator None = translator
after_read translator (Some read) =
    if is_older translator.heard read.0
    then record translator { older = Some (record { member = read.0.from; boot = read.0.boot }) }
    else record translator { heard = slice_set translator.heard read.0.from read.0.boot }

-- Whether a datagram from a member's address shows that the member differs, by its bytes and by the head and the body
-- that the member sent. The member didn't send it under the node's key. Or it is of one token and of no older boot, and
-- has no numbered datagram: the book hasn't its name, or its fields have another form.
abbrev pub differs : TranslatorRecord → List ℕ → Option (Head × List ℕ) → Bool
differs translator bytes None = nat_lt 0 (length bytes)
differs translator bytes (Some read) =
    is_of_one_token read.0.kind && not (is_older translator.heard read.0)
    && is_none (numbered_of translator.names read.0 read.1)

-- whether each member differs, after a datagram from one of them that shows it or doesn't
abbrev pub marked : Bool → ℕ → List Bool → List Bool
marked is_shown member differing = if is_shown then slice_set differing member true else differing

-- the translator after a datagram from a member's address, by the head and the body that the member sent
abbrev pub after_datagram : TranslatorRecord → ℕ → List ℕ → Option (Head × List ℕ) → TranslatorRecord
after_datagram translator member bytes read =
    record (after_read translator read) {
      differing = marked (differs translator bytes read) member translator.differing;
    }

-- the bytes, or none
abbrev pub bytes_or_none : Option (List ℕ) → List ℕ
bytes_or_none None = []
bytes_or_none (Some bytes) = bytes

-- The event that is handed to the node for an event of the port below. A member's datagram without a translation is
-- handed in without bytes.
abbrev pub handed_in : TranslatorRecord → PortEvent → PortEvent
handed_in translator (Received (Peer member) bytes) =
    Received (Peer member) (bytes_or_none (translated translator (sent_by translator member bytes)))
handed_in translator (Received (Client number) bytes) = Received (Client number) bytes
handed_in translator Quiet = Quiet
handed_in translator Faulted = Faulted
handed_in translator (Offered to bytes) = Offered to bytes

-- the translator after an event of the port below
abbrev pub after_event : TranslatorRecord → PortEvent → TranslatorRecord
after_event translator (Received (Peer member) bytes) =
    after_datagram translator member bytes (sent_by translator member bytes)
after_event translator (Received (Client number) bytes) = translator
after_event translator Quiet = translator
after_event translator Faulted = translator
after_event translator (Offered to bytes) = translator

-- the offer of bytes to a member, if there are any
abbrev pub offer_to : ℕ → Option (List ℕ) → List PortEvent
offer_to member None = []
offer_to member (Some bytes) = Offered (Peer member) bytes ∷ []

-- The offers to the port below for an offer of the node. A datagram to a member without a translation is not offered.
abbrev pub offered : TranslatorRecord → Sender → List ℕ → List PortEvent
offered translator (Peer member) bytes =
    offer_to member (named_at translator.key translator.names translator.boot bytes)
offered translator (Client number) bytes = Offered (Client number) bytes ∷ []
