-- What a port makes of the datagrams that tell floors, and the floors that it tells.
use Rattle.std.specs.Prelude.{ℕ, zero, suc, ◌+◌, ◌==◌, ◌||◌, Bool, nat_lt, if◌then◌else◌, List, [], ◌∷◌, ◌++◌, length, drop, slice_index, slice_set, Option, Some, None}
use Rattle.datagram_port.specs.Port.{PortEvent, Received, Quiet, Faulted, Offered}
use Rattle.datagram_port.specs.declared.port.Sender.{Sender}
use Rattle.datagram_port.specs.declared.port.Sender.TheVariants.{Client, Peer}
use Rattle.named_wire.specs.Bytes.{byte_at}
use Rattle.named_wire.specs.Datagram.{datagram_at, datagram_bytes}
use Rattle.named_wire.specs.declared.head.Head.{Head}
use Rattle.named_wire.specs.declared.head.Kind.TheVariants.{Floor, Floors}
use Rattle.named_port.specs.Runs.{boot_of}
use Rattle.named_port.specs.Translator.{between, is_older}
use Rattle.gatekeeping.specs.declared.gatekeeper.Fell.{Fell}
use Rattle.floor_port.specs.Claims.{ClaimsRecord, claims_after, falls, fell_of, is_fallen, new_claims}
use Rattle.floor_port.specs.Floors.{floor_bytes, floors_body, told_in}
use Rattle.floor_port.specs.Pace.{PaceRecord, after_heard, after_quiet, due, new_pace}
use Rattle.floor_port.specs.Rows.{RowsRecord, after_news, after_telling, after_turn, after_turns, after_witness, new_rows, news, next_floors, turns_of}
use Rattle.floor_port.specs.Witness.{witness_of}
use Rattle.floor_port.specs.declared.floor.NamedFloor.{NamedFloor}

-- the floors of a datagram that are left to hand in, and the head of the datagram of each
pub record PendingRecord : Type 0 where
  pub head : Head
  pub floors : List NamedFloor

-- A packer of a node: the key of the tags, the node with its boot, the number of members, the rows of its book, its
-- pace, the floors that are left to hand in, what the members told of their floors, and the greatest boot in which each
-- member was heard or was known at the start, from member 0 to 9.
pub record PackerRecord : Type 0 where
  pub key : List ℕ
  pub me : ℕ
  pub boot : ℕ
  pub members : ℕ
  pub rows : RowsRecord
  pub pace : PaceRecord
  pub pending : PendingRecord
  pub claims : ClaimsRecord
  pub heard : List ℕ

-- no floor is left to hand in to the node
abbrev pub nothing_pending : ℕ → PendingRecord
nothing_pending me = record { head = record { kind = Floor; from = 0; to = me; boot = 0 }; floors = [] }

-- What a packer begins with: the members that are known to have gone back, and the greatest boot in which each member
-- was heard before, both from member 0 to 9, and the floors of its node's store, in the order of the names.
pub record StartRecord : Type 0 where
  pub gone_back : List Bool
  pub known : List ℕ
  pub floors : List ℕ

-- a packer that was told nothing
abbrev pub new_packer : List ℕ → List (List ℕ) → ℕ → ℕ → ℕ → StartRecord → PackerRecord
new_packer key names me boot members start = record {
  key = key;
  me = me;
  boot = boot;
  members = members;
  rows = new_rows names start.floors;
  pace = new_pace (length start.floors);
  pending = nothing_pending me;
  claims = new_claims start.gone_back (length start.floors);
  heard = start.known;
}

-- ---- the boots of members

-- the head and the body of a datagram that `member` sent to the node, if its tag is right
abbrev pub sent_by : PackerRecord → ℕ → List ℕ → Option (Head × List ℕ)
sent_by packer member bytes = between member packer.me (datagram_at packer.key bytes)

-- the greatest boots of the members, after one was heard in a boot
abbrev pub with_boot : List ℕ → ℕ → ℕ → List ℕ
with_boot heard member boot =
    if nat_lt (slice_index heard member) boot then slice_set heard member boot else heard

-- The packer after bytes from a member's address. A datagram of any kind tells the boot of the member that sent it to
-- the node. A member whose floor fell isn't heard.
abbrev pub hearing : PackerRecord → ℕ → List ℕ → PackerRecord
hearing packer member bytes = record packer {
  heard = if is_fallen packer.claims member then packer.heard
      else with_boot packer.heard member (boot_of (sent_by packer member bytes));
}

-- The head and the body of a datagram, unless its member was heard in a later boot: the port by names above drops such
-- a datagram.
abbrev pub in_time : List ℕ → Option (Head × List ℕ) → Option (Head × List ℕ)
in_time heard None = None
in_time heard (Some read) = if is_older heard read.0 then None else Some read

-- ---- floors that the node is told

-- whether a datagram tells floors, by its kind
abbrev pub tells_floors : List ℕ → Bool
tells_floors bytes = (byte_at bytes 3 == 4) || (byte_at bytes 3 == 5)

-- a head with floors, if there are floors
abbrev pub with_head : Head → Option (List NamedFloor) → Option (Head × List NamedFloor)
with_head head None = None
with_head head (Some floors) = Some (head, floors)

-- the head of a datagram and the floors that it tells
abbrev pub floors_read : Option (Head × List ℕ) → Option (Head × List NamedFloor)
floors_read None = None
floors_read (Some read) = with_head read.0 (told_in read.0.kind read.1)

-- The head and the floors of a datagram that `member` sent to the node, if it tells floors and its tag is right. Those
-- of a datagram of an older boot are not read.
abbrev pub told_by : PackerRecord → ℕ → List ℕ → Option (Head × List NamedFloor)
told_by packer member bytes =
    if tells_floors bytes then floors_read (in_time packer.heard (sent_by packer member bytes)) else None

-- the head of the datagram of one floor
abbrev pub floor_head : Head → Head
floor_head head = record head { kind = Floor }

-- the datagram of the first of some news, if there are any
abbrev pub first_of : List ℕ → Head → List NamedFloor → Option (List ℕ)
first_of key head [] = None
first_of key head (floor ∷ floors) = Some (datagram_bytes key head (floor_bytes floor))

-- the packer with all news but the first left to hand in, if there are news
abbrev pub with_others : PackerRecord → Head → List NamedFloor → PackerRecord
with_others packer head [] = packer
with_others packer head (floor ∷ floors) = record packer { pending = record { head = head; floors = floors } }

-- the datagram of the first of the floors told that are news, if there are any
abbrev pub first_told : PackerRecord → Option (Head × List NamedFloor) → Option (List ℕ)
first_told packer None = None
first_told packer (Some told) =
    first_of packer.key (floor_head told.0) (news packer.rows.names packer.rows.known told.1)

-- the packer after floors were told: the other news are left to hand in
abbrev pub after_told : PackerRecord → Option (Head × List NamedFloor) → PackerRecord
after_told packer None = packer
after_told packer (Some told) =
    with_others (record packer { rows = after_news packer.rows told.1 }) (floor_head told.0)
    (news packer.rows.names packer.rows.known told.1)

-- the datagram of the first of the floors, or no bytes if there is none
abbrev pub first_bytes : List ℕ → Head → List NamedFloor → List ℕ
first_bytes key head [] = []
first_bytes key head (floor ∷ floors) = datagram_bytes key head (floor_bytes floor)

-- the bytes that are handed in next
abbrev pub next_bytes : PackerRecord → List ℕ
next_bytes packer = first_bytes packer.key packer.pending.head packer.pending.floors

-- the packer after they were handed in
abbrev pub after_next : PackerRecord → PackerRecord
after_next packer = record packer { pending = record packer.pending { floors = drop 1 packer.pending.floors } }

-- The packer after a member told floors, or didn't. A member is heard by the floors that it tells: other bytes may come
-- from its address without its key.
abbrev pub after_member : PackerRecord → ℕ → Option (Head × List NamedFloor) → PackerRecord
after_member packer member None = packer
after_member packer member (Some told) =
    record packer { pace = after_heard packer.pace member (length packer.rows.told) }

-- ---- members that went back

-- the floor by which a member falls, if it does by the floors that it tells
abbrev pub fall_by : PackerRecord → ℕ → Option (Head × List NamedFloor) → Option NamedFloor
fall_by packer member None = None
fall_by packer member (Some told) = falls packer.claims packer.rows.names member told.0.boot told.1

-- the packer with the claims after the floors that a member told
abbrev pub with_claims : PackerRecord → ℕ → Option (Head × List NamedFloor) → PackerRecord
with_claims packer member None = packer
with_claims packer member (Some told) =
    record packer { claims = claims_after packer.claims packer.rows.names member told.0.boot told.1 }

-- The packer after floors of a member were held against its claims. By a fall nothing is learned, and no floor is left.
abbrev pub after_held : PackerRecord → ℕ → Option (Head × List NamedFloor) → Option NamedFloor → PackerRecord
after_held packer member told None = after_told (after_member packer member told) told
after_held packer member told (Some floor) =
    record packer { pending = record packer.pending { floors = [] } }

-- the packer after a datagram of a member: that of one whose floor fell before changes nothing
abbrev pub after_datagram : PackerRecord → ℕ → Option (Head × List NamedFloor) → PackerRecord
after_datagram packer member told =
    if is_fallen packer.claims member then packer
    else after_held (with_claims packer member told) member told (fall_by packer member told)

-- the fall of a member by a datagram, if it falls
abbrev pub fell_by : PackerRecord → ℕ → Option (Head × List NamedFloor) → Option Fell
fell_by packer member told =
    if is_fallen packer.claims member then None else fell_of member (fall_by packer member told)

-- the bytes that are handed in for floors that are told, by which the member fell or didn't, if they aren't the same
abbrev pub bytes_of : PackerRecord → Option (Head × List NamedFloor) → Option NamedFloor → Option (List ℕ)
bytes_of packer told None = first_told packer told
bytes_of packer told (Some floor) = Some []

-- the bytes that are handed in for a datagram of a member, if they aren't the same
abbrev pub bytes_for : PackerRecord → ℕ → Option (Head × List NamedFloor) → Option (List ℕ)
bytes_for packer member told =
    if is_fallen packer.claims member then Some [] else bytes_of packer told (fall_by packer member told)

-- ---- the events of the port below

-- the first bytes if there are any, else the others
abbrev pub bytes_or : Option (List ℕ) → List ℕ → List ℕ
bytes_or None others = others
bytes_or (Some first) others = first

-- The bytes that are handed in for a member's datagram: the datagram of the first of its news, or the same bytes if it
-- has no news. There are none if a floor of the member fell. The packer has heard the boot of the datagram.
abbrev pub member_bytes : PackerRecord → ℕ → List ℕ → List ℕ
member_bytes packer member bytes = bytes_or (bytes_for packer member (told_by packer member bytes)) bytes

-- the event that is handed to the node for an event of the port below
abbrev pub handed_in : PackerRecord → PortEvent → PortEvent
handed_in packer (Received (Peer member) bytes) =
    Received (Peer member) (member_bytes (hearing packer member bytes) member bytes)
handed_in packer (Received (Client number) bytes) = Received (Client number) bytes
handed_in packer Quiet = Quiet
handed_in packer Faulted = Faulted
handed_in packer (Offered to bytes) = Offered to bytes

-- ---- floors that the node tells

-- the datagram for a member with a body of floors
abbrev pub floors_datagram : PackerRecord → ℕ → List ℕ → List ℕ
floors_datagram packer to body =
    datagram_bytes packer.key (record { kind = Floors; from = packer.me; to = to; boot = packer.boot }) body

-- the offer of a body to a member, if it is not the node itself
abbrev pub member_offer : PackerRecord → List ℕ → ℕ → List PortEvent
member_offer packer body to =
    if to == packer.me then [] else Offered (Peer to) (floors_datagram packer to body) ∷ []

-- the offers of a body to a number of members from a first one on
abbrev pub body_offers : PackerRecord → List ℕ → ℕ → ℕ → List PortEvent
body_offers packer body first zero = []
body_offers packer body first (suc count) =
    member_offer packer body first ++ body_offers packer body (first + 1) count

-- the body of some floors, if there are any
abbrev pub body_of : List NamedFloor → Option (List ℕ)
body_of [] = None
body_of (floor ∷ floors) = Some (floors_body (floor ∷ floors))

-- the offers of a body to each other member, if there is a body
abbrev pub offers_of : PackerRecord → Option (List ℕ) → List PortEvent
offers_of packer None = []
offers_of packer (Some body) = body_offers packer body 1 packer.members

-- the offers of the floors of a number of turns
abbrev pub turn_offers : PackerRecord → RowsRecord → ℕ → List PortEvent
turn_offers packer rows zero = []
turn_offers packer rows (suc turns) =
    offers_of packer (body_of (next_floors rows)) ++ turn_offers packer (after_turn rows) turns

-- the number of turns at a quiet turn of the port
abbrev pub turns_due : PackerRecord → ℕ
turns_due packer = due packer.pace (turns_of packer.rows)

-- the offers for an event of the port below
abbrev pub told_at : PackerRecord → PortEvent → List PortEvent
told_at packer (Received sender bytes) = []
told_at packer Quiet = turn_offers packer packer.rows (turns_due packer)
told_at packer Faulted = []
told_at packer (Offered to bytes) = []

-- the packer after a quiet turn: no row is fresh
abbrev pub after_quiet_turn : PackerRecord → PackerRecord
after_quiet_turn packer = record packer {
  rows = after_telling (after_turns packer.rows (turns_due packer));
  pace = after_quiet packer.pace;
}

-- the packer after an event of the port below
abbrev pub after_event : PackerRecord → PortEvent → PackerRecord
after_event packer (Received (Peer member) bytes) =
    let heard = hearing packer member bytes in after_datagram heard member (told_by heard member bytes)
after_event packer (Received (Client number) bytes) = packer
after_event packer Quiet = after_quiet_turn packer
after_event packer Faulted = packer
after_event packer (Offered to bytes) = packer

-- the fall that an event of the port below shows, if it shows one
abbrev pub fell_at : PackerRecord → PortEvent → Option Fell
fell_at packer (Received (Peer member) bytes) =
    let heard = hearing packer member bytes in fell_by heard member (told_by heard member bytes)
fell_at packer (Received (Client number) bytes) = None
fell_at packer Quiet = None
fell_at packer Faulted = None
fell_at packer (Offered to bytes) = None

-- the packer after an offer of the node
abbrev pub after_offer : PackerRecord → Sender → List ℕ → PackerRecord
after_offer packer (Peer member) bytes =
    record packer { rows = after_witness packer.rows (witness_of bytes) }
after_offer packer (Client number) bytes = packer
