-- What a port that tells floors promises of what it hands in and of what it offers, in all executions.
use Rattle.std.specs.Prelude.{◌≡◌, ◌⊎◌, ℕ, ◌<◌, ◌≤◌, Bool, false, true, slice_index_or, List, [], ◌∷◌, length, slice_get, Some}
use Rattle.datagram_port.specs.Port.{PortEvent, Received, Offered}
use Rattle.datagram_port.specs.declared.port.Sender.{Sender}
use Rattle.datagram_port.specs.declared.port.Sender.TheVariants.{Peer}
use Rattle.named_port.specs.Names.{number_of}
use Rattle.named_port.specs.Runs.{after_events}
use Rattle.named_port.specs.Translator.{TranslatorRecord, is_older, new_translator}
use Rattle.named_wire.specs.Datagram.{datagram_at, datagram_bytes}
use Rattle.named_wire.specs.declared.head.Head.{Head}
use Rattle.named_wire.specs.declared.head.Kind.TheVariants.{Floors}
use Rattle.floor_port.specs.Floors.{floor_bytes, floors_body, told_in}
use Rattle.floor_port.specs.Packer.{PackerRecord, floor_head}
use Rattle.floor_port.specs.Rows.{RowsRecord, is_fresh}
use Rattle.floor_port.specs.Runs.{Call, Came, Offer, handed_events}
use Rattle.floor_port.specs.Witness.{witness_of}
use Rattle.floor_port.specs.declared.floor.NamedFloor.{NamedFloor}

-- the element is in the list
abbrev pub Among : {A : Type 0} → List A → A → Type 0
Among [] one = ⊥
Among (first ∷ rest) one = (first ≡ one) ⊎ Among rest one

-- ---- what is handed in

-- A floor that a member told the node `me`: the port below received a datagram from the member, under the key, that the
-- member sent to the node and that tells the floor. `head` is its head, but for the kind, which is that of one floor.
pub record IsTold (key : List ℕ) (me : ℕ) (calls : List Call) (head : Head) (floor : NamedFloor) : Type 0 where
  pub datagram : List ℕ
  pub came : Among calls (Came (Received (Peer head.from) datagram))
  pub sent : Head
  pub body : List ℕ
  pub reads : datagram_at key datagram ≡ Some (sent, body)
  pub to_is : sent.to ≡ me
  pub head_is : head ≡ floor_head sent
  pub floors : List NamedFloor
  pub tells : told_in sent.kind body ≡ Some floors
  pub floor_is : Among floors floor

-- A member went back, by the floors of a token: in an earlier boot it told a greater one than in a later boot.
pub record WentBack (key : List ℕ) (me : ℕ) (calls : List Call) (member : ℕ) (name : List ℕ) : Type 0 where
  pub earlier : Head
  pub later : Head
  pub greater : ℕ
  pub lower : ℕ
  pub told_earlier : IsTold key me calls earlier (record { name = name; next = greater })
  pub told_later : IsTold key me calls later (record { name = name; next = lower })
  pub from_earlier : earlier.from ≡ member
  pub from_later : later.from ≡ member
  pub is_later : earlier.boot < later.boot
  pub is_lower : lower < greater

-- an offer of the node
pub record IsOwnOffer (calls : List Call) (event : PortEvent) : Type 0 where
  pub to : Sender
  pub bytes : List ℕ
  pub event_is : event ≡ Offered to bytes
  pub is_offered : Among calls (Offer to bytes)

-- the datagram of one floor that a member told
pub record IsFloorHanded (key : List ℕ) (me : ℕ) (calls : List Call) (event : PortEvent) : Type 0 where
  pub head : Head
  pub floor : NamedFloor
  pub is_told : IsTold key me calls head floor
  pub event_is : event ≡ Received (Peer head.from) (datagram_bytes key head (floor_bytes floor))

-- the member is known at the start to have gone back, or went back by the floors of some token
abbrev pub HasGoneBack : List ℕ → List Bool → ℕ → List Call → ℕ → Type 0
HasGoneBack key gone_back me calls member =
    (slice_index_or gone_back member false ≡ true) ⊎ ((name : List ℕ) × WentBack key me calls member name)

-- a datagram of a member that went back, without its bytes
pub record IsSilenced (key : List ℕ) (gone_back : List Bool) (me : ℕ) (calls : List Call) (event : PortEvent)
    : Type 0 where
  pub member : ℕ
  pub datagram : List ℕ
  pub came : Among calls (Came (Received (Peer member) datagram))
  pub went_back : HasGoneBack key gone_back me calls member
  pub event_is : event ≡ Received (Peer member) []

-- an event of a node's port: one that the port below received, an offer of the node, a floor that a member told, or a
-- datagram of a member that went back, without its bytes
abbrev pub HandsIn : List ℕ → List Bool → ℕ → List Call → PortEvent → Type 0
HandsIn key gone_back me calls event =
    Among calls (Came event)
    ⊎ (IsOwnOffer calls event ⊎ (IsFloorHanded key me calls event ⊎ IsSilenced key gone_back me calls event))

-- The translator of the port by names above, after calls from the given start. It knew the same boots at its start, and
-- received what the port handed in.
abbrev pub above : PackerRecord → List Call → TranslatorRecord
above start calls =
    after_events (new_translator start.key start.rows.names start.me start.boot start.heard) (handed_events start calls)

-- bytes that are a datagram under the key, which a translator doesn't drop for its boot
pub record IsInTime (key : List ℕ) (translator : TranslatorRecord) (bytes : List ℕ) : Type 0 where
  pub head : Head
  pub body : List ℕ
  pub reads : datagram_at key bytes ≡ Some (head, body)
  pub boot_is : is_older translator.heard head ≡ false

-- ---- what is offered

-- the node bore witness to the floor of a row by an offer to a member
pub record IsWitnessed (names : List (List ℕ)) (calls : List Call) (row next : ℕ) : Type 0 where
  pub member : ℕ
  pub bytes : List ℕ
  pub is_offered : Among calls (Offer (Peer member) bytes)
  pub floor : NamedFloor
  pub witness_is : witness_of bytes ≡ Some floor
  pub row_is : number_of names floor.name ≡ Some row
  pub next_is : floor.next ≡ next

-- a floor of the node: the store had it at the start, or the node bore witness to it
pub record IsOwnFloor (names : List (List ℕ)) (floors : List ℕ) (calls : List Call) (floor : NamedFloor)
    : Type 0 where
  pub row : ℕ
  pub name_is : slice_get names row ≡ Some floor.name
  pub next_is : (slice_get floors row ≡ Some floor.next) ⊎ IsWitnessed names calls row floor.next

-- a datagram of at most 20 floors of the node `me` in a boot to another member
pub record TellsFloors (key : List ℕ) (names : List (List ℕ)) (me boot : ℕ) (floors : List ℕ) (calls : List Call)
    (to : Sender) (bytes : List ℕ) : Type 0 where
  pub member : ℕ
  pub to_is : to ≡ Peer member
  pub is_other : member ≡ me → ⊥
  pub told : List NamedFloor
  pub most : length told ≤ 20
  pub each : (floor : NamedFloor) → Among told floor → IsOwnFloor names floors calls floor
  pub bytes_are : bytes
      ≡ datagram_bytes key (record { kind = Floors; from = me; to = member; boot = boot }) (floors_body told)

-- the floor of a row that isn't fresh
pub record IsNotFresh (rows : RowsRecord) (floor : NamedFloor) : Type 0 where
  pub row : ℕ
  pub name_is : slice_get rows.names row ≡ Some floor.name
  pub next_is : slice_get rows.told row ≡ Some floor.next
  pub is_other : is_fresh rows.fresh row ≡ false
