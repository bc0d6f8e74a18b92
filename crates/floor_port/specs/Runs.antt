-- The calls of a node's port, and the events of it and of the port below.
use Rattle.std.specs.Prelude.{◌≡◌, ℕ, ◌-◌, ◌≤◌, ◌==◌, ◌&&◌, Bool, true, false, nat_le, List, [], ◌∷◌, ◌++◌, length, drop, Option, Some, None}
use Rattle.datagram_port.specs.Port.{PortEvent, Received, Quiet, Faulted, Offered}
use Rattle.datagram_port.specs.declared.port.Sender.{Sender}
use Rattle.datagram_port.specs.declared.port.Sender.TheVariants.{Peer}
use Rattle.gatekeeping.specs.declared.gatekeeper.Fell.{Fell}
use Rattle.floor_port.specs.Packer.{PackerRecord, StartRecord, after_event, after_next, after_offer, fell_at, handed_in, new_packer, next_bytes, told_at}

-- A call of a node's port: the port below received an event, the next floor that was left is handed in, or the node
-- offered a datagram.
pub data Call : Type 0 where
  Came : (event : PortEvent) → Call
  Left : Call
  Offer : (to : Sender) (bytes : List ℕ) → Call

-- the event of the node's port for a call
abbrev pub handed : PackerRecord → Call → PortEvent
handed packer (Came event) = handed_in packer event
handed packer Left = Received (Peer packer.pending.head.from) (next_bytes packer)
handed packer (Offer to bytes) = Offered to bytes

-- the events of the port below for a call
abbrev pub below : PackerRecord → Call → List PortEvent
below packer (Came event) = event ∷ told_at packer event
below packer Left = []
below packer (Offer to bytes) = Offered to bytes ∷ []

-- the packer after a call
abbrev pub after : PackerRecord → Call → PackerRecord
after packer (Came event) = after_event packer event
after packer Left = after_next packer
after packer (Offer to bytes) = after_offer packer to bytes

-- the packer after calls, in order
abbrev pub after_calls : PackerRecord → List Call → PackerRecord
after_calls packer [] = packer
after_calls packer (call ∷ calls) = after_calls (after packer call) calls

-- the events of the node's port for calls, in order
abbrev pub handed_events : PackerRecord → List Call → List PortEvent
handed_events packer [] = []
handed_events packer (call ∷ calls) = handed packer call ∷ handed_events (after packer call) calls

-- the events of the port below for calls, in order
abbrev pub below_events : PackerRecord → List Call → List PortEvent
below_events packer [] = []
below_events packer (call ∷ calls) = below packer call ++ below_events (after packer call) calls

-- the fall that a call shows, if it shows one
abbrev pub fell_in : PackerRecord → Call → Option Fell
fell_in packer (Came event) = fell_at packer event
fell_in packer Left = None
fell_in packer (Offer to bytes) = None

-- the falls, with one before them if there is one
abbrev pub fell_before : Option Fell → List Fell → List Fell
fell_before None fells = fells
fell_before (Some fell) fells = fell ∷ fells

-- the falls that calls show, in order
abbrev pub fells_over : PackerRecord → List Call → List Fell
fells_over packer [] = []
fells_over packer (call ∷ calls) = fell_before (fell_in packer call) (fells_over (after packer call) calls)

-- the falls that a log wasn't told of are the last of all falls
pub record AreUntold (fells all : List Fell) : Type 0 where
  pub few : length fells ≤ length all
  pub last : fells ≡ drop (length all - length fells) all

-- Whether the port may make a call: it asks the port below if no floor is left, and else hands in the next one.
abbrev pub may_call : PackerRecord → Call → Bool
may_call packer (Came (Received sender bytes)) = length packer.pending.floors == 0
may_call packer (Came Quiet) = length packer.pending.floors == 0
may_call packer (Came Faulted) = length packer.pending.floors == 0
may_call packer (Came (Offered to bytes)) = false
may_call packer Left = nat_le 1 (length packer.pending.floors)
may_call packer (Offer to bytes) = true

-- whether the port may make each of the calls, in order
abbrev pub may_make : PackerRecord → List Call → Bool
may_make packer [] = true
may_make packer (call ∷ calls) = may_call packer call && may_make (after packer call) calls

-- a packer as it was at its start
abbrev pub at_start : PackerRecord → StartRecord → PackerRecord
at_start packer start = new_packer packer.key packer.rows.names packer.me packer.boot packer.members start

-- A port and its packer after calls, from a start at which the port below had no event. If the port below keeps a
-- record, the record is that of the calls.
pub record IsAfter (events : Option (List PortEvent)) (packer start : PackerRecord) (calls : List Call)
    : Type 0 where
  pub is_made : may_make start calls ≡ true
  pub packer_is : packer ≡ after_calls start calls
  pub below_is : (now : List PortEvent) → events ≡ Some now → now ≡ below_events start calls
