-- What a bundler joins for each member, and what it takes apart.
use Rattle.std.specs.Prelude.{ℕ, ◌+◌, ◌-◌, ◌==◌, ◌&&◌, Bool, nat_le, if◌then◌else◌, List, [], ◌∷◌, ◌++◌, length, drop, map, replicate, slice_index_or, slice_set, Option, Some, None}
use Rattle.datagram_port.specs.Port.{PortEvent, Received, Quiet, Faulted, Offered}
use Rattle.datagram_port.specs.declared.port.Sender.{Sender}
use Rattle.datagram_port.specs.declared.port.Sender.TheVariants.{Client, Peer}
use Rattle.bundle_port.specs.Bundle.{bundle_bytes, is_part, parts_at}

-- the parts of a received bundle that are left to hand in, and the member that sent it
pub record LeftRecord : Type 0 where
  pub from : ℕ
  pub parts : List (List ℕ)

-- The lane of a member: the parts that wait to be sent to it, and how many datagrams the node offers to it.
-- `offered` is the number of datagrams since the last wait, with 2 for two or more. `calm` is the number of calm
-- waits in a row, with 8 for eight or more. A flush counts as a wait.
pub record LaneRecord : Type 0 where
  pub parts : List (List ℕ)
  pub offered : ℕ
  pub calm : ℕ

-- the lanes of members 1 to 9, and the parts that are left to hand in
pub record BundlerRecord : Type 0 where
  pub lanes : List LaneRecord
  pub left : LeftRecord

-- a lane at the start: nothing waits, nothing was offered, and there was no wait
abbrev pub new_lane : LaneRecord
new_lane = record { parts = []; offered = 0; calm = 0 }

-- the bundler at the start: all lanes are new, and nothing is left
abbrev pub new_bundler : BundlerRecord
new_bundler = record { lanes = replicate 9 new_lane; left = record { from = 0; parts = [] } }

-- ---- what is offered

-- the datagram of the parts that wait for a member: one part alone is itself the datagram
abbrev pub datagram_of : List (List ℕ) → Option (List ℕ)
datagram_of [] = None
datagram_of (part ∷ []) = Some part
datagram_of (part ∷ next ∷ parts) = Some (bundle_bytes (part ∷ next ∷ parts))

-- the offer of a datagram to a member, if there is one
abbrev pub offer_of : ℕ → Option (List ℕ) → List PortEvent
offer_of member None = []
offer_of member (Some bytes) = Offered (Peer member) bytes ∷ []

-- the offer of the parts that wait for a member
abbrev pub parts_offer : ℕ → List (List ℕ) → List PortEvent
parts_offer member parts = offer_of member (datagram_of parts)

-- the offers of the parts that wait for members, from a first one on
abbrev pub offers_from : ℕ → List LaneRecord → List PortEvent
offers_from member [] = []
offers_from member (lane ∷ others) = parts_offer member lane.parts ++ offers_from (member + 1) others

-- the offers of all that waits
abbrev pub flush_offers : BundlerRecord → List PortEvent
flush_offers bundler = offers_from 1 bundler.lanes

-- the number of calm waits in a row after which a lane is calm
abbrev pub calm_waits : ℕ
calm_waits = 8

-- the number of calm waits in a row after a wait. It is calm if at most one datagram was offered before it.
abbrev pub calm_after : LaneRecord → ℕ
calm_after lane =
    if nat_le 2 lane.offered then 0 else if nat_le calm_waits lane.calm then lane.calm else lane.calm + 1

-- a lane after a wait: what waited was offered
abbrev pub after_wait : LaneRecord → LaneRecord
after_wait lane = record { parts = []; offered = 0; calm = calm_after lane }

-- the bundler after a wait: all that waited was offered
abbrev pub after_flush : BundlerRecord → BundlerRecord
after_flush bundler = record bundler { lanes = map after_wait bundler.lanes }

-- ---- an offer of the node

-- whether the member has a lane: it has a number from 1 to 9
abbrev pub is_member : ℕ → Bool
is_member member = nat_le 1 member && nat_le member 9

-- the parts that wait for a member
abbrev pub waiting_for : BundlerRecord → ℕ → List (List ℕ)
waiting_for bundler member =
    if is_member member then (slice_index_or bundler.lanes (member - 1) new_lane).parts else []

-- whether the bundle of some parts has room for one more
abbrev pub has_room : List (List ℕ) → List ℕ → Bool
has_room parts bytes = nat_le (length (bundle_bytes parts) + 1 + length bytes) 512

-- the parts that stay when another one is to wait: none if there is no room
abbrev pub parts_kept : List (List ℕ) → List ℕ → List (List ℕ)
parts_kept parts bytes = if has_room parts bytes then parts else []

-- the parts that wait for a member after an offer to it that isn't sent at once
abbrev pub parts_after : List (List ℕ) → List ℕ → List (List ℕ)
parts_after parts bytes = if is_part bytes then parts_kept parts bytes ++ bytes ∷ [] else []

-- the offers that make room for another part
abbrev pub room_offers : ℕ → List (List ℕ) → List ℕ → List PortEvent
room_offers member parts bytes = if has_room parts bytes then [] else parts_offer member parts

-- the offers for an offer to a member that isn't sent at once
abbrev pub member_offers : ℕ → List (List ℕ) → List ℕ → List PortEvent
member_offers member parts bytes =
    if is_part bytes then room_offers member parts bytes
    else parts_offer member parts ++ Offered (Peer member) bytes ∷ []

-- whether a lane is calm: eight waits in a row were calm, and nothing was offered since the last one
abbrev pub is_calm : LaneRecord → Bool
is_calm lane = nat_le calm_waits lane.calm && (lane.offered == 0)

-- whether a datagram is sent at once: it can be a part, and its lane is calm. Then nothing waits.
abbrev pub goes_at_once : LaneRecord → List ℕ → Bool
goes_at_once lane bytes = is_calm lane && is_part bytes

-- the offers for an offer to a member
abbrev pub lane_offers : ℕ → LaneRecord → List ℕ → List PortEvent
lane_offers member lane bytes =
    if goes_at_once lane bytes then Offered (Peer member) bytes ∷ [] else member_offers member lane.parts bytes

-- the parts that wait for a member after an offer to it
abbrev pub lane_parts : LaneRecord → List ℕ → List (List ℕ)
lane_parts lane bytes = if goes_at_once lane bytes then lane.parts else parts_after lane.parts bytes

-- the number of offered datagrams with one more: 2 for two or more
abbrev pub one_more : ℕ → ℕ
one_more offered = if offered == 0 then 1 else 2

-- a lane after an offer to its member
abbrev pub lane_after : LaneRecord → List ℕ → LaneRecord
lane_after lane bytes = record { parts = lane_parts lane bytes; offered = one_more lane.offered; calm = lane.calm }

-- the offers for an offer of the node
abbrev pub offers_at : BundlerRecord → Sender → List ℕ → List PortEvent
offers_at bundler (Peer member) bytes =
    if is_member member then lane_offers member (slice_index_or bundler.lanes (member - 1) new_lane) bytes
    else Offered (Peer member) bytes ∷ []
offers_at bundler (Client number) bytes = Offered (Client number) bytes ∷ []

-- the lanes after an offer to a member
abbrev pub lanes_after : List LaneRecord → ℕ → List ℕ → List LaneRecord
lanes_after lanes member bytes =
    slice_set lanes (member - 1) (lane_after (slice_index_or lanes (member - 1) new_lane) bytes)

-- the bundler after an offer of the node
abbrev pub after_offer : BundlerRecord → Sender → List ℕ → BundlerRecord
after_offer bundler (Peer member) bytes =
    if is_member member then record bundler { lanes = lanes_after bundler.lanes member bytes } else bundler
after_offer bundler (Client number) bytes = bundler

-- ---- what is handed in

-- the first of some parts. There is none in an empty list.
abbrev pub first_part : List (List ℕ) → List ℕ
first_part [] = []
first_part (part ∷ parts) = part

-- the datagram that is handed in for one of a member: the first part of a bundle, or the same datagram
abbrev pub first_or_itself : Option (List (List ℕ)) → List ℕ → List ℕ
first_or_itself None bytes = bytes
first_or_itself (Some parts) bytes = first_part parts

-- the event that is handed to the node for an event of the port below
abbrev pub handed_in : PortEvent → PortEvent
handed_in (Received (Peer member) bytes) = Received (Peer member) (first_or_itself (parts_at bytes) bytes)
handed_in (Received (Client number) bytes) = Received (Client number) bytes
handed_in Quiet = Quiet
handed_in Faulted = Faulted
handed_in (Offered to bytes) = Offered to bytes

-- the bundler after a datagram of a member
abbrev pub after_datagram : BundlerRecord → ℕ → Option (List (List ℕ)) → BundlerRecord
after_datagram bundler member None = bundler
after_datagram bundler member (Some parts) =
    record bundler { left = record { from = member; parts = drop 1 parts } }

-- the bundler after an event of the port below
abbrev pub after_event : BundlerRecord → PortEvent → BundlerRecord
after_event bundler (Received (Peer member) bytes) = after_datagram bundler member (parts_at bytes)
after_event bundler (Received (Client number) bytes) = bundler
after_event bundler Quiet = bundler
after_event bundler Faulted = bundler
after_event bundler (Offered to bytes) = bundler

-- what is left after the first part was handed in
abbrev pub after_first : LeftRecord → LeftRecord
after_first left = record left { parts = drop 1 left.parts }

-- the bundler after the first part that was left was handed in
abbrev pub after_left : BundlerRecord → BundlerRecord
after_left bundler = record bundler { left = after_first bundler.left }
