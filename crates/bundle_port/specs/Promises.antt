-- What a port that joins datagrams promises of what it hands in and of what it offers, in all executions.
use Rattle.std.specs.Prelude.{◌≡◌, ◌⊎◌, ℕ, ◌==◌, ◌&&◌, Bool, true, if◌then◌else◌, List, [], ◌∷◌, ◌++◌, Some}
use Rattle.datagram_port.specs.Port.{PortEvent, Received, Quiet, Faulted, Offered}
use Rattle.datagram_port.specs.declared.port.Sender.{Sender}
use Rattle.datagram_port.specs.declared.port.Sender.TheVariants.{Client, Peer}
use Rattle.bundle_port.specs.Bundle.{is_part, parts_at, parts_or_itself}
use Rattle.bundle_port.specs.Bundler.{BundlerRecord}
use Rattle.bundle_port.specs.Runs.{Call, Waits, Polls, Left, Offer, Flush}

-- the element is in the list
abbrev pub Among : {A : Type 0} → List A → A → Type 0
Among [] one = ⊥
Among (first ∷ rest) one = (first ≡ one) ⊎ Among rest one

-- whether each of some datagrams can be a part of a bundle
abbrev pub are_parts : List (List ℕ) → Bool
are_parts [] = true
are_parts (part ∷ parts) = is_part part && are_parts parts

-- ---- what is handed in

-- the port below received the event
abbrev pub Came : List Call → PortEvent → Type 0
Came calls event = Among calls (Waits event) ⊎ Among calls (Polls event)

-- an offer of the node
pub record IsOwnOffer (calls : List Call) (event : PortEvent) : Type 0 where
  pub to : Sender
  pub bytes : List ℕ
  pub event_is : event ≡ Offered to bytes
  pub is_offered : Among calls (Offer to bytes)

-- a part of a bundle that the port below received from a member
pub record IsPartHanded (calls : List Call) (event : PortEvent) : Type 0 where
  pub member : ℕ
  pub bundle : List ℕ
  pub parts : List (List ℕ)
  pub part : List ℕ
  pub came : Came calls (Received (Peer member) bundle)
  pub parts_are : parts_at bundle ≡ Some parts
  pub is_among : Among parts part
  pub event_is : event ≡ Received (Peer member) part

-- an event of a node's port: one that the port below received, an offer of the node, or a part of a bundle
abbrev pub HandsIn : List Call → PortEvent → Type 0
HandsIn calls event = Came calls event ⊎ (IsOwnOffer calls event ⊎ IsPartHanded calls event)

-- ---- what is offered

-- a bundle to a member of datagrams that the node offered to it
pub record JoinsOffers (calls : List Call) (to : Sender) (bytes : List ℕ) : Type 0 where
  pub member : ℕ
  pub to_is : to ≡ Peer member
  pub parts : List (List ℕ)
  pub parts_are : parts_at bytes ≡ Some parts
  pub each : (part : List ℕ) → Among parts part → Among calls (Offer (Peer member) part)

-- ---- in order

-- the datagrams that the node offered to a member
abbrev pub own_of : ℕ → Call → List (List ℕ)
own_of member (Waits event) = []
own_of member (Polls event) = []
own_of member Left = []
own_of member (Offer (Peer number) bytes) = if number == member then bytes ∷ [] else []
own_of member (Offer (Client number) bytes) = []
own_of member Flush = []

-- the datagrams that the node offered to a member, in order
abbrev pub own_offers : ℕ → List Call → List (List ℕ)
own_offers member [] = []
own_offers member (call ∷ calls) = own_of member call ++ own_offers member calls

-- the parts of an offer to a member
abbrev pub parts_offered : ℕ → PortEvent → List (List ℕ)
parts_offered member (Received sender bytes) = []
parts_offered member Quiet = []
parts_offered member Faulted = []
parts_offered member (Offered (Peer number) bytes) = if number == member then parts_or_itself bytes else []
parts_offered member (Offered (Client number) bytes) = []

-- the parts of all that was offered to a member, in order
abbrev pub all_offered : ℕ → List PortEvent → List (List ℕ)
all_offered member [] = []
all_offered member (event ∷ events) = parts_offered member event ++ all_offered member events

-- the parts of a datagram from a member
abbrev pub parts_received : ℕ → PortEvent → List (List ℕ)
parts_received member (Received (Peer number) bytes) = if number == member then parts_or_itself bytes else []
parts_received member (Received (Client number) bytes) = []
parts_received member Quiet = []
parts_received member Faulted = []
parts_received member (Offered to bytes) = []

-- the parts of all that was received from a member, in order
abbrev pub all_received : ℕ → List PortEvent → List (List ℕ)
all_received member [] = []
all_received member (event ∷ events) = parts_received member event ++ all_received member events

-- a datagram from a member, as it is
abbrev pub datagram_from : ℕ → PortEvent → List (List ℕ)
datagram_from member (Received (Peer number) bytes) = if number == member then bytes ∷ [] else []
datagram_from member (Received (Client number) bytes) = []
datagram_from member Quiet = []
datagram_from member Faulted = []
datagram_from member (Offered to bytes) = []

-- the datagrams from a member, in order
abbrev pub datagrams_from : ℕ → List PortEvent → List (List ℕ)
datagrams_from member [] = []
datagrams_from member (event ∷ events) = datagram_from member event ++ datagrams_from member events

-- the parts of a bundle of a member that are left
abbrev pub left_from : BundlerRecord → ℕ → List (List ℕ)
left_from bundler member = if bundler.left.from == member then bundler.left.parts else []
