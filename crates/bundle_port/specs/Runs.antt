-- The calls of a node's port, and the events of it and of the port below.
use Rattle.std.specs.Prelude.{◌≡◌, ℕ, ◌==◌, ◌&&◌, Bool, true, false, nat_le, List, [], ◌∷◌, ◌++◌, length, Option, Some}
use Rattle.datagram_port.specs.Port.{PortEvent, Received, Quiet, Faulted, Offered}
use Rattle.datagram_port.specs.declared.port.Sender.{Sender}
use Rattle.datagram_port.specs.declared.port.Sender.TheVariants.{Peer}
use Rattle.bundle_port.specs.Bundler.{BundlerRecord, after_event, after_flush, after_left, after_offer, first_part, flush_offers, handed_in, new_bundler, offers_at}

-- A call of a node's port: a receive of the port below with its event, a poll of it that found an event, a receive of
-- the next part that was left, an offer of the node, or a flush of all that waits.
pub data Call : Type 0 where
  Waits : (event : PortEvent) → Call
  Polls : (event : PortEvent) → Call
  Left : Call
  Offer : (to : Sender) (bytes : List ℕ) → Call
  Flush : Call

-- the events of the node's port for a call: one, but none for a flush
abbrev pub handed : BundlerRecord → Call → List PortEvent
handed bundler (Waits event) = handed_in event ∷ []
handed bundler (Polls event) = handed_in event ∷ []
handed bundler Left = Received (Peer bundler.left.from) (first_part bundler.left.parts) ∷ []
handed bundler (Offer to bytes) = Offered to bytes ∷ []
handed bundler Flush = []

-- the events of the port below for a call: a receive first offers all that waits
abbrev pub below : BundlerRecord → Call → List PortEvent
below bundler (Waits event) = flush_offers bundler ++ event ∷ []
below bundler (Polls event) = event ∷ []
below bundler Left = []
below bundler (Offer to bytes) = offers_at bundler to bytes
below bundler Flush = flush_offers bundler

-- the bundler after a call
abbrev pub after : BundlerRecord → Call → BundlerRecord
after bundler (Waits event) = after_event (after_flush bundler) event
after bundler (Polls event) = after_event bundler event
after bundler Left = after_left bundler
after bundler (Offer to bytes) = after_offer bundler to bytes
after bundler Flush = after_flush bundler

-- the bundler after calls, in order
abbrev pub after_calls : BundlerRecord → List Call → BundlerRecord
after_calls bundler [] = bundler
after_calls bundler (call ∷ calls) = after_calls (after bundler call) calls

-- the events of the node's port for calls, in order
abbrev pub handed_events : BundlerRecord → List Call → List PortEvent
handed_events bundler [] = []
handed_events bundler (call ∷ calls) = handed bundler call ++ handed_events (after bundler call) calls

-- the events of the port below for calls, in order
abbrev pub below_events : BundlerRecord → List Call → List PortEvent
below_events bundler [] = []
below_events bundler (call ∷ calls) = below bundler call ++ below_events (after bundler call) calls

-- whether no part is left
abbrev pub is_none_left : BundlerRecord → Bool
is_none_left bundler = length bundler.left.parts == 0

-- Whether the port may make a call: it asks the port below if no part is left, and else hands in the next one. A poll
-- is never quiet.
abbrev pub may_call : BundlerRecord → Call → Bool
may_call bundler (Waits (Offered to bytes)) = false
may_call bundler (Waits (Received sender bytes)) = is_none_left bundler
may_call bundler (Waits Quiet) = is_none_left bundler
may_call bundler (Waits Faulted) = is_none_left bundler
may_call bundler (Polls (Offered to bytes)) = false
may_call bundler (Polls (Received sender bytes)) = is_none_left bundler
may_call bundler (Polls Quiet) = false
may_call bundler (Polls Faulted) = is_none_left bundler
may_call bundler Left = nat_le 1 (length bundler.left.parts)
may_call bundler (Offer to bytes) = true
may_call bundler Flush = true

-- whether the port may make each of the calls, in order
abbrev pub may_make : BundlerRecord → List Call → Bool
may_make bundler [] = true
may_make bundler (call ∷ calls) = may_call bundler call && may_make (after bundler call) calls

-- A port and its bundler after calls, from a start at which the port below had no event. If the port below keeps a
-- record, the record is that of the calls.
pub record IsAfter (events : Option (List PortEvent)) (bundler : BundlerRecord) (calls : List Call) : Type 0 where
  pub is_made : may_make new_bundler calls ≡ true
  pub bundler_is : bundler ≡ after_calls new_bundler calls
  pub below_is : (now : List PortEvent) → events ≡ Some now → now ≡ below_events new_bundler calls
