-- A run of a node over a port and a clock. The node takes what the port receives, and the port gets the node's
-- datagrams and replies as offers.
use Rattle.std.specs.Prelude.{◌≡◌, ⊤, ℕ, ◌+◌, ◌%◌, nat_eq, not, Bool, if◌then◌else◌, List, [], ◌∷◌, ◌++◌, length, map, filter, Option, Some, None, true, false}
use Rattle.std.specs.List.{flat_map}
use Rattle.vote_core.specs.NodeSet.{PlaceRecord}
use Rattle.oath_node.specs.Hosted.{Hosted, config_of, envelope_at}
use Rattle.oath_node.specs.Machine.{Config, NodeEvent, NodeState, Client, Peer, Tick, made_by_event}
use Rattle.oath_node.specs.Outputs.{outputs_of}
use Rattle.oath_node.specs.declared.item.Item.{Item}
use Rattle.oath_node.specs.declared.item.Item.TheVariants.{Datagram, Reply}
use Rattle.datagram_port.specs.Port.{PortEvent, Received, Quiet, Faulted, Offered}
use Rattle.oath_node.specs.declared.serve_fault.ServeFault.{ServeFault}
use Rattle.oath_node.specs.declared.serve_fault.ServeFault.TheVariants.{Port as PortFault, Clock as ClockFault}
use Rattle.oath_node.specs.declared.turns.Tally.{Tally}
use Rattle.datagram_port.specs.declared.port.Sender.TheVariants.{Client as ToClient, Peer as ToPeer}

-- ---- The receipts of turns

-- A member's datagram, a client's datagram with the clock's answer, nothing, or a fault of the port.
pub data Receipt : Type 0 where
  FromPeer : (from : ℕ) (bytes : List ℕ) → Receipt
  FromClient : (client : ℕ) (bytes : List ℕ) (moment : Option ℕ) → Receipt
  Nothing : Receipt
  Failure : Receipt

-- the receipt's entry in the port's record
abbrev pub entry_of : Receipt → PortEvent
entry_of (FromPeer from bytes) = Received (ToPeer from) bytes
entry_of (FromClient client bytes moment) = Received (ToClient client) bytes
entry_of Nothing = Quiet
entry_of Failure = Faulted

-- the clock's answers for the receipt: the clock is asked only for a client's datagram
abbrev pub moments_for : Receipt → List (Option ℕ)
moments_for (FromPeer from bytes) = []
moments_for (FromClient client bytes moment) = moment ∷ []
moments_for Nothing = []
moments_for Failure = []

-- the clock's answers for the receipts, in order
abbrev pub moments_in : List Receipt → List (Option ℕ)
moments_in receipts = flat_map moments_for receipts

-- the entry is a receive
abbrev pub is_receive : PortEvent → Bool
is_receive (Received sender bytes) = true
is_receive Quiet = true
is_receive Faulted = true
is_receive (Offered to bytes) = false

-- the receives among the entries
abbrev pub receives_in : List PortEvent → List PortEvent
receives_in entries = filter is_receive entries

-- ---- A run

-- a member: the parts that are the same at all turns
pub record Member : Type 0 where
  pub config : Config
  pub key : List ℕ
  pub place : PlaceRecord

-- the member of a node
abbrev pub member_of : {S : Type 0} → Hosted S → Member
member_of node = record { config = config_of node; key = node.key; place = node.voter.place }

-- A run so far: the node, the entries that the port has added, the tally, and the fault that ended it.
pub record Run : Type 0 where
  pub node : NodeState
  pub entries : List PortEvent
  pub tally : Tally
  pub end : Option ServeFault

-- the run at its start
abbrev pub run_at : NodeState → Run
run_at node =
    record { node = node; entries = []; tally = record { received = 0; replied = 0; faults = 0 }; end = None }

-- ---- An event

-- the offer of a node's datagram or reply
abbrev pub offer_of : Item → PortEvent
offer_of (Datagram to bytes) = Offered (ToPeer to) bytes.items
offer_of (Reply client bytes) = Offered (ToClient client) bytes.items

-- the tally with more replies, `count` of them
abbrev pub with_replies : ℕ → Tally → Tally
with_replies count tally = record tally { replied = tally.replied + count }

-- the run with an event of the node, whose datagrams and replies are offers
abbrev pub run_with_event : Member → NodeEvent → Run → Run
run_with_event member event run =
    let made = made_by_event member.config member.place event run.node in
    record run {
      node = made.state;
      entries = run.entries ++ map offer_of (outputs_of member.key member.place made).items;
      tally = with_replies (length made.replies) run.tally;
    }

-- the run with the events, in order
abbrev pub run_with_events : Member → List NodeEvent → Run → Run
run_with_events member [] run = run
run_with_events member (event ∷ events) run = run_with_events member events (run_with_event member event run)

-- ---- A turn

-- the tally with a receive
abbrev pub tally_with : Receipt → Tally → Tally
tally_with (FromPeer from bytes) tally = record tally { received = tally.received + 1; faults = 0 }
tally_with (FromClient client bytes moment) tally = record tally { received = tally.received + 1; faults = 0 }
tally_with Nothing tally = record tally { faults = 0 }
tally_with Failure tally = record tally { faults = tally.faults + 1 }

-- the fault that ends the run at a receive: the 16th consecutive fault of the port, or a clock that tells no time
abbrev pub end_with : Receipt → Tally → Option ServeFault
end_with (FromPeer from bytes) tally = None
end_with (FromClient client bytes (Some moment)) tally = None
end_with (FromClient client bytes None) tally = Some ClockFault
end_with Nothing tally = None
end_with Failure tally = if nat_eq tally.faults 16 then Some PortFault else None

-- the run with a receive
abbrev pub run_with_receipt : Receipt → Run → Run
run_with_receipt receipt run =
    let tally = tally_with receipt run.tally in
    record run {
      entries = run.entries ++ entry_of receipt ∷ [];
      tally = tally;
      end = end_with receipt tally;
    }

-- the tick after each 64th datagram
abbrev pub tick_at : ℕ → List NodeEvent
tick_at received = if nat_eq (received % 64) 0 then Tick ∷ [] else []

-- The events of a turn under a key. The turn's datagram, if it has one, is number `received`. The events are the
-- datagram and the tick after each 64th, or the tick of a quiet turn.
abbrev pub events_of_turn : List ℕ → ℕ → Receipt → List NodeEvent
events_of_turn key received (FromPeer from bytes) = Peer from (envelope_at key bytes) ∷ tick_at received
events_of_turn key received (FromClient client bytes (Some moment)) = Client client moment bytes ∷ tick_at received
events_of_turn key received (FromClient client bytes None) = []
events_of_turn key received Nothing = Tick ∷ []
events_of_turn key received Failure = []

-- the run with another turn
abbrev pub run_with_turn : Member → Receipt → Run → Run
run_with_turn member receipt run =
    let received = run_with_receipt receipt run in
    run_with_events member (events_of_turn member.key received.tally.received receipt) received

-- the next run, if no fault has ended the run
abbrev pub while_going : Option ServeFault → Run → Run → Run
while_going None next run = next
while_going (Some fault) next run = run

-- the run with the turns, in order
abbrev pub run_with_turns : Member → List Receipt → Run → Run
run_with_turns member [] run = run
run_with_turns member (receipt ∷ receipts) run =
    run_with_turns member receipts (while_going run.end (run_with_turn member receipt run) run)

-- ---- A batch of turns

-- the number of datagrams received, with the receipt
abbrev pub received_with : Receipt → ℕ → ℕ
received_with (FromPeer from bytes) received = received + 1
received_with (FromClient client bytes moment) received = received + 1
received_with Nothing received = received
received_with Failure received = received

-- the number of datagrams received, with the receipts
abbrev pub received_after : List Receipt → ℕ → ℕ
received_after [] received = received
received_after (receipt ∷ receipts) received = received_after receipts (received_with receipt received)

-- the events of turns with the receipts, after the given number of datagrams
abbrev pub events_of_turns : List ℕ → ℕ → List Receipt → List NodeEvent
events_of_turns key received [] = []
events_of_turns key received (receipt ∷ receipts) =
    let count = received_with receipt received in
    events_of_turn key count receipt ++ events_of_turns key count receipts

-- the run with the receives, in order
abbrev pub run_with_receipts : List Receipt → Run → Run
run_with_receipts [] run = run
run_with_receipts (receipt ∷ receipts) run = run_with_receipts receipts (run_with_receipt receipt run)

-- the run with another batch: all its receives, followed by the events of all of them
abbrev pub run_with_batch : Member → List Receipt → Run → Run
run_with_batch member batch run =
    run_with_events member (events_of_turns member.key run.tally.received batch) (run_with_receipts batch run)

-- the run with the batches, in order
abbrev pub run_with_batches : Member → List (List Receipt) → Run → Run
run_with_batches member [] run = run
run_with_batches member (batch ∷ batches) run =
    run_with_batches member batches (while_going run.end (run_with_batch member batch run) run)

-- the receipts of the batches, in order
abbrev pub receipts_in : List (List Receipt) → List Receipt
receipts_in [] = []
receipts_in (batch ∷ batches) = batch ++ receipts_in batches

-- The receipt ends its batch. A datagram, which is number `received`, does so if a tick follows it or the clock told no
-- time. A quiet turn and a fault do so too.
abbrev pub ends_batch : ℕ → Receipt → Bool
ends_batch received (FromPeer from bytes) = nat_eq (received % 64) 0
ends_batch received (FromClient client bytes (Some moment)) = nat_eq (received % 64) 0
ends_batch received (FromClient client bytes None) = true
ends_batch received Nothing = true
ends_batch received Failure = true

-- none of the receipts ends a batch
abbrev pub GoesOn : ℕ → List Receipt → Type 0
GoesOn received [] = ⊤
GoesOn received (receipt ∷ receipts) =
    let count = received_with receipt received in
    (ends_batch count receipt ≡ false) × GoesOn count receipts

-- The receives of a batch, after the given number of datagrams: at least one, and only the last may end the batch.
pub record IsBatch (received : ℕ) (batch : List Receipt) : Type 0 where
  pub before : List Receipt
  pub last : Receipt
  pub is : batch ≡ before ++ last ∷ []
  pub goes_on : GoesOn received before

-- consecutive batches
abbrev pub AreBatches : ℕ → List (List Receipt) → Type 0
AreBatches received [] = ⊤
AreBatches received (batch ∷ batches) = IsBatch received batch × AreBatches (received_after batch received) batches

-- the offers among the entries
abbrev pub offers_in : List PortEvent → List PortEvent
offers_in entries = filter (λ entry. not (is_receive entry)) entries

-- two runs with the same result: they differ at most in the order of receives relative to offers
pub record ComesToTheSame (run other : Run) : Type 0 where
  pub node : run.node ≡ other.node
  pub offers : offers_in run.entries ≡ offers_in other.entries
  pub receives : receives_in run.entries ≡ receives_in other.entries
  pub tally : run.tally ≡ other.tally
  pub end : run.end ≡ other.end

-- ---- Faults of the port

-- a receive that failed
abbrev pub is_failure : Receipt → Bool
is_failure (FromPeer from bytes) = false
is_failure (FromClient client bytes moment) = false
is_failure Nothing = false
is_failure Failure = true

-- the receipts without the failed receives
abbrev pub without_failures : List Receipt → List Receipt
without_failures receipts = filter (λ receipt. not (is_failure receipt)) receipts

-- two runs with the same node, the same offers and the same counts
pub record DoesTheSame (a b : Run) : Type 0 where
  pub node : a.node ≡ b.node
  pub offers : offers_in a.entries ≡ offers_in b.entries
  pub received : a.tally.received ≡ b.tally.received
  pub replied : a.tally.replied ≡ b.tally.replied
