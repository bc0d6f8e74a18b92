-- The steps of a batch. Only private contracts cite it: no public contract depends on it.
use Rattle.std.specs.Prelude.{◌≡◌, ◌⊎◌, ⊤, ℕ, ◌+◌, ◌*◌, ◌%◌, ◌^◌, ◌<◌, ◌≤◌, nat_eq, Bool, true, false, if◌then◌else◌, List, [], ◌∷◌, ◌++◌, length, map, Option, Some, None, Result, Ok, Err, IfOk, OnOk}
use Rattle.std.specs.Option.{option_map}
use Rattle.floor_store.specs.Content.{Content}
use Rattle.floor_store.specs.Held.{Held, IsSettled}
use Rattle.oath_node.specs.Calls.{CommitsNode, Takes}
use Rattle.oath_node.specs.Hosted.{Hosted, IsSameNode, envelope_at, state_of}
use Rattle.oath_node.specs.Machine.{NodeEvent, Client, Peer, Tick}
use Rattle.oath_node.specs.Outputs.{OutputsRecord}
use Rattle.oath_node.specs.declared.fault.NodeFault.{NodeFault}
use Rattle.oath_node.specs.declared.item.Item.{Item}
use Rattle.oath_node.specs.declared.item.Item.TheVariants.{Datagram, Reply}
use Rattle.datagram_port.specs.Port.{Grows, PortEvent, Received}
use Rattle.oath_node.specs.TurnServing.{EndsSettled, FailsAmong, FailsNext, IsAmong, LeavesAmong, Stands}
use Rattle.oath_node.specs.Turns.{GoesOn, IsBatch, Member, Receipt, FromPeer, FromClient, Nothing, Failure, Run, entry_of, events_of_turns, member_of, moments_for, moments_in, offer_of, receives_in, run_with_batch, run_with_events, run_with_receipts, tally_with, with_replies}
use Rattle.oath_node.specs.declared.serve_fault.ServeFault.{ServeFault}
use Rattle.oath_node.specs.declared.serve_fault.ServeFault.TheVariants.{Node, Port, Clock}
use Rattle.datagram_port.specs.declared.port.Sender.{Sender}
use Rattle.oath_node.specs.declared.turns.BatchEnd.{BatchEnd}
use Rattle.oath_node.specs.declared.turns.BatchEnd.TheVariants as ends
use Rattle.oath_node.specs.declared.turns.Gathered.{Gathered}
use Rattle.oath_node.specs.declared.turns.Tally.{Tally}

-- the number of replies among the items
abbrev pub reply_count : List Item → ℕ
reply_count [] = 0
reply_count (Datagram to bytes ∷ items) = reply_count items
reply_count (Reply client bytes ∷ items) = reply_count items + 1

-- the items of the waiting outputs, in order
abbrev pub items_in : List (Option OutputsRecord) → List Item
items_in [] = []
items_in (None ∷ waiting) = items_in waiting
items_in (Some outputs ∷ waiting) = outputs.items ++ items_in waiting

-- a node, its port's record and a tally, at one moment
pub record Scene (S : Type 0) : Type 0 where
  pub node : Hosted S
  pub entries : Option (List PortEvent)
  pub tally : Tally

-- the scene of a node, a port and a tally
abbrev pub scene : {S P : Type 0} → (P → Option (List PortEvent)) → Hosted S → P → Tally → Scene S
scene events node port tally = record { node = node; entries = events port; tally = tally }

-- the node's store is clean
abbrev pub IsClean : {S : Type 0} → (S → Held) → Scene S → Type 0
IsClean held now = (held now.node.store).is_clean

-- the scene is the run's, including the tally
pub record IsOf {S : Type 0} (held : S → Held) (first : Option (List PortEvent)) (now : Scene S)
    (run : Run) : Type 0 where
  pub stands : Stands held first now.node now.entries run
  pub tally : now.tally ≡ run.tally

-- ---- Events

-- the machine of a run made the items of its events, and its node is `new`
pub record HasMade {S : Type 0} (held : S → Held) (member : Member) (run : Run) (events : List NodeEvent)
    (items : List Item) (new : Hosted S) : Type 0 where
  pub state : state_of held new ≡ (run_with_events member events run).node
  pub entries : (run_with_events member events run).entries ≡ run.entries ++ map offer_of items
  pub tally : (run_with_events member events run).tally ≡ with_replies (reply_count items) run.tally

-- A node takes the events one after another, and leaves the commit to its caller. `items` are its datagrams and
-- replies.
pub record TakesAll {S : Type 0} (held : S → Held) (old new : Hosted S) (events : List NodeEvent)
    (items : List Item) : Type 0 where
  pub same : IsSameNode old new
  pub clean : (held new.store).is_clean → (held old.store).is_clean
  pub few : (held new.store).is_clean → length items ≤ 264 * length events
  pub made : (held new.store).is_clean → (run : Run) → state_of held old ≡ run.node
      → HasMade held (member_of old) run events items new
  -- a stop leaves a content that it could leave before, or the machine's content after some of the events
  pub left : (held new.store).is_clean → (run : Run) → state_of held old ≡ run.node → (content : Content)
      → (held new.store).leaves content
      → (held old.store).leaves content ⊎ IsAmong (member_of old) run events content

-- ---- A receive

-- the events of a receipt without its tick, under a key
abbrev pub datagram_events : List ℕ → Receipt → List NodeEvent
datagram_events key (FromPeer from bytes) = Peer from (envelope_at key bytes) ∷ []
datagram_events key (FromClient client bytes (Some moment)) = Client client moment bytes ∷ []
datagram_events key (FromClient client bytes None) = []
datagram_events key Nothing = []
datagram_events key Failure = []

-- the step that follows datagram number `received` in its batch
abbrev pub end_after : ℕ → BatchEnd
end_after received = if nat_eq (received % 64) 0 then ends.Tick else ends.More

-- the step that follows a receipt in its batch; the tally includes the receipt
abbrev pub end_of : Receipt → Tally → BatchEnd
end_of (FromPeer from bytes) tally = end_after tally.received
end_of (FromClient client bytes (Some moment)) tally = end_after tally.received
end_of (FromClient client bytes None) tally = ends.Clock
end_of Nothing tally = ends.Tick
end_of Failure tally = if nat_eq tally.faults 16 then ends.Port else ends.Commit

-- the tick that is due at the end of a batch, if any
abbrev pub ticks_of : BatchEnd → List NodeEvent
ticks_of ends.More = []
ticks_of ends.Commit = []
ticks_of ends.Tick = Tick ∷ []
ticks_of ends.Port = []
ticks_of ends.Clock = []

-- the tally with another datagram
abbrev pub tally_with_datagram : Tally → Tally
tally_with_datagram tally = record tally { received = tally.received + 1; faults = 0 }

-- The receipt is a datagram. The step after it is any datagram's, or the end by the clock.
pub record IsDatagram (receipt : Receipt) (is_timed : Bool) : Type 0 where
  pub tally : (tally : Tally) → tally_with receipt tally ≡ tally_with_datagram tally
  pub end : (tally : Tally) → end_of receipt tally ≡ (if is_timed then end_after tally.received else ends.Clock)

-- the outcome of a datagram that a node takes
abbrev pub DatagramEnds : {S : Type 0} → (S → Held) → Hosted S → Hosted S → Receipt
    → Result (Option OutputsRecord) NodeFault → Type 0
DatagramEnds held old new receipt (Ok (Some outputs)) =
    IsDatagram receipt true × TakesAll held old new (datagram_events old.key receipt) outputs.items
DatagramEnds held old new receipt (Ok None) =
    IsDatagram receipt false × TakesAll held old new (datagram_events old.key receipt) []
DatagramEnds held old new receipt (Err fault) =
    IsDatagram receipt true
    × ((event : NodeEvent) × (datagram_events old.key receipt ≡ event ∷ []) × Takes held old new event (Err fault))

-- A node takes a datagram of the sender.
pub record TakesDatagram {S : Type 0} (held : S → Held) (old new : Hosted S) (sender : Sender) (bytes : List ℕ)
    (asked told : Option (List (Option ℕ))) (result : Result (Option OutputsRecord) NodeFault) : Type 0 where
  pub receipt : Receipt
  pub is : Received sender bytes ≡ entry_of receipt
  pub moments : Grows asked told (moments_for receipt)
  pub ends : DatagramEnds held old new receipt result

-- the events of at most one datagram are taken, or end in a fault
abbrev pub TakesOrFails : {A S : Type 0} → (S → Held) → Hosted S → Hosted S → List NodeEvent → List Item
    → Result A NodeFault → Type 0
TakesOrFails held old new events items (Ok done) = TakesAll held old new events items
TakesOrFails held old new events items (Err fault) =
    (event : NodeEvent) × (events ≡ event ∷ []) × Takes held old new event (Err fault)

-- A node takes a receipt.
pub record TakesReceipt {S : Type 0} (held : S → Held) (old new : Hosted S) (receipt : Receipt)
    (asked told : Option (List (Option ℕ))) (before after : Tally) (items : List Item)
    (result : Result BatchEnd NodeFault) : Type 0 where
  pub moments : Grows asked told (moments_for receipt)
  pub tally : after ≡ tally_with receipt before
  pub takes : TakesOrFails held old new (datagram_events old.key receipt) items result
  pub end : IfOk result (λ end. end ≡ end_of receipt after)

-- A node takes the receipt of a receive with the entry, and its outputs wait.
pub record TakesReceived {S : Type 0} (held : S → Held) (old new : Hosted S) (entry : PortEvent)
    (asked told : Option (List (Option ℕ))) (before after : Tally) (waited waits : List (Option OutputsRecord))
    (result : Result BatchEnd NodeFault) : Type 0 where
  pub receipt : Receipt
  pub is : entry ≡ entry_of receipt
  pub items : List Item
  pub takes : TakesReceipt held old new receipt asked told before after items result
  pub waits_for : OnOk result (items_in waits ≡ items_in waited ++ items)

-- ---- Consecutive receives

-- the tally with the receives
abbrev pub tally_after : List Receipt → Tally → Tally
tally_after [] tally = tally
tally_after (receipt ∷ receipts) tally = tally_after receipts (tally_with receipt tally)

-- Receives that don't end a batch, from one scene to another: the node takes their events, and its outputs wait.
pub record Gathers {S : Type 0} (held : S → Held) (old new : Scene S) (receipts : List Receipt)
    (asked told : Option (List (Option ℕ))) (items : List Item) : Type 0 where
  pub moments : Grows asked told (moments_in receipts)
  pub entries : Grows old.entries new.entries (map entry_of receipts)
  pub tally : new.tally ≡ tally_after receipts old.tally
  pub goes_on : GoesOn old.tally.received receipts
  pub takes : TakesAll held old.node new.node (events_of_turns old.node.key old.tally.received receipts) items

-- the result of a gathering without its count
abbrev pub end_in : Result Gathered NodeFault → Result BatchEnd NodeFault
end_in (Ok gathered) = Ok gathered.end
end_in (Err fault) = Err fault

-- The receives of a batch, without a tick that is due: all except the last, and the last.
pub record GathersBatch {S : Type 0} (held : S → Held) (old new : Scene S) (asked told : Option (List (Option ℕ)))
    (waits : List Item) (turns : ℕ) (result : Result Gathered NodeFault) : Type 0 where
  pub before : List Receipt
  pub last : Receipt
  pub between : Scene S
  pub said : Option (List (Option ℕ))
  pub items : List Item
  pub more : List Item
  pub first : Gathers held old between before asked said items
  pub entries : Grows between.entries new.entries (entry_of last ∷ [])
  pub takes : TakesReceipt held between.node new.node last said told between.tally new.tally more
      (end_in result)
  pub waits_are : OnOk result (waits ≡ items ++ more)
  pub count : IfOk result (λ gathered. gathered.turns ≡ length before + 1)
  pub most : length before + 1 ≤ turns

-- ---- The commit

-- A node takes the tick that is due, if any.
abbrev pub TakesTick : {S : Type 0} → (S → Held) → Hosted S → Hosted S → List NodeEvent
    → Result (Option OutputsRecord) NodeFault → Type 0
TakesTick held old new ticks (Ok last) = TakesAll held old new ticks (items_in (last ∷ []))
TakesTick held old new ticks (Err fault) =
    (event : NodeEvent) × (ticks ≡ event ∷ []) × Takes held old new event (Err fault)

-- A node that took the first of the events fails at the next one, or at the commit.
pub record FailsIn {S : Type 0} (held : S → Held) (old new : Hosted S) (events : List NodeEvent)
    (fault : NodeFault) : Type 0 where
  pub done : List NodeEvent
  pub later : List NodeEvent
  pub events_are : events ≡ done ++ later
  pub before : Hosted S
  pub items : List Item
  pub takes : TakesAll held old before done items
  pub fails : FailsNext held before new later fault

-- A node takes the events and commits the batch. The port gets the waiting outputs and the outputs of the events as
-- offers.
pub record Commits {S : Type 0} (held : S → Held) (old new : Scene S) (events : List NodeEvent)
    (waited : List Item) : Type 0 where
  pub between : Hosted S
  pub items : List Item
  pub takes : TakesAll held old.node between events items
  pub commits : CommitsNode {A = Unit {0}} held between new.node (Ok tt)
  pub entries : Grows old.entries new.entries (map offer_of (waited ++ items))
  pub few : new.tally.replied ≤ old.tally.replied + reply_count (waited ++ items)
  pub replies : old.tally.replied + reply_count (waited ++ items) < 2 ^ 64
      → new.tally.replied ≡ old.tally.replied + reply_count (waited ++ items)

-- the outcome of a batch after whose receives the events are due
abbrev pub SettlesSo : {S : Type 0} → (S → Held) → Scene S → Scene S → List NodeEvent → List Item
    → Result Unit NodeFault → Type 0
SettlesSo held old new events waited (Ok done) = Commits held old new events waited
SettlesSo held old new events waited (Err fault) =
    (new.entries ≡ old.entries) × (new.tally.replied ≡ old.tally.replied) × FailsIn held old.node new.node events fault

-- A step that settles a batch.
pub record SettlesBatch {S : Type 0} (held : S → Held) (old new : Scene S) (events : List NodeEvent)
    (waited : List Item) (result : Result Unit NodeFault) : Type 0 where
  pub received : new.tally.received ≡ old.tally.received
  pub faults : new.tally.faults ≡ old.tally.faults
  pub settles : SettlesSo held old new events waited result

-- ---- A batch

-- the outcome of a run with another batch, of a node with the given store before it
abbrev pub BatchEnds : {A S : Type 0} → (S → Held) → Option (List PortEvent) → Held → Member → Run → List Receipt
    → Scene S → Result A ServeFault → Type 0
BatchEnds held first store member run batch new (Ok done) =
    IsOf held first new (run_with_batch member batch run) × ((run_with_batch member batch run).end ≡ None)
BatchEnds held first store member run batch new (Err (Node fault)) =
    let events = events_of_turns member.key run.tally.received batch in
    FailsAmong held first member (run_with_receipts batch run) events new.node new.entries fault
    × (IsSettled store → LeavesAmong (held new.node.store) member run events)
BatchEnds held first store member run batch new (Err Port) =
    Stands held first new.node new.entries (run_with_batch member batch run)
    × ((run_with_batch member batch run).end ≡ Some Port)
BatchEnds held first store member run batch new (Err Clock) =
    Stands held first new.node new.entries (run_with_batch member batch run)
    × ((run_with_batch member batch run).end ≡ Some Clock)

-- A step that takes the receives, if any, commits them and offers their outputs.
pub record StepsBatch {A S : Type 0} (held : S → Held) (old new : Scene S) (batch : List Receipt)
    (asked told : Option (List (Option ℕ))) (result : Result A ServeFault) : Type 0 where
  pub same : IsSameNode old.node new.node
  pub clean : IsClean held new → IsClean held old
  pub moments : Grows asked told (moments_in batch)
  pub receives : Grows (option_map receives_in old.entries) (option_map receives_in new.entries) (map entry_of batch)
  pub received : new.tally.received ≡ (tally_after batch old.tally).received
  pub faults : OnOk result (new.tally.faults < 16)
  pub few : IsClean held new → new.tally.replied ≤ old.tally.replied + 528 * length batch
  pub settled : IsClean held new → EndsSettled (held new.node.store) result
  pub does : IsClean held new → old.tally.replied + 528 * length batch < 2 ^ 64
      → (first : Option (List PortEvent)) (run : Run) → IsOf held first old run → run.end ≡ None
      → BatchEnds held first (held old.node.store) (member_of old.node) run batch new result

-- The clock ends a batch. The node has taken all receives before the last one.
pub record EndsAtClock {S : Type 0} (held : S → Held) (old : Scene S) (new : Hosted S)
    (asked : Option (List (Option ℕ))) (batch : List Receipt) : Type 0 where
  pub before : List Receipt
  pub last : Receipt
  pub is : batch ≡ before ++ last ∷ []
  pub goes_on : GoesOn old.tally.received before
  pub kept : Option (List PortEvent)
  pub tally : Tally
  pub said : Option (List (Option ℕ))
  pub steps : StepsBatch {A = Unit {0}} held old (record { node = new; entries = kept; tally = tally }) before asked
      said (Ok tt)

-- the condition on a batch that the clock ended
abbrev pub ByClock : {A S : Type 0} → (S → Held) → Scene S → Hosted S → Option (List (Option ℕ)) → List Receipt
    → Result A ServeFault → Type 0
ByClock held old new asked batch (Ok done) = ⊤
ByClock held old new asked batch (Err (Node fault)) = ⊤
ByClock held old new asked batch (Err Port) = ⊤
ByClock held old new asked batch (Err Clock) = EndsAtClock held old new asked batch

-- A step that takes a batch of at most `turns` turns.
pub record TakesBatch {S : Type 0} (held : S → Held) (old new : Scene S) (asked told : Option (List (Option ℕ)))
    (turns : ℕ) (result : Result ℕ ServeFault) : Type 0 where
  pub batch : List Receipt
  pub is_batch : IsBatch old.tally.received batch
  pub most : length batch ≤ turns
  pub count : IfOk result (λ taken. taken ≡ length batch)
  pub steps : StepsBatch held old new batch asked told result
  pub clock : ByClock held old new.node asked batch result
