-- The effects of a run of turns on a node, its port and its clock.
use Rattle.std.specs.Prelude.{◌≡◌, ◌⊎◌, ⊤, ℕ, ◌+◌, ◌<◌, ◌≤◌, Bool, false, List, [], ◌∷◌, ◌++◌, length, map, take, Option, Some, None, Result, Ok, Err, OnOk}
use Rattle.std.specs.Option.{option_map}
use Rattle.floor_store.specs.Content.{Content}
use Rattle.floor_store.specs.Held.{Held, IsSettled}
use Rattle.oath_node.specs.Calls.{CommitsNode, Takes}
use Rattle.oath_node.specs.Hosted.{Hosted, IsSameNode, is_waiting, state_of}
use Rattle.oath_node.specs.Machine.{NodeEvent}
use Rattle.oath_node.specs.declared.fault.NodeFault.{NodeFault}
use Rattle.datagram_port.specs.Port.{Grows, PortEvent}
use Rattle.oath_node.specs.Turns.{AreBatches, Member, Receipt, Run, entry_of, events_of_turns, member_of, moments_in, receipts_in, receives_in, run_at, run_with_batches, run_with_events, run_with_receipts}
use Rattle.oath_node.specs.declared.serve_fault.ServeFault.{ServeFault}
use Rattle.oath_node.specs.declared.serve_fault.ServeFault.TheVariants.{Node, Port, Clock}
use Rattle.oath_node.specs.declared.turns.Served.{Served}
use Rattle.oath_node.specs.declared.turns.Tally.{Tally}

-- the counts that a run returns
abbrev pub served_in : Tally → Served
served_in tally = record { received = tally.received; replied = tally.replied }

-- The node is the run's, and its port's record has grown by the run's entries.
pub record Stands {S : Type 0} (held : S → Held) (first : Option (List PortEvent)) (now : Hosted S)
    (kept : Option (List PortEvent)) (run : Run) : Type 0 where
  pub state : state_of held now ≡ run.node
  pub entries : Grows first kept run.entries

-- a node takes the events of a batch and fails at the first one, or at the commit if there is none
abbrev pub FailsNext : {S : Type 0} → (S → Held) → Hosted S → Hosted S → List NodeEvent → NodeFault → Type 0
FailsNext held before new [] fault = CommitsNode {A = Unit {0}} held before new (Err fault)
FailsNext held before new (event ∷ later) fault = Takes held before new event (Err fault)

-- A run has received a batch with the events. Its node takes the first of them, and fails at the next one or at the
-- commit. The port gets no output of the batch.
pub record FailsAmong {S : Type 0} (held : S → Held) (first : Option (List PortEvent)) (member : Member) (run : Run)
    (events : List NodeEvent) (new : Hosted S) (entries : Option (List PortEvent)) (fault : NodeFault) : Type 0 where
  pub done : List NodeEvent
  pub later : List NodeEvent
  pub events_are : events ≡ done ++ later
  -- the node after the events that it took
  pub before : Hosted S
  pub state : state_of held before ≡ (run_with_events member done run).node
  pub fails : FailsNext held before new later fault
  pub kept : Grows first entries run.entries

-- the content is the machine's after some prefix of the events
pub record IsAmong (member : Member) (run : Run) (events : List NodeEvent) (content : Content) : Type 0 where
  pub count : ℕ
  pub within : count ≤ length events
  pub is : content ≡ (run_with_events member (take count events) run).node.content

-- a stop leaves only contents of the run's machine after some prefix of the events
abbrev pub LeavesAmong : Held → Member → Run → List NodeEvent → Type 0
LeavesAmong store member run events = (content : Content) → store.leaves content → IsAmong member run events content

-- the run of a node over the batches, from its start
abbrev pub run_over : {S : Type 0} → (S → Held) → Hosted S → List (List Receipt) → Run
run_over held old batches = run_with_batches (member_of old) batches (run_at (state_of held old))

-- A node fails in the last of the batches, and the batches before it are served.
pub record FailsAfter {S : Type 0} (held : S → Held) (old new : Hosted S) (first entries : Option (List PortEvent))
    (batches : List (List Receipt)) (fault : NodeFault) : Type 0 where
  pub before : List (List Receipt)
  pub last : List Receipt
  pub batches_are : batches ≡ before ++ last ∷ []
  pub going : (run_over held old before).end ≡ None
  pub fails :
      let run = run_with_receipts last (run_over held old before) in
      let events = events_of_turns old.key (run_over held old before).tally.received last in
      FailsAmong held first (member_of old) run events new entries fault
  -- the contents that a stop leaves, if before the run a stop left only the store's content
  pub left : IsSettled (held old.store)
      → let events = events_of_turns old.key (run_over held old before).tally.received last in
      LeavesAmong (held new.store) (member_of old) (run_over held old before) events

-- The end of a run: it continued to its end and returned its counts, or it ended with a fault.
abbrev pub EndsSo : {S : Type 0} → (S → Held) → Hosted S → Hosted S → Option (List PortEvent)
    → Option (List PortEvent) → List (List Receipt) → Result Served ServeFault → Type 0
EndsSo held old new first entries batches (Ok served) =
    let run = run_over held old batches in
    Stands held first new entries run × (run.end ≡ None) × (served ≡ served_in run.tally)
EndsSo held old new first entries batches (Err (Node fault)) = FailsAfter held old new first entries batches fault
EndsSo held old new first entries batches (Err Port) =
    let run = run_over held old batches in
    Stands held first new entries run × (run.end ≡ Some Port)
EndsSo held old new first entries batches (Err Clock) =
    let run = run_over held old batches in
    Stands held first new entries run × (run.end ≡ Some Clock)

-- a stop leaves only the store's content, except after a fault of the node
abbrev pub EndsSettled : {A : Type 0} → Held → Result A ServeFault → Type 0
EndsSettled store (Ok done) = IsSettled store
EndsSettled store (Err (Node fault)) = ⊤
EndsSettled store (Err Port) = IsSettled store
EndsSettled store (Err Clock) = IsSettled store

-- A call that serves a node for `turns` turns, from `old` to `new`. The records of the port are `first` before it and
-- `entries` after it, and the clock's are `asked` and `told`.
pub record Serves {S : Type 0} (held : S → Held) (old new : Hosted S) (first entries : Option (List PortEvent))
    (asked told : Option (List (Option ℕ))) (turns : ℕ) (result : Result Served ServeFault) : Type 0 where
  -- The receipts of its turns, batch by batch. The clock was asked for exactly these.
  pub batches : List (List Receipt)
  pub formed : AreBatches 0 batches
  pub moments : Grows asked told (moments_in (receipts_in batches))
  -- The receives are exactly these: on Ok one for each turn.
  pub receives : Grows (option_map receives_in first) (option_map receives_in entries)
      (map entry_of (receipts_in batches))
  pub most : length (receipts_in batches) ≤ turns
  pub all : OnOk result (length (receipts_in batches) ≡ turns)
  -- If the store is clean, the node, the offers and the end are exactly the run's.
  pub exact : (held new.store).is_clean → EndsSo held old new first entries batches result
  -- If a stop left only the store's content before, it does so at the end, except after a fault of the node.
  pub settled : (held new.store).is_clean → IsSettled (held old.store) → EndsSettled (held new.store) result
  pub same : IsSameNode old new

-- The clock ends a call. It served some turns before, fewer than `turns`, and the node is the one after these. The
-- port's record may have more receives before the last offers.
pub record EndsByClock {S : Type 0} (held : S → Held) (old new : Hosted S) (first : Option (List PortEvent))
    (asked : Option (List (Option ℕ))) (turns : ℕ) : Type 0 where
  pub count : ℕ
  pub within : count < turns
  pub served : Served
  pub kept : Option (List PortEvent)
  pub told : Option (List (Option ℕ))
  pub before : Serves held old new first kept asked told count (Ok served)

-- ---- A call that may end early

-- `most` of the given number of turns are served. `answers` holds for the number that is left and for the last answer
-- to whether the turns end there. If that was no, none is left.
pub record EndsTurns (turns most : ℕ) (answers : ℕ → Bool → Type 0) : Type 0 where
  pub left : ℕ
  pub sum : most + left ≡ turns
  pub is_early : Bool
  -- without turns there was no question
  pub asked : (turns ≡ 0) ⊎ ((0 < most) × answers left is_early)
  pub all : is_early ≡ false → left ≡ 0

-- A call that serves a node for `turns` turns, or ends early. `answers` holds for the number of turns that are left,
-- for whether a client's line waits then, and for the last answer. All else is as `Serves` has it.
pub record ServesUntil {S : Type 0} (held : S → Held) (old new : Hosted S) (first entries : Option (List PortEvent))
    (asked told : Option (List (Option ℕ))) (turns : ℕ) (answers : ℕ → Bool → Bool → Type 0)
    (result : Result Served ServeFault) : Type 0 where
  pub most : ℕ
  pub within : most ≤ turns
  pub ends : OnOk result (EndsTurns turns most (λ left. answers left (is_waiting new)))
  pub serves : Serves held old new first entries asked told most result
