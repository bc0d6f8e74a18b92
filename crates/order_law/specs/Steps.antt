-- The steps of one node, in the order in which they happened: what its port received and offered, and when its process
-- committed. A process has its own numbers for tokens, and a key of its own at its port.
use Rattle.std.specs.Prelude.{◌≡◌, ℕ, nat_lt, Bool, true, false, List, [], ◌∷◌, ◌++◌, map, Option}
use Rattle.floor_store.specs.Content.{Content}
use Rattle.vote_core.specs.Schedule.{Envelope, envelope_from, last_boot}
use Rattle.vote_wire.specs.Datagram.{datagram_bytes}
use Rattle.datagram_port.specs.Port.{Offered, PortEvent}
use Rattle.datagram_port.specs.declared.port.Sender.TheVariants.{Client as ToLine, Peer as ToMember}
use Rattle.oath_node.specs.Machine.{Made, NodeEvent, NodeState, Reply, opened_node}
use Rattle.oath_node.specs.Turns.{Receipt, entry_of, events_of_turn, received_with}
use Rattle.book_law.specs.Lives.{Action, Loses as LosesStore, Offers, Opens, Remakes, Setting, Stops, Store, Takes, Terms, do_fit, made_by_input, seen_in, store_in_next_boot, store_under, store_with_rows}
use Rattle.book_law.specs.Uses.{IsWriting, clearing, state_cleared, written_store}

-- ---- What a process says

-- an output of a process to its port: an envelope under its own number, or the bytes of an answer to a client
pub data Telling : Type 0 where
  Sends : (envelope : Envelope) → Telling
  Replies : (client : ℕ) (bytes : List ℕ) → Telling

-- the reply to a client
abbrev pub telling_of_reply : Reply → Telling
telling_of_reply reply = Replies reply.client reply.bytes

-- what the result of an input says: the envelopes first, and then the replies
abbrev pub tellings_of : ℕ → Made → List Telling
tellings_of node made =
    map (λ (envelope : Envelope). Sends envelope) (map (envelope_from node) made.sends)
    ++ map telling_of_reply made.replies

-- the entry of an output in the port's record, encoded under the port's key
abbrev pub offer_of_telling : List ℕ → Telling → PortEvent
offer_of_telling port (Sends envelope) =
    Offered (ToMember envelope.receiver) (datagram_bytes port envelope.sender envelope.receiver envelope.message)
offer_of_telling port (Replies client bytes) = Offered (ToLine client) bytes

-- ---- Steps

-- A step of a node.
--   Starts: a process opens the node's store under the terms. It speaks to its port under the key.
--   Hears: the port hands in the next receipt of a batch.
--   Commits: the process took the inputs of its batch, and the store has their change.
--   Says: the process offers its next output to the port.
--   Pauses: the turns end and begin again, between two batches. An operator had the process clear the gate of a token,
-- if there is one.
--   Ends: the process ends, in whatever way. It took the first inputs of its batch, and the store has their change.
--   Does: a command writes to the store of the node without a process, or a process fails to open it.
--   Loses: the node has lost its store. Its process ends.
--   Gets: a node that has lost its store gets another one with the boot. It has rows for the given tokens, with floors
-- by token.
pub data Step : Type 0 where
  Starts : (terms : Terms) (port : List ℕ) → Step
  Hears : (receipt : Receipt) → Step
  Commits : (inputs : List NodeEvent) → Step
  Says : (telling : Telling) → Step
  Pauses : (cleared : Option ℕ) → Step
  Ends : (kept : List NodeEvent) → Step
  Does : (action : Action) → Step
  Loses : Step
  Gets : (boot : ℕ) (given : List ℕ) (floor : ℕ → ℕ) → Step

-- A process between two steps: what it started with, and its machine. Its port has received a number of datagrams.
-- It has heard inputs of its batch that it didn't take, and it still has to say the outputs `waiting`.
pub record Live : Type 0 where
  pub terms : Terms
  pub port : List ℕ
  pub found : Store
  pub state : NodeState
  pub received : ℕ
  pub heard : List NodeEvent
  pub waiting : List Telling

-- A node between two steps: without a process, or with one, or without its store. The last has its former store with a
-- boot that no process opened.
pub data Place : Type 0 where
  Closed : (store : Store) → Place
  Open : (live : Live) → Place
  Gone : (former : Store) → Place

-- the node has lost its store
abbrev pub is_gone : Place → Bool
is_gone (Closed store) = false
is_gone (Open live) = false
is_gone (Gone former) = true

-- the process that started with the store
abbrev pub live_at : Terms → List ℕ → Store → Live
live_at terms port store = record {
  terms = terms;
  port = port;
  found = store;
  state = opened_node (seen_in store terms.seats);
  received = 0;
  heard = [];
  waiting = [];
}

-- the process after a receipt
abbrev pub live_heard : Live → Receipt → Live
live_heard live receipt =
    let count = received_with receipt live.received in
    record live { received = count; heard = live.heard ++ events_of_turn live.port count receipt }

-- the process after an input
abbrev pub live_with : Setting → ℕ → Live → NodeEvent → Live
live_with setting node live input =
    let made = made_by_input setting live.terms node input live.state in
    record live { state = made.state; waiting = live.waiting ++ tellings_of node made }

-- the process after the inputs, in order
abbrev pub live_taken : Setting → ℕ → Live → List NodeEvent → Live
live_taken setting node live [] = live
live_taken setting node live (input ∷ inputs) =
    live_taken setting node (live_with setting node live input) inputs

-- the process without the inputs that it heard
abbrev pub live_done : Live → Live
live_done live = record live { heard = [] }

-- all but the first of the outputs
abbrev pub later_tellings : List Telling → List Telling
later_tellings [] = []
later_tellings (telling ∷ waiting) = waiting

-- The step is the node's next one. A process takes its batch in whole, says all of that before it hears more, and in
-- order. It may end at any moment. When a lost store may be replaced is a rule over all nodes.
abbrev pub IsStep : Setting → ℕ → Place → Step → Type 0
IsStep setting node (Closed store) (Starts terms port) =
    (do_fit terms store ≡ true) × (nat_lt store.content.boot last_boot ≡ true)
IsStep setting node (Closed store) (Does action) = IsWriting node action
IsStep setting node (Open live) (Hears receipt) = live.waiting ≡ []
IsStep setting node (Open live) (Commits inputs) = inputs ≡ live.heard
IsStep setting node (Open live) (Says telling) =
    (rest : List Telling) × (live.waiting ≡ telling ∷ rest)
IsStep setting node (Open live) (Pauses cleared) = (live.heard ≡ []) × (live.waiting ≡ [])
IsStep setting node (Open live) (Ends kept) = (later : List NodeEvent) × (live.heard ≡ kept ++ later)
IsStep setting node (Closed store) Loses = Unit {0}
IsStep setting node (Open live) Loses = Unit {0}
IsStep setting node (Gone former) (Gets boot given floor) = Unit {0}
IsStep setting node place step = ⊥

-- the node after the step
abbrev pub place_after : Setting → ℕ → Place → Step → Place
place_after setting node (Closed store) (Starts terms port) = Open (live_at terms port store)
place_after setting node (Closed store) (Does action) = Closed (written_store setting action store)
place_after setting node (Open live) (Hears receipt) = Open (live_heard live receipt)
place_after setting node (Open live) (Commits inputs) =
    Open (live_done (live_taken setting node live inputs))
place_after setting node (Open live) (Says telling) =
    Open (record live { waiting = later_tellings live.waiting })
place_after setting node (Open live) (Pauses cleared) =
    Open (record live { state = state_cleared live.terms cleared live.state; received = 0 })
place_after setting node (Open live) (Ends kept) =
    let last = live_taken setting node live kept in
    Closed (store_under last.terms.seats last.state.content last.found)
place_after setting node (Closed store) Loses = Gone (store_in_next_boot store)
place_after setting node (Open live) Loses =
    Gone (store_in_next_boot (store_under live.terms.seats live.state.content live.found))
place_after setting node (Gone former) (Gets boot given floor) = Closed (store_with_rows boot given floor)
place_after setting node place step = place

-- ---- A node's life

-- the steps are the node's, one after the other
abbrev pub AreSteps : Setting → ℕ → Place → List Step → Type 0
AreSteps setting node place [] = Unit {0}
AreSteps setting node place (step ∷ steps) =
    IsStep setting node place step × AreSteps setting node (place_after setting node place step) steps

-- the node after the steps
abbrev pub place_in_end : Setting → ℕ → Place → List Step → Place
place_in_end setting node place [] = place
place_in_end setting node place (step ∷ steps) =
    place_in_end setting node (place_after setting node place step) steps

-- the entry of a step in the record of the port under the key
abbrev pub entry_of_step : List ℕ → Step → List PortEvent
entry_of_step port (Hears receipt) = entry_of receipt ∷ []
entry_of_step port (Says telling) = offer_of_telling port telling ∷ []
entry_of_step port step = []

-- the record of the port, in the order of the steps
abbrev pub entries_of_steps : List ℕ → List Step → List PortEvent
entries_of_steps port [] = []
entries_of_steps port (step ∷ steps) = entry_of_step port step ++ entries_of_steps port steps

-- ---- Actions

-- the actions in which the node takes the inputs
abbrev pub takings : ℕ → List NodeEvent → List Action
takings node [] = []
takings node (input ∷ inputs) = Takes node input ∷ takings node inputs

-- The actions of a step. Inputs are taken where they are committed, and not where they are heard.
abbrev pub actions_of : ℕ → Step → List Action
actions_of node (Starts terms port) = Opens node terms ∷ []
actions_of node (Hears receipt) = []
actions_of node (Commits inputs) = takings node inputs
actions_of node (Says telling) = Offers node ∷ []
actions_of node (Pauses cleared) = clearing node cleared
actions_of node (Ends kept) = takings node kept ++ Stops node ∷ []
actions_of node (Does action) = action ∷ []
actions_of node Loses = LosesStore node ∷ []
actions_of node (Gets boot given floor) = Remakes node boot given floor ∷ []

-- the step neither starts nor ends a process, and is no command's
abbrev pub IsOfProcess : Step → Type 0
IsOfProcess (Hears receipt) = Unit {0}
IsOfProcess (Commits inputs) = Unit {0}
IsOfProcess (Says telling) = Unit {0}
IsOfProcess (Pauses cleared) = Unit {0}
IsOfProcess step = ⊥

-- all of the steps are of one process
abbrev pub AreOfProcess : List Step → Type 0
AreOfProcess [] = Unit {0}
AreOfProcess (step ∷ steps) = IsOfProcess step × AreOfProcess steps

-- the tokens whose gates were cleared in the pauses of the steps, one for each pause, if there is one
abbrev pub cleared_in : List Step → List (Option ℕ)
cleared_in [] = []
cleared_in (Pauses cleared ∷ steps) = cleared ∷ cleared_in steps
cleared_in (step ∷ steps) = cleared_in steps

-- A process that opened the store `found` under the terms and left what it saw of it has made steps. Its port recorded
-- the entries, in the order of the steps. It paused for each of the tokens, and cleared its gate, if it is one.
pub record HasSteps (setting : Setting) (node : ℕ) (terms : Terms) (port : List ℕ) (found : Store)
    (tokens : List (Option ℕ)) (entries : List PortEvent) (left : Content) : Type 0 where
  pub steps : List Step
  pub kept : List NodeEvent
  pub of_one : AreOfProcess steps
  pub are : AreSteps setting node (Closed found) (Starts terms port ∷ steps ++ Ends kept ∷ [])
  pub ends : place_in_end setting node (Closed found) (Starts terms port ∷ steps ++ Ends kept ∷ [])
      ≡ Closed (store_under terms.seats left found)
  pub recorded : entries_of_steps port steps ≡ entries
  pub cleared : cleared_in steps ≡ tokens
