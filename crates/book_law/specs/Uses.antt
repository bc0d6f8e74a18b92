-- The uses of the nodes' stores, as the contracts of the calls state them, and the histories with these uses. A process
-- has its own numbers for tokens, also at its port, and a key of its own there. A translator below the port may turn
-- numbers into names.
use Rattle.std.specs.Prelude.{◌≡◌, ℕ, suc, ◌==◌, nat_lt, true, if◌then◌else◌, List, [], ◌∷◌, ◌++◌, map, Option, Some, None}
use Rattle.floor_store.specs.Content.{Content}
use Rattle.floor_store.specs.Held.{Held}
use Rattle.seated_store.specs.Seated.{SeatedRecord}
use Rattle.oath_node.specs.Hosted.{Hosted, config_of}
use Rattle.oath_node.specs.Machine.{NodeEvent, NodeState, opened_node}
use Rattle.oath_node.specs.Turns.{Member, Receipt, Run, entry_of, events_of_turns, offers_in, receives_in, run_at, run_with_events}
use Rattle.datagram_port.specs.Port.{Offered, PortEvent}
use Rattle.vote_wire.specs.Datagram.{datagram_bytes}
use Rattle.cluster_sim.specs.World.{Answer}
use Rattle.vote_core.specs.Schedule.{Envelope, is_member, last_boot}
use Rattle.datagram_port.specs.declared.port.Sender.TheVariants.{Client as ToLine, Peer as ToMember}
use Rattle.book_law.specs.Lives.{Action, Opens, FailsToOpen, Takes, Offers, Stops, Enrols, Unlocks, OpensGate, Raises, Output, Process, Setting, Store, Terms, ToClient, ToPeer, Down, Up, do_fit, made_boot, named_envelope, node_of_action, number_to_unlock, offers_by, place_in, places_of, process_after, process_opened, seen_in, state_unlocked, store_at, store_under, store_with_rows}
use Rattle.book_law.specs.Promises.{BelongsToAcceptance}

-- ---- A process

-- the member at a node of the setting, which speaks to its port under the key
abbrev pub member_at : Setting → Terms → List ℕ → ℕ → Member
member_at setting terms port node = record { config = terms.config; key = port; place = place_in setting node }

-- the run of a process over the events, after it opened the store
abbrev pub run_of : Setting → ℕ → Terms → List ℕ → Store → List NodeEvent → Run
run_of setting node terms port store events =
    run_with_events (member_at setting terms port node) events (run_at (opened_node (seen_in store terms.seats)))

-- A process of the node opened the store `found` under the terms. It took the first events of turns with the receives
-- of its port's record. The machine's offers in these events begin with the record's, and a stop leaves what the
-- machine has.
pub record IsProcess (setting : Setting) (node : ℕ) (terms : Terms) (port : List ℕ) (found : Store)
    (taken : List NodeEvent) (entries : List PortEvent) (left : Content) : Type 0 where
  pub fits : do_fit terms found ≡ true
  pub boot : nat_lt found.content.boot last_boot ≡ true
  pub receipts : List Receipt
  pub received : map entry_of receipts ≡ receives_in entries
  pub later : List NodeEvent
  pub events : events_of_turns port 0 receipts ≡ taken ++ later
  pub rest : List PortEvent
  pub offers : (run_of setting node terms port found taken).entries ≡ offers_in entries ++ rest
  pub leaves : (run_of setting node terms port found taken).node.content ≡ left

-- a process with these entries found a store, and left what it sees of it so
pub record WasProcess (setting : Setting) (node : ℕ) (terms : Terms) (port : List ℕ) (found : Store)
    (entries : List PortEvent) (left : Content) : Type 0 where
  pub taken : List NodeEvent
  pub is : IsProcess setting node terms port found taken entries left

-- ---- A process in parts

-- A part of a process: the inputs that it took, and the entries that its port recorded meanwhile. After them it cleared
-- the gate of a canonical token for an operator, if there is one.
pub record Part : Type 0 where
  pub taken : List NodeEvent
  pub entries : List PortEvent
  pub cleared : Option ℕ

-- the entries that the port recorded in the parts, in order
abbrev pub entries_in : List Part → List PortEvent
entries_in [] = []
entries_in (part ∷ parts) = part.entries ++ entries_in parts

-- The events and the offers that a part leaves out, before the given later parts. Only the last part leaves out any.
abbrev pub AreLeftOut : List Part → List NodeEvent → List PortEvent → Type 0
AreLeftOut [] later rest = Unit {0}
AreLeftOut (part ∷ parts) later rest = (later ≡ []) × (rest ≡ [])

-- the machine after the process cleared the token's gate, if there is a token
abbrev pub state_cleared : Terms → Option ℕ → NodeState → NodeState
state_cleared terms None state = state
state_cleared terms (Some token) state = state_unlocked (number_to_unlock terms token state) state

module _ (setting : Setting) (node : ℕ) (terms : Terms) (port : List ℕ) where
  -- the run of the machine over the events
  abbrev pub run_from : NodeState → List NodeEvent → Run
  run_from state events = run_with_events (member_at setting terms port node) events (run_at state)

  -- the machine after the part
  abbrev pub state_after_part : NodeState → Part → NodeState
  state_after_part state part = state_cleared terms part.cleared (run_from state part.taken).node

  -- A part from the machine on, before the given later parts. It took the first events of turns with the receives of
  -- its port's record. The machine's offers in these events begin with the record's.
  pub record IsPart (state : NodeState) (part : Part) (parts : List Part) : Type 0 where
    pub receipts : List Receipt
    pub received : map entry_of receipts ≡ receives_in part.entries
    pub later : List NodeEvent
    pub events : events_of_turns port 0 receipts ≡ part.taken ++ later
    pub rest : List PortEvent
    pub offers : (run_from state part.taken).entries ≡ offers_in part.entries ++ rest
    pub left_out : AreLeftOut parts later rest

  -- The parts from the machine on, each on what the part before it left. A stop leaves what the last machine has.
  abbrev pub AreParts : NodeState → List Part → Content → Type 0
  AreParts state [] left = state.content ≡ left
  AreParts state (part ∷ parts) left = IsPart state part parts × AreParts (state_after_part state part) parts left

  -- a process of the node that opened the store `found` under the terms, in parts
  pub record IsProcessIn (found : Store) (parts : List Part) (left : Content) : Type 0 where
    pub fits : do_fit terms found ≡ true
    pub boot : nat_lt found.content.boot last_boot ≡ true
    pub are : AreParts (opened_node (seen_in found terms.seats)) parts left

  -- A process in parts that found a store, and left what it sees of it so. After each part it cleared the gate of the
  -- token at the part's place in `tokens`, if there is one. Its port recorded the entries.
  pub record WasProcessIn (found : Store) (tokens : List (Option ℕ)) (entries : List PortEvent) (left : Content)
      : Type 0 where
    pub parts : List Part
    pub cleared : map (λ (part : Part). part.cleared) parts ≡ tokens
    pub recorded : entries_in parts ≡ entries
    pub is : IsProcessIn found parts left

-- ---- A node over a seated store

-- A node over a seated store is the process of the node under the terms, at its port's key. The store below has the
-- content of `found`, and the seats of the terms' tokens there.
pub record IsSeatedMember {S : Type 0} (held : S → Held) (setting : Setting) (node : ℕ) (terms : Terms) (port : List ℕ)
    (found : Store) (store : SeatedRecord S) (process : Hosted (SeatedRecord S)) : Type 0 where
  pub config : config_of process ≡ terms.config
  pub key : process.key ≡ port
  pub place : process.voter.place ≡ place_in setting node
  pub fits : do_fit terms found ≡ true
  pub content : found.content ≡ (held store.inner).content
  pub seats : places_of found terms.seats ≡ store.seats

-- ---- The uses of a store

-- A use of a node's store.
--   Serves: a process with the terms and the port's key took events of its machine. Its port recorded entries, and a
-- stop left what it sees of the store. The rows without a seat stay.
--   ServesInParts: the same of a process that operators had clear gates between its turns.
--   Writes: a process failed to open the store, or a command wrote to it.
pub data StoreUse : Type 0 where
  Serves : (terms : Terms) (port : List ℕ) (taken : List NodeEvent) (entries : List PortEvent) (left : Content)
      → StoreUse
  ServesInParts : (terms : Terms) (port : List ℕ) (parts : List Part) (left : Content) → StoreUse
  Writes : (action : Action) → StoreUse

-- the action writes to the store of the node without a process
abbrev pub IsWriting : ℕ → Action → Type 0
IsWriting node (FailsToOpen at raised) = at ≡ node
IsWriting node (Enrols at token floor) = at ≡ node
IsWriting node (Unlocks at token) = at ≡ node
IsWriting node (Raises at token floor) = at ≡ node
IsWriting node action = ⊥

-- the store after such an action
abbrev pub written_store : Setting → Action → Store → Store
written_store setting action store = store_at (process_after setting 0 action (Down store))

-- The uses of the node's store in order, from the given store on. Each process finds what the use before it left.
abbrev pub AreUses : Setting → ℕ → Store → List StoreUse → Type 0
AreUses setting node store [] = Unit {0}
AreUses setting node store (Serves terms port taken entries left ∷ uses) =
    IsProcess setting node terms port store taken entries left
    × AreUses setting node (store_under terms.seats left store) uses
AreUses setting node store (ServesInParts terms port parts left ∷ uses) =
    IsProcessIn setting node terms port store parts left
    × AreUses setting node (store_under terms.seats left store) uses
AreUses setting node store (Writes action ∷ uses) =
    IsWriting node action × AreUses setting node (written_store setting action store) uses

-- the first store of the node
abbrev pub first_store : Setting → ℕ → Store
first_store setting node = store_with_rows (made_boot setting node) [] (λ token. 0)

-- each node has such uses of its first store
abbrev pub AreAllUses : Setting → (ℕ → List StoreUse) → Type 0
AreAllUses setting uses = (node : ℕ) → AreUses setting node (first_store setting node) (uses node)

-- the store after the uses
abbrev pub store_after : Setting → List StoreUse → Store → Store
store_after setting [] store = store
store_after setting (Serves terms port taken entries left ∷ uses) store =
    store_after setting uses (store_under terms.seats left store)
store_after setting (ServesInParts terms port parts left ∷ uses) store =
    store_after setting uses (store_under terms.seats left store)
store_after setting (Writes action ∷ uses) store = store_after setting uses (written_store setting action store)

-- ---- A node of a history by itself

-- The process of a node that keeps its store, after the actions, the first of which has the given number. Only the
-- node's own actions change it.
unfoldable pub own_process : Setting → ℕ → ℕ → List Action → Process → Process
own_process setting node first [] process = process
own_process setting node first (action ∷ actions) process =
    own_process setting node (suc first) actions
    (if node == node_of_action action then process_after setting first action process else process)

-- the outputs that a node offers in the actions
unfoldable pub own_offers : Setting → ℕ → ℕ → List Action → Process → List Output
own_offers setting node first [] process = []
own_offers setting node first (action ∷ actions) process =
    (if node == node_of_action action then offers_by action process else [])
    ++ own_offers setting node (suc first) actions
    (if node == node_of_action action then process_after setting first action process else process)

-- The action, if it is the node's, is an input or an offer of a process that continues. A gate that the process clears
-- for an operator is neither.
abbrev pub IsServing : ℕ → Action → Type 0
IsServing node (Takes at input) = Unit {0}
IsServing node (Offers at) = Unit {0}
IsServing node action = node ≡ node_of_action action → ⊥

-- all of the node's actions are inputs and offers of a process that continues
abbrev pub AreServing : ℕ → List Action → Type 0
AreServing node [] = Unit {0}
AreServing node (action ∷ actions) = IsServing node action × AreServing node actions

-- the input of an action
abbrev pub input_of : Action → List NodeEvent
input_of (Takes at input) = input ∷ []
input_of action = []

-- the inputs that the node takes in the actions, in order
abbrev pub inputs_at : ℕ → List Action → List NodeEvent
inputs_at node [] = []
inputs_at node (action ∷ actions) =
    (if node == node_of_action action then input_of action else []) ++ inputs_at node actions

-- an output of a process under its own numbers: an envelope, or an answer
pub data OwnOutput : Type 0 where
  ToPeerOwn : (envelope : Envelope) → OwnOutput
  ToClientOwn : (answer : Answer) → OwnOutput

-- the entry of such an output in the port's record, encoded under the port's key
abbrev pub offer_of_output : List ℕ → OwnOutput → PortEvent
offer_of_output port (ToPeerOwn envelope) =
    Offered (ToMember envelope.receiver) (datagram_bytes port envelope.sender envelope.receiver envelope.message)
offer_of_output port (ToClientOwn answer) = Offered (ToLine answer.client) answer.bytes

-- an output under own numbers, in the words of the history
abbrev pub named_output : Terms → OwnOutput → Output
named_output terms (ToPeerOwn envelope) =
    ToPeer (record { key = terms.key; envelope = named_envelope terms.seats envelope })
named_output terms (ToClientOwn answer) = ToClient answer

-- the outputs of a history are the offers of a port's record
pub record AreOffers (terms : Terms) (port : List ℕ) (outputs : List Output) (offers : List PortEvent) : Type 0 where
  pub own : List OwnOutput
  pub named : outputs ≡ map (named_output terms) own
  pub encoded : map (offer_of_output port) own ≡ offers

-- ---- A history with the uses

-- none of the actions is the node's
abbrev pub IsIdle : ℕ → List Action → Type 0
IsIdle node [] = Unit {0}
IsIdle node (action ∷ actions) = (node ≡ node_of_action action → ⊥) × IsIdle node actions

-- In the actions, which may start at any number, the process takes the events and offers what its port recorded.
pub record TakesAndOffersFrom (setting : Setting) (node : ℕ) (terms : Terms) (port : List ℕ) (process : Process)
    (taken : List NodeEvent) (entries : List PortEvent) (actions : List Action) : Type 0 where
  pub serving : AreServing node actions
  pub takes : inputs_at node actions ≡ taken
  pub offers : (first : ℕ)
      → AreOffers terms port (own_offers setting node first actions process) (offers_in entries)

-- the same of the node's process that opened the store `found`
abbrev pub TakesAndOffers :
    Setting → ℕ → Terms → List ℕ → Store → List NodeEvent → List PortEvent → List Action → Type 0
TakesAndOffers setting node terms port found =
    TakesAndOffersFrom setting node terms port (process_opened terms found)

-- the action of clearing a token's gate, if there is a token
abbrev pub clearing : ℕ → Option ℕ → List Action
clearing node None = []
clearing node (Some token) = OpensGate node token ∷ []

-- The node's actions are the parts in order, from the machine on, with any actions of other nodes among them. Each part
-- ends with the clearing of its gate.
abbrev pub HasParts : Setting → ℕ → Terms → List ℕ → Store → NodeState → List Part → List Action → Type 0
HasParts setting node terms port found state [] actions = IsIdle node actions
HasParts setting node terms port found state (part ∷ parts) actions =
    (served : List Action) × (rest : List Action) × (actions ≡ served ++ (clearing node part.cleared ++ rest))
    × TakesAndOffersFrom setting node terms port (Up terms found state []) part.taken part.entries served
    × HasParts setting node terms port found (state_after_part setting node terms port state part) parts rest

-- The node's actions are the uses in order from the store on, with any actions of other nodes among them.
abbrev pub HasUses : Setting → ℕ → Store → List StoreUse → List Action → Type 0
HasUses setting node store [] actions = IsIdle node actions
HasUses setting node store (Serves terms port taken entries left ∷ uses) actions =
    (before : List Action) × (served : List Action) × (rest : List Action)
    × (actions ≡ before ++ (Opens node terms ∷ served ++ Stops node ∷ rest)) × IsIdle node before
    × TakesAndOffers setting node terms port store taken entries served
    × HasUses setting node (store_under terms.seats left store) uses rest
HasUses setting node store (ServesInParts terms port parts left ∷ uses) actions =
    (before : List Action) × (served : List Action) × (rest : List Action)
    × (actions ≡ before ++ (Opens node terms ∷ served ++ Stops node ∷ rest)) × IsIdle node before
    × HasParts setting node terms port store (opened_node (seen_in store terms.seats)) parts served
    × HasUses setting node (store_under terms.seats left store) uses rest
HasUses setting node store (Writes action ∷ uses) actions =
    (before : List Action) × (rest : List Action) × (actions ≡ before ++ action ∷ rest) × IsIdle node before
    × HasUses setting node (written_store setting action store) uses rest

-- the actions of each member in the history are its uses
abbrev pub IsHistoryOf : Setting → (ℕ → List StoreUse) → List Action → Type 0
IsHistoryOf setting uses history =
    (node : ℕ) → is_member setting.n node ≡ true
    → HasUses setting node (first_store setting node) (uses node) history

-- ---- What was offered

-- the offers in the records of the processes, in order
abbrev pub offers_recorded : List StoreUse → List PortEvent
offers_recorded [] = []
offers_recorded (Serves terms port taken entries left ∷ uses) = offers_in entries ++ offers_recorded uses
offers_recorded (ServesInParts terms port parts left ∷ uses) = offers_in (entries_in parts) ++ offers_recorded uses
offers_recorded (Writes action ∷ uses) = offers_recorded uses

-- the outputs are what the ports of the processes recorded, in order
abbrev pub AreOffersOfUses : List StoreUse → List Output → Type 0
AreOffersOfUses [] outputs = outputs ≡ []
AreOffersOfUses (Serves terms port taken entries left ∷ uses) outputs =
    (first : List Output) × (rest : List Output) × (outputs ≡ first ++ rest)
    × AreOffers terms port first (offers_in entries) × AreOffersOfUses uses rest
AreOffersOfUses (ServesInParts terms port parts left ∷ uses) outputs =
    (first : List Output) × (rest : List Output) × (outputs ≡ first ++ rest)
    × AreOffers terms port first (offers_in (entries_in parts)) × AreOffersOfUses uses rest
AreOffersOfUses (Writes action ∷ uses) outputs = AreOffersOfUses uses outputs

-- the reply of the node to the client belongs to an acceptance of that node in the history
pub record IsTrueReply (setting : Setting) (history : List Action) (node client : ℕ) (bytes : List ℕ) : Type 0 where
  pub answer : Answer
  pub node_is : answer.node ≡ node
  pub client_is : answer.client ≡ client
  pub bytes_are : answer.bytes ≡ bytes
  pub belongs : BelongsToAcceptance setting history answer
