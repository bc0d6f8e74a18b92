-- The incarnations of nodes whose users files, settings and keys change, in one history. An incarnation is a process
-- that opens a store under terms of its own, takes inputs, offers datagrams and replies, and ends at any moment.
-- Floor: the first free factor of a token at a node.
--
-- All nodes have the same numbers for tokens, the canonical ones. A store has a row for each token that its node ever
-- enrolled. A process sees the tokens of its own book alone, under its own numbers. Each number has a seat, which says
-- the canonical token.
use Rattle.std.specs.Prelude.{◌≡◌, ℕ, suc, ◌-◌, ◌<◌, ◌==◌, nat_le, nat_lt, Bool, true, false, not, ◌&&◌, if◌then◌else◌, List, [], ◌∷◌, ◌++◌, length, map, take, Option, Some, None, slice_get, slice_set, slice_index_or, option_map}
use Rattle.std.specs.List.{list_all}
use Rattle.std.specs.Option.{option_and_then, option_or}
use Rattle.otp_core.specs.Acceptance.{Acceptance, majority_of, size}
use Rattle.otp_core.specs.Gate.{clear_gate}
use Rattle.floor_store.specs.Content.{Content, opening_content_at, with_next_boot}
use Rattle.floor_store.specs.Records.{RowRecord}
use Rattle.seated_store.specs.Seats.{pass_below, seated_content}
use Rattle.vote_core.specs.Books.{are_apart, blank_opening, is_number, number_of}
use Rattle.vote_core.specs.NodeSet.{PlaceRecord, with_node}
use Rattle.vote_core.specs.Numbers.{named_message, named_pass, named_send, with_new_row}
use Rattle.vote_core.specs.Rows.{row}
use Rattle.vote_core.specs.Safety.{MayOpen}
use Rattle.vote_core.specs.Schedule.{Envelope, all_most, content_with_gate, envelope_from, greatest, is_member, last_boot, without_node}
use Rattle.vote_core.specs.Voting.{raise}
use Rattle.vote_core.specs.declared.message.Message.{Message}
use Rattle.vote_core.specs.declared.message.Message.TheVariants.{Ask, Grant, Deny, Floor}
use Rattle.oath_node.specs.Machine.{Beginning, Config, Made, NodeEvent, NodeState, Client, Peer, Tick, made_by_event, opened_node, token_of}
use Rattle.oath_node.specs.Unlocking.{unlocked_node}
use Rattle.cluster_sim.specs.World.{Answer, Note, note_anew, passes_in, told_reply}
use Rattle.seat_law.specs.Seats.{made_floor, seat_name}

-- The terms of a process: its book and limits, its cluster key, and the canonical token of each row of its book.
pub record Terms : Type 0 where
  pub config : Config
  pub key : List ℕ
  pub seats : List ℕ

-- an envelope under canonical tokens, and the key that it is under
pub record Sealed : Type 0 where
  pub key : List ℕ
  pub envelope : Envelope

-- The setting of a history: the members 1 to `n`, and the number of canonical tokens. The first stores have no rows. It
-- also has the envelopes of former times that may still arrive.
pub record Setting : Type 0 where
  pub n : ℕ
  pub tokens : ℕ
  -- the boots of the first stores of the nodes 1, 2 .., 0 for a missing one
  pub boots : List ℕ
  pub old : List Sealed

-- the boot of a node's first store
abbrev pub made_boot : Setting → ℕ → ℕ
made_boot setting node = slice_index_or setting.boots (node - 1) 0

-- the place of a node among the members
abbrev pub place_in : Setting → ℕ → PlaceRecord
place_in setting node = record { me = node; n = setting.n }

-- ---- Stores

-- a node's store: the canonical token of each row, in order, and the content
pub record Store : Type 0 where
  pub names : List ℕ
  pub content : Content

-- the row that the store has for the token, if any
abbrev pub row_of : Store → ℕ → Option ℕ
row_of store token = number_of (length store.names) (seat_name store.names) token

-- the store has a row for the token
abbrev pub has_row : Store → ℕ → Bool
has_row store token = is_number (row_of store token)

-- the given row, or row 0 for a missing one
abbrev pub row_or_first : Option ℕ → ℕ
row_or_first None = 0
row_or_first (Some number) = number

-- the rows of the seats
abbrev pub places_of : Store → List ℕ → List ℕ
places_of store seats = map (λ token. row_or_first (row_of store token)) seats

-- the floor in the row, 0 without a row
abbrev pub floor_in_row : Content → Option ℕ → ℕ
floor_in_row content None = 0
floor_in_row content (Some number) = (row content number).next

-- the floor of the token in the store, 0 if it has no row for it
abbrev pub floor_of : Store → ℕ → ℕ
floor_of store token = floor_in_row store.content (row_of store token)

-- what a process with the seats sees of the store
abbrev pub seen_in : Store → List ℕ → Content
seen_in store seats = seated_content (places_of store seats) store.content

-- the rows below, with each of the seen rows at its place
abbrev pub rows_under : List ℕ → List RowRecord → List RowRecord → List RowRecord
rows_under [] seen below = below
rows_under (place ∷ places) [] below = below
rows_under (place ∷ places) (one ∷ seen) below = slice_set (rows_under places seen below) place one

-- the content below after a process changed what it sees of it
abbrev pub content_under : List ℕ → Content → Content → Content
content_under places seen below = record {
  rows = rows_under places seen.rows below.rows;
  boot = seen.boot;
  last = option_or (option_and_then (pass_below places) seen.last) below.last;
}

-- the store after a process with the seats changed what it sees of it
abbrev pub store_under : List ℕ → Content → Store → Store
store_under seats seen store =
    record store { content = content_under (places_of store seats) seen store.content }

-- the store with a new row for the token at its end
abbrev pub store_with_row : ℕ → ℕ → Store → Store
store_with_row token floor store =
    record { names = store.names ++ token ∷ []; content = with_new_row floor store.content }

-- a store with rows for the given tokens, with floors by token
abbrev pub store_with_rows : ℕ → List ℕ → (ℕ → ℕ) → Store
store_with_rows boot given floor = record { names = given; content = opening_content_at boot (map floor given) }

-- the store with its boot raised
abbrev pub store_in_next_boot : Store → Store
store_in_next_boot store = record store { content = with_next_boot store.content }

-- the content with the gate of a new row in the row
abbrev pub content_unlocked : Option ℕ → Content → Content
content_unlocked None content = content
content_unlocked (Some number) content = content_with_gate number clear_gate content

-- the content with the row's floor raised to the given one, if it is lower
abbrev pub content_raised : Option ℕ → ℕ → Content → Content
content_raised None floor content = content
content_raised (Some number) floor content = raise number floor content

-- the store after the token was unlocked
abbrev pub store_unlocked : ℕ → Store → Store
store_unlocked token store = record store { content = content_unlocked (row_of store token) store.content }

-- the store after the token's floor was raised
abbrev pub store_raised : ℕ → ℕ → Store → Store
store_raised token floor store = record store { content = content_raised (row_of store token) floor store.content }

-- ---- Outputs

-- an output of a process to its port: an envelope under its key, or an answer to a client with its event
pub data Output : Type 0 where
  ToPeer : (sealed : Sealed) → Output
  ToClient : (answer : Answer) → Output

-- the envelope with the canonical token of the number that a process has for it
abbrev pub named_envelope : List ℕ → Envelope → Envelope
named_envelope seats envelope = record envelope { message = named_message (seat_name seats) envelope.message }

-- a message of a node with its receiver, under the canonical token and the key
abbrev pub sealed_from : Terms → ℕ → ℕ × Message → Sealed
sealed_from terms node send =
    record { key = terms.key; envelope = envelope_from node (named_send (seat_name terms.seats) send) }

-- the outputs of the node's step, in order
abbrev pub outputs_of_step : Terms → ℕ → ℕ → Made → List Output
outputs_of_step terms event node made =
    map (λ (sealed : Sealed). ToPeer sealed) (map (sealed_from terms node) made.sends)
    ++ map (λ (answer : Answer). ToClient answer) (map (told_reply event node) made.replies)

-- ---- The state of all nodes at one moment

-- A node without a process, with its store; or a node with its process and its terms. The process opened the store
-- `below`. Its machine has what it sees of the store. The process still has to offer the outputs `waiting`.
pub data Process : Type 0 where
  Down : (store : Store) → Process
  Up : (terms : Terms) (below : Store) (state : NodeState) (waiting : List Output) → Process

-- All nodes, and everything that a process ever offered to its port, oldest first. There is a note on each step whose
-- change the store kept, and on each replacement of a store, newest first. The notes have canonical tokens.
pub record State : Type 0 where
  pub processes : ℕ → Process
  -- the nodes that have lost their stores
  pub lost : ℕ → Bool
  -- by the token, the least floor that a replacement store needs
  pub least : ℕ → ℕ
  pub offered : List Output
  pub notes : List Note

-- the node's store; for a lost node, its former store with a boot that no process opened
abbrev pub store_at : Process → Store
store_at (Down store) = store
store_at (Up terms below state waiting) = store_under terms.seats state.content below

-- the processes with one of them changed
abbrev pub with_process : ℕ → Process → (ℕ → Process) → ℕ → Process
with_process changed process processes node = if node == changed then process else processes node

-- the state before any process and any loss
abbrev pub first_state : Setting → State
first_state setting = record {
  processes = λ node. Down (store_with_rows (made_boot setting node) [] (λ token. 0));
  lost = λ node. false;
  least = λ token. 0;
  offered = map (λ (sealed : Sealed). ToPeer sealed) setting.old;
  notes = [];
}

-- ---- Actions

-- An action at a node.
--   Opens: a process with the terms opens the node's store. Nothing happens unless it may.
--   FailsToOpen: a process ends before it serves. It has raised the boot in its store, or not.
--   Takes: the process takes the input, in one step of its machine. The action is at the commit of the change, before
-- the
--   process offers any output of it.
--   Offers: the process offers its next waiting output. Nobody asks whether the network takes it.
--   Stops: the process ends, with any outputs still waiting.
--   StopsIn: the process ends inside the step that takes the input. The change is kept or not, and the process offers
-- no
--   output of the step.
--   Loses: the node has lost its store. Its process ends, and no other acts there.
--   Remakes: a lost node gets a replacement store with the boot. It has rows for the given tokens, with floors by
-- token.
--   Nothing happens if the rule of the votes forbids it.
--   Enrols: the store of a node without a process gets a row for a token that has none.
--   Unlocks: a command clears the gate of a token in the store of a node without a process.
--   OpensGate: an operator has the process of a node clear the gate of a token, between two inputs. Nothing else of its
-- machine changes. Nothing happens if the token has no seat, or if the machine has stopped.
--   Raises: a command raises the floor of a token in such a store to the given one, if it is lower.
pub data Action : Type 0 where
  Opens : (node : ℕ) (terms : Terms) → Action
  FailsToOpen : (node : ℕ) (raised : Bool) → Action
  Takes : (node : ℕ) (input : NodeEvent) → Action
  Offers : (node : ℕ) → Action
  Stops : (node : ℕ) → Action
  StopsIn : (node : ℕ) (kept : Bool) (input : NodeEvent) → Action
  Loses : (node : ℕ) → Action
  Remakes : (node boot : ℕ) (given : List ℕ) (floor : ℕ → ℕ) → Action
  Enrols : (node token floor : ℕ) → Action
  Unlocks : (node token : ℕ) → Action
  OpensGate : (node token : ℕ) → Action
  Raises : (node token floor : ℕ) → Action

-- the node of an action
abbrev pub node_of_action : Action → ℕ
node_of_action (Opens node terms) = node
node_of_action (FailsToOpen node raised) = node
node_of_action (Takes node input) = node
node_of_action (Offers node) = node
node_of_action (Stops node) = node
node_of_action (StopsIn node kept input) = node
node_of_action (Loses node) = node
node_of_action (Remakes node boot given floor) = node
node_of_action (Enrols node token floor) = node
node_of_action (Unlocks node token) = node
node_of_action (OpensGate node token) = node
node_of_action (Raises node token floor) = node

-- The terms fit the store. There is a seat for each row of the book, no two seats have the same token, and the store
-- has a row for each.
abbrev pub do_fit : Terms → Store → Bool
do_fit terms store =
    (length terms.seats == length terms.config.book)
    && (are_apart (length terms.seats) (seat_name terms.seats) && list_all (has_row store) terms.seats)

-- a process that opened the store in a new boot, if its terms fit; at the last boot no process opens
abbrev pub process_opened : Terms → Store → Process
process_opened terms store =
    if do_fit terms store && nat_lt store.content.boot last_boot
    then Up terms store (opened_node (seen_in store terms.seats)) []
    else Down store

-- a node whose process ended while it opened the store
abbrev pub process_half_opened : Bool → Store → Process
process_half_opened false store = Down store
process_half_opened true store =
    if nat_lt store.content.boot last_boot then Down (store_in_next_boot store) else Down store

-- the result of a process's step
abbrev pub made_by_input : Setting → Terms → ℕ → NodeEvent → NodeState → Made
made_by_input setting terms node input state = made_by_event terms.config (place_in setting node) input state

-- a process that has offered its first waiting output
abbrev pub process_offered : Terms → Store → NodeState → List Output → Process
process_offered terms below state [] = Up terms below state []
process_offered terms below state (output ∷ waiting) = Up terms below state waiting

-- a process that took an input in the action of the given number
abbrev pub process_taken : Setting → ℕ → ℕ → NodeEvent → Terms → Store → NodeState → List Output → Process
process_taken setting event node input terms below state waiting =
    let made = made_by_input setting terms node input state in
    Up terms below made.state (waiting ++ outputs_of_step terms event node made)

-- a node whose process ended inside the step of an input: its store has the former content, or the step's content
abbrev pub process_cut : Setting → ℕ → Bool → NodeEvent → Terms → Store → NodeState → Process
process_cut setting node false input terms below state = Down (store_under terms.seats state.content below)
process_cut setting node true input terms below state =
    Down (store_under terms.seats (made_by_input setting terms node input state).state.content below)

-- the store may get a row for the token
abbrev pub may_enrol : Setting → ℕ → Store → Bool
may_enrol setting token store = nat_lt token setting.tokens && not (has_row store token)

-- a node without a process whose store got a row for the token, if it may
abbrev pub process_enrolled : Setting → ℕ → ℕ → Store → Process
process_enrolled setting token floor store =
    if may_enrol setting token store then Down (store_with_row token floor store) else Down store

-- the number whose gate the process clears for the token: its own number for it, if its machine runs
abbrev pub number_to_unlock : Terms → ℕ → NodeState → Option ℕ
number_to_unlock terms token state =
    if state.running then number_of (length terms.seats) (seat_name terms.seats) token else None

-- the machine with the gate of a new row for the number
abbrev pub state_unlocked : Option ℕ → NodeState → NodeState
state_unlocked None state = state
state_unlocked (Some number) state = unlocked_node number state

-- The process of a node after the action of the given number. A node without a process takes and offers nothing: inputs
-- there are lost. A node with a process doesn't open a second one, and its store takes no commands.
abbrev pub process_after : Setting → ℕ → Action → Process → Process
process_after setting event (Opens node terms) (Down store) = process_opened terms store
process_after setting event (FailsToOpen node raised) (Down store) = process_half_opened raised store
process_after setting event (Takes node input) (Up terms below state waiting) =
    process_taken setting event node input terms below state waiting
process_after setting event (Offers node) (Up terms below state waiting) = process_offered terms below state waiting
process_after setting event (Stops node) (Up terms below state waiting) =
    Down (store_under terms.seats state.content below)
process_after setting event (StopsIn node kept input) (Up terms below state waiting) =
    process_cut setting node kept input terms below state
process_after setting event (Loses node) process = Down (store_in_next_boot (store_at process))
process_after setting event (Remakes node boot given floor) (Down store) = Down (store_with_rows boot given floor)
process_after setting event (Enrols node token floor) (Down store) = process_enrolled setting token floor store
process_after setting event (Unlocks node token) (Down store) = Down (store_unlocked token store)
process_after setting event (OpensGate node token) (Up terms below state waiting) =
    Up terms below (state_unlocked (number_to_unlock terms token state) state) waiting
process_after setting event (Raises node token floor) (Down store) = Down (store_raised token floor store)
process_after setting event action process = process

-- the first of the outputs, if any
abbrev pub first_of_these : List Output → List Output
first_of_these [] = []
first_of_these (output ∷ waiting) = output ∷ []

-- the outputs that the process offers in an action
abbrev pub offers_by : Action → Process → List Output
offers_by (Offers node) (Up terms below state waiting) = first_of_these waiting
offers_by action process = []

-- a proposal under its canonical token
abbrev pub named_beginning : (ℕ → ℕ) → Beginning → Beginning
named_beginning name began = record began { token = name began.token }

-- a failure under its canonical token
abbrev pub named_failure : (ℕ → ℕ) → ℕ × ℕ → ℕ × ℕ
named_failure name failed = (name failed.0, failed.1)

-- the note on the result of a step, under canonical tokens
abbrev pub note_of_step : Terms → ℕ → ℕ → Made → Note
note_of_step terms event node made = record {
  event = event;
  node = node;
  anew = false;
  began = option_map (named_beginning (seat_name terms.seats)) made.began;
  pass = option_map (named_pass (seat_name terms.seats)) made.pass;
  failed = option_map (named_failure (seat_name terms.seats)) made.failed;
}

-- the note on a step whose change is kept, or on a replacement store, in the action of the given number
abbrev pub notes_by : Setting → ℕ → Action → Process → List Note
notes_by setting event (Takes node input) (Up terms below state waiting) =
    note_of_step terms event node (made_by_input setting terms node input state) ∷ []
notes_by setting event (StopsIn node true input) (Up terms below state waiting) =
    note_of_step terms event node (made_by_input setting terms node input state) ∷ []
notes_by setting event (Remakes node boot given floor) process = note_anew event node ∷ []
notes_by setting event action process = []

-- the lost nodes after an action
abbrev pub lost_after : Action → (ℕ → Bool) → ℕ → Bool
lost_after (Loses node) lost = with_node node lost
lost_after (Remakes node boot given floor) lost = without_node node lost
lost_after _ lost = lost

-- the least floors of a replacement store after an action: a loss records the greatest floors of the remaining nodes
abbrev pub least_after : Setting → Action → State → ℕ → ℕ
least_after setting (Loses node) state = λ token.
    greatest setting.n (with_node node state.lost) (λ other. floor_of (store_at (state.processes other)) token)
least_after setting _ state = state.least

-- the state after a possible action at a node, which changes only the node's process
abbrev pub state_with : Setting → ℕ → Action → Process → State → State
state_with setting event action process state = record {
  processes = with_process (node_of_action action) (process_after setting event action process) state.processes;
  lost = lost_after action state.lost;
  least = least_after setting action state;
  offered = state.offered ++ offers_by action process;
  notes = notes_by setting event action process ++ state.notes;
}

-- the node is a member that has its store
abbrev pub has_store : Setting → State → ℕ → Bool
has_store setting state node = not (state.lost node) && is_member setting.n node

-- The conditions for a replacement of a lost node's store. Its tokens are canonical ones, no two alike. Fewer than a
-- majority are lost, and no process of the node used the boot. No floor is below the floors that the remaining nodes
-- had at the latest loss.
abbrev pub may_be_remade : Setting → State → ℕ → ℕ → List ℕ → (ℕ → ℕ) → Bool
may_be_remade setting state node boot given floor =
    (list_all (λ token. nat_lt token setting.tokens) given && are_apart (length given) (seat_name given))
    && ((is_member setting.n node && state.lost node)
    && (nat_lt (size setting.n state.lost) (majority_of setting.n)
    && (nat_le (store_at (state.processes node)).content.boot boot
    && (nat_le boot last_boot
    && all_most setting.tokens state.least (made_floor given floor)))))

-- the action is possible at its node
abbrev pub can_be : Setting → State → Action → Bool
can_be setting state (Remakes node boot given floor) = may_be_remade setting state node boot given floor
can_be setting state action = has_store setting state (node_of_action action)

-- The state after the action of the given number. An action at no member changes nothing. At a lost node only a
-- replacement of its store changes anything.
unfoldable pub state_after_action : Setting → ℕ → Action → State → State
state_after_action setting event action state =
    if can_be setting state action
    then state_with setting event action (state.processes (node_of_action action)) state
    else state

-- the state after the actions, the first of which has the given number
unfoldable pub state_after : Setting → ℕ → List Action → State → State
state_after setting first [] state = state
state_after setting first (action ∷ actions) state =
    state_after setting (suc first) actions (state_after_action setting first action state)

-- the state after a history
abbrev pub state_of : Setting → List Action → State
state_of setting history = state_after setting 0 history (first_state setting)

-- ---- The network

-- the envelope was offered before, under the key
pub record WasOffered (offered : List Output) (sealed : Sealed) : Type 0 where
  pub place : ℕ
  pub is_there : slice_get offered place ≡ Some (ToPeer sealed)

-- the message is part of a vote, and doesn't only tell a floor
abbrev pub IsOfVote : Message → Type 0
IsOfVote (Ask proposal token span) = Unit {0}
IsOfVote (Grant proposal token span) = Unit {0}
IsOfVote (Deny proposal token next) = Unit {0}
IsOfVote (Floor token next) = ⊥

-- An envelope of a vote that a process reads from its sender's own address is genuine if it was offered before. A
-- process offered it under the same key, and under the canonical token of the reader's number.
--
-- Envelopes that only tell a floor are free: processes tell floors at any time, also in bulk. Anybody may tell any
-- floor. Envelopes about a number without a seat, envelopes from another address, lines and the passage of time are
-- free too.
abbrev pub IsGenuine : Terms → List Output → NodeEvent → Type 0
IsGenuine terms offered (Client client moment line) = Unit {0}
IsGenuine terms offered (Peer from None) = Unit {0}
IsGenuine terms offered (Peer from (Some envelope)) =
    envelope.sender ≡ from → IsOfVote envelope.message → token_of envelope.message < length terms.seats
    → WasOffered offered (record { key = terms.key; envelope = named_envelope terms.seats envelope })
IsGenuine terms offered Tick = Unit {0}

-- an input at a process is genuine; without a process it is lost
abbrev pub IsGenuineAt : Process → List Output → NodeEvent → Type 0
IsGenuineAt (Down store) offered input = Unit {0}
IsGenuineAt (Up terms below state waiting) offered input = IsGenuine terms offered input

-- the action's input, if any, is genuine, also inside a stop
abbrev pub IsGenuineAction : State → Action → Type 0
IsGenuineAction state (Takes node input) = IsGenuineAt (state.processes node) state.offered input
IsGenuineAction state (StopsIn node kept input) = IsGenuineAt (state.processes node) state.offered input
IsGenuineAction state action = Unit {0}

-- each of the actions has a genuine input, if any; the first of them has the given number
unfoldable pub AreGenuine : Setting → ℕ → List Action → State → Type 0
AreGenuine setting first [] state = Unit {0}
AreGenuine setting first (action ∷ actions) state =
    IsGenuineAction state action
    × AreGenuine setting (suc first) actions (state_after_action setting first action state)

-- A history of nodes: actions without an envelope of a vote that is forged under a key. Envelopes from before fit, and
-- are of boots before those of the first stores.
pub record IsHistory (setting : Setting) (history : List Action) : Type 0 where
  pub starts : MayOpen setting.n setting.tokens
      (blank_opening (made_boot setting) (map (λ (sealed : Sealed). sealed.envelope) setting.old))
  pub genuine : AreGenuine setting 0 history (first_state setting)

-- ---- The observations of a history

-- The acceptances that stores wrote, under canonical tokens. Each has the number of the action in which the node took
-- its line, and of the action in which the node wrote the pass.
abbrev pub accepted_in : Setting → List Action → List Acceptance
accepted_in setting history = passes_in (state_of setting history).notes

-- the answers among the outputs, in order
abbrev pub answers_among : List Output → List Answer
answers_among [] = []
answers_among (ToPeer sealed ∷ outputs) = answers_among outputs
answers_among (ToClient answer ∷ outputs) = answer ∷ answers_among outputs

-- the answers offered to clients, each with the number of the action that made it
abbrev pub answered_in : Setting → List Action → List Answer
answered_in setting history = answers_among (state_of setting history).offered

-- the floor of a token in the node's store before the action of the given number, 0 if it has no row for the token
abbrev pub floor_in : Setting → List Action → ℕ → ℕ → ℕ → ℕ
floor_in setting history node token event =
    floor_of (store_at ((state_of setting (take event history)).processes node)) token
