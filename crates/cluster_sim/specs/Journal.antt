-- The journal of a simulation, and the world that it records. Only private contracts cite it: no public contract
-- depends on it. Floor: the first free factor of a token at a node.
use Rattle.std.specs.Prelude.{◌≡◌, ℕ, suc, ◌+◌, ◌==◌, ◌<◌, Bool, true, false, if◌then◌else◌, List, [], ◌∷◌, ◌++◌, length, map, take, Option, Some, None, Result, OnOk, slice_get, slice_index_or}
use Rattle.floor_store.specs.Content.{Content}
use Rattle.floor_store.specs.Held.{Held}
use Rattle.floor_store.specs.Records.{ProposalRecord, PassRecord}
use Rattle.otp_core.specs.Acceptance.{Acceptance}
use Rattle.vote_core.specs.NodeSet.{PlaceRecord}
use Rattle.vote_core.specs.Schedule.{Envelope, began_in, is_member}
use Rattle.vote_core.specs.Voting.{same_proposal}
use Rattle.vote_wire.specs.Body.{HasSpelling}
use Rattle.vote_wire.specs.Datagram.{datagram_bytes}
use Rattle.oath_node.specs.Hosted.{Hosted, state_of}
use Rattle.oath_node.specs.Machine.{Config, NodeEvent, NodeState, made_by_event}
use Rattle.oath_node.specs.Outputs.{OutputsRecord, no_outputs, outputs_of}
use Rattle.oath_node.specs.declared.item.Item.{Item}
use Rattle.oath_node.specs.declared.item.Item.TheVariants.{Datagram, Reply}
use Rattle.cluster_sim.specs.World.{World, Answer, Act as WorldAct, WorldEvent as Event, begun_in, passes_in, with_state, with_told_of, world_after_act, world_after_event, world_after_events, world_after_turn}

-- a datagram, with its sender and its receiver
pub record Letter : Type 0 where
  pub sender : ℕ
  pub receiver : ℕ
  pub bytes : List ℕ

-- a proposal, and the event in which it was begun
pub record StartRecord : Type 0 where
  pub proposal : ProposalRecord
  pub event : ℕ

-- a loss of a node's store, with the last boot that the node used; without a boot, a replacement of the store
pub record LossRecord : Type 0 where
  pub node : ℕ
  pub used : Option ℕ

-- The record of everything sent, begun, accepted and replied, and of losses and replacements, each in order. It also
-- has the least floor of each token that a replacement store needs.
pub record JournalRecord : Type 0 where
  pub sent : List Letter
  pub starts : List StartRecord
  pub passes : List Acceptance
  pub answers : List Answer
  pub losses : List LossRecord
  pub least : List ℕ

-- the empty journal
abbrev pub no_journal : JournalRecord
no_journal = record { sent = []; starts = []; passes = []; answers = []; losses = []; least = [] }

-- ---- Losses

-- the last boot that a node without its store used, after the losses, from the given value on
abbrev pub used_from : Option ℕ → List LossRecord → ℕ → Option ℕ
used_from used [] node = used
used_from used (loss ∷ losses) node = used_from (if node == loss.node then loss.used else used) losses node

-- the last boot that a node without its store used, after the losses; None for a node with its store
abbrev pub used_in : List LossRecord → ℕ → Option ℕ
used_in losses node = used_from None losses node

-- the journal with another loss, and the greatest floors at the loss
abbrev pub journal_with_loss : ℕ → ℕ → List ℕ → JournalRecord → JournalRecord
journal_with_loss node used least journal = record journal {
  losses = journal.losses ++ record { node = node; used = Some used } ∷ [];
  least = least;
}

-- the journal with a replacement of the node's store
abbrev pub journal_with_anew : ℕ → JournalRecord → JournalRecord
journal_with_anew node journal =
    record journal { losses = journal.losses ++ record { node = node; used = None } ∷ [] }

-- ---- The outputs of a node in the journal

-- the event of the last start of the proposal, or the given event
abbrev pub start_event_from : ℕ → List StartRecord → ProposalRecord → ℕ
start_event_from began [] proposal = began
start_event_from began (start ∷ starts) proposal =
    start_event_from (if same_proposal proposal start.proposal then start.event else began) starts proposal

-- the event of the last start of the proposal
abbrev pub start_event : List StartRecord → ProposalRecord → ℕ
start_event starts proposal = start_event_from 0 starts proposal

-- the starts, with the proposal that was begun in the event
abbrev pub starts_with_begun : ℕ → Option ProposalRecord → List StartRecord → List StartRecord
starts_with_begun event None starts = starts
starts_with_begun event (Some proposal) starts = starts ++ record { proposal = proposal; event = event } ∷ []

-- the acceptances, with the acceptance of the pass that the node wrote in the event
abbrev pub passes_with_pass : List StartRecord → ℕ → ℕ → Option PassRecord → List Acceptance → List Acceptance
passes_with_pass starts event node None passes = passes
passes_with_pass starts event node (Some pass) passes =
    passes ++ record {
      began = start_event starts (record { node = node; boot = pass.boot; seq = pass.seq });
      ended = event;
      node = node;
      token = pass.token;
      lo = pass.lo;
      hi = pass.hi;
    } ∷ []

-- the journal with the proposal and the acceptance of the node in the event
abbrev pub journal_with_note : ℕ → ℕ → Option ProposalRecord → Option PassRecord → JournalRecord → JournalRecord
journal_with_note event node begun pass journal =
    let starts = starts_with_begun event begun journal.starts in
    record journal { starts = starts; passes = passes_with_pass starts event node pass journal.passes }

-- the datagrams among the items of the node
abbrev pub sent_items : ℕ → List Item → List Letter
sent_items node [] = []
sent_items node (Datagram to bytes ∷ items) =
    record { sender = node; receiver = to; bytes = bytes.items } ∷ sent_items node items
sent_items node (Reply client bytes ∷ items) = sent_items node items

-- the replies of the node among the items, in the event
abbrev pub told_items : ℕ → ℕ → List Item → List Answer
told_items event node [] = []
told_items event node (Datagram to bytes ∷ items) = told_items event node items
told_items event node (Reply client bytes ∷ items) =
    record { event = event; node = node; client = client; bytes = bytes.items } ∷ told_items event node items

-- the journal with the datagrams and replies of the node in the event
abbrev pub journal_with_told : ℕ → ℕ → List Item → JournalRecord → JournalRecord
journal_with_told event node items journal = record journal {
  sent = journal.sent ++ sent_items node items;
  answers = journal.answers ++ told_items event node items;
}

-- the journal with the node's outputs of the event; its datagrams and replies are recorded or lost
abbrev pub journal_with : ℕ → ℕ → Bool → OutputsRecord → JournalRecord → JournalRecord
journal_with event node is_told outputs journal =
    let noted = journal_with_note event node outputs.begun outputs.pass journal in
    if is_told then journal_with_told event node outputs.items noted else noted

-- the journal with the node's outputs, if any
abbrev pub journal_with_outputs : ℕ → ℕ → Bool → Option OutputsRecord → JournalRecord → JournalRecord
journal_with_outputs event node is_told None journal = journal
journal_with_outputs event node is_told (Some outputs) journal = journal_with event node is_told outputs journal

-- ---- The simulation of a world

-- the datagram of an envelope under the key
abbrev pub letter_of : List ℕ → Envelope → Letter
letter_of key envelope = record {
  sender = envelope.sender;
  receiver = envelope.receiver;
  bytes = datagram_bytes key envelope.sender envelope.receiver envelope.message;
}

-- the view of a store in memory
abbrev pub memory_held : Content → Held
memory_held content =
    record { content = content; fault = None; failures = 0; is_clean = Unit {0}; leaves = λ left. left ≡ content }

-- a node over its store in memory, as a node of the world with the state and the place
pub record IsHost (config : Config) (key : List ℕ) (at : PlaceRecord) (x : NodeState)
    (host : Hosted Content) : Type 0 where
  pub state : state_of memory_held host ≡ x
  pub book : host.book ≡ config.book
  pub limits : host.limits ≡ config.limits
  pub key_is : host.key ≡ key
  pub place : host.voter.place ≡ at

-- the outputs are the result's, or empty
abbrev pub IsPutOut : Option OutputsRecord → OutputsRecord → Type 0
IsPutOut None made = made ≡ no_outputs
IsPutOut (Some outputs) made = outputs ≡ made

-- a node after an event in the state, with its outputs
pub record IsHanded (config : Config) (key : List ℕ) (at : PlaceRecord) (x : NodeState) (event : NodeEvent)
    (host : Hosted Content) (outputs : Option OutputsRecord) : Type 0 where
  pub left : IsHost config key at (made_by_event config at event x).state host
  pub put_out : IsPutOut outputs (outputs_of key at (made_by_event config at event x))

-- each node of the world that has its store is in the list: node k + 1 at index k
abbrev pub AreHosts : Config → List ℕ → ℕ → (ℕ → Bool) → (ℕ → NodeState) → List (Hosted Content) → Type 0
AreHosts config key n lost nodes hosts =
    (k : ℕ) (host : Hosted Content) → slice_get hosts k ≡ Some host → lost (suc k) ≡ false
    → IsHost config key (record { me = suc k; n = n }) (nodes (suc k)) host

-- the last boot that a node with `tokens` tokens used, if its store is lost
abbrev pub IsLossOf : ℕ → Option ℕ → Bool → NodeState → Type 0
IsLossOf tokens None lost state = lost ≡ false
IsLossOf tokens (Some used) lost state =
    (lost ≡ true) × (state.content.boot ≡ used + 1) × (length state.content.rows ≡ tokens)

-- the journal records which nodes of the world are lost
pub record AreLosses (tokens : ℕ) (world : World) (journal : JournalRecord) : Type 0 where
  pub used : (node : ℕ) → IsLossOf tokens (used_in journal.losses node) (world.lost node) (world.nodes node)
  pub least : (token : ℕ) → token < tokens → slice_index_or journal.least token 0 ≡ world.least token

-- the journal records everything of the world except its nodes
pub record IsRecorded (key : List ℕ) (world : World) (journal : JournalRecord) : Type 0 where
  pub sent : journal.sent ≡ map (letter_of key) world.sent
  pub starts : (proposal : ProposalRecord)
      → began_in (begun_in world.history proposal) ≡ start_event journal.starts proposal
  pub passes : journal.passes ≡ passes_in world.history
  pub answers : journal.answers ≡ world.told

-- the nodes and the journal of a simulation
pub record SimulationRecord : Type 0 where
  pub nodes : List (Hosted Content)
  pub journal : JournalRecord

-- the simulation of the nodes and the journal
abbrev pub simulation_of : List (Hosted Content) → JournalRecord → SimulationRecord
simulation_of nodes journal = record { nodes = nodes; journal = journal }

-- a simulation of the world
pub record IsRun (config : Config) (key : List ℕ) (world : World) (simulation : SimulationRecord) : Type 0 where
  pub n : world.n ≡ length simulation.nodes
  pub hosts : AreHosts config key world.n world.lost world.nodes simulation.nodes
  pub recorded : IsRecorded key world simulation.journal
  pub losses : AreLosses (length config.book) world simulation.journal

-- the outputs of the node for an event; none if it isn't a member
abbrev pub outputs_at : Config → List ℕ → ℕ → (ℕ → NodeState) → ℕ → NodeEvent → OutputsRecord
outputs_at config key n nodes node event =
    let place : PlaceRecord = record { me = node; n = n } in
    if is_member n node then outputs_of key place (made_by_event config place event (nodes node)) else no_outputs

-- the nodes after an event at one of them
abbrev pub nodes_after : Config → ℕ → (ℕ → NodeState) → ℕ → NodeEvent → ℕ → NodeState
nodes_after config n nodes node event =
    let place : PlaceRecord = record { me = node; n = n } in
    if is_member n node then with_state node (made_by_event config place event (nodes node)).state nodes else nodes

-- the nodes of a world after an event at one of them, if there is such a node, with its outputs
pub record IsAsked (config : Config) (key : List ℕ) (n : ℕ) (lost : ℕ → Bool) (nodes : ℕ → NodeState) (node : ℕ)
    (event : NodeEvent) (hosts : List (Hosted Content)) (outputs : Option OutputsRecord) : Type 0 where
  pub left : AreHosts config key n lost (nodes_after config n nodes node event) hosts
  pub put_out : IsPutOut outputs (outputs_at config key n nodes node event)

-- the new world, with or without the datagrams and replies since the old one
abbrev pub told_world : Bool → World → World → World
told_world is_told old new = if is_told then new else with_told_of old new

-- the world after an event at a node, with or without its datagrams and replies
abbrev pub told_turn : Bool → ℕ → ℕ → Option NodeEvent → Config → World → World
told_turn is_told event node what config world =
    told_world is_told world (world_after_turn config event node what world)

-- the world after an act in the event, with or without its datagrams and replies
abbrev pub told_act : Bool → ℕ → WorldAct → Config → World → World
told_act is_told event act config world = told_world is_told world (world_after_act config event act world)

-- the world after the event of the given number
abbrev pub world_by_event : ℕ → Event → Config → World → World
world_by_event event what config world = world_after_event config event what world

-- the bytes of each datagram sent read as its envelope
abbrev pub AreSpelled : World → Type 0
AreSpelled world =
    (k : ℕ) (envelope : Envelope) → slice_get world.sent k ≡ Some envelope
    → HasSpelling envelope.sender envelope.receiver envelope.message

-- the bytes of each datagram sent up to any of the events read as its envelope
abbrev pub AreSpelledAlong : Config → List Event → World → Type 0
AreSpelledAlong config events world = (k : ℕ) → AreSpelled (world_after_events config 0 (take k events) world)

-- A call on a simulation of nodes with the configuration. If the simulation is a world whose datagrams read as their
-- envelopes, it is afterwards the world after `makes`, unless the allocator refused the memory.
abbrev pub PlaysAt : {A E : Type 0} → Config → List ℕ → (World → World) → SimulationRecord → SimulationRecord
    → Result A E → Type 0
PlaysAt config key makes old new result =
    (world : World) → IsRun config key world old → AreSpelled world → OnOk result (IsRun config key (makes world) new)

-- such a call for every configuration
abbrev pub Plays : {A E : Type 0} → List ℕ → (Config → World → World) → SimulationRecord → SimulationRecord
    → Result A E → Type 0
Plays key makes old new result = (config : Config) → PlaysAt config key (makes config) old new result
