-- The world: the nodes of a cluster, all datagrams that they ever sent, and every list of events. The machine of a node
-- decides the effect of an event on it. A datagram is represented by the envelope of its bytes under the cluster's key.
-- Floor: the first free factor of a token at a node.
use Rattle.std.specs.Prelude.{ℕ, suc, ◌-◌, ◌==◌, nat_le, nat_lt, Bool, true, false, not, ◌&&◌, if◌then◌else◌, List, [], ◌∷◌, ◌++◌, length, map, take, Option, Some, None, slice_get, slice_index_or}
use Rattle.floor_store.specs.Content.{with_next_boot}
use Rattle.floor_store.specs.Records.{ProposalRecord, PassRecord}
use Rattle.otp_core.specs.Acceptance.{Acceptance, majority_of, size}
use Rattle.vote_core.specs.NodeSet.{PlaceRecord, with_node}
use Rattle.vote_core.specs.Rows.{row}
use Rattle.vote_core.specs.Safety.{MayOpen}
use Rattle.vote_core.specs.Schedule.{Envelope, Begun, Opening, all_most, greatest, is_member, envelope_from, first_opening, last_boot, with_begun, without_node, began_in, opening_rows}
use Rattle.vote_core.specs.Voting.{fresh_voter}
use Rattle.oath_node.specs.Machine.{Config, NodeState, NodeEvent, Client, Peer, Tick, Reply, Beginning, Made, made_by_event, restarted_node}

-- the record of an event at a node, without its datagrams and replies
pub record Note : Type 0 where
  pub event : ℕ
  pub node : ℕ
  -- whether the event replaced the node's lost store
  pub anew : Bool
  pub began : Option Beginning
  pub pass : Option PassRecord
  -- the failed token, and the moment
  pub failed : Option (ℕ × ℕ)

-- a reply of a node to a client in an event
pub record Answer : Type 0 where
  pub event : ℕ
  pub node : ℕ
  pub client : ℕ
  pub bytes : List ℕ

-- The nodes 1 to n, all datagrams ever sent, a note on each event at a node, and all replies. The notes have the newest
-- first, and the other lists the oldest first.
pub record World : Type 0 where
  pub n : ℕ
  pub nodes : ℕ → NodeState
  -- the nodes that have lost their stores
  pub lost : ℕ → Bool
  -- by the token, the least floor that a replacement store needs
  pub least : ℕ → ℕ
  pub sent : List Envelope
  pub history : List Note
  pub told : List Answer

-- An act at a node. It is a client's line at a moment, the delivery of a datagram by its number, the passage of time,
-- or bytes from an address. Numbers are from 0 in the order of sending. The bytes are given by their envelope, if they
-- have one. A loss is a Deliver that never happens. Repeats and reorderings are Delivers of any number in any order.
pub data Act : Type 0 where
  Says : (node client moment : ℕ) (line : List ℕ) → Act
  Deliver : (node k : ℕ) → Act
  Ticks : (node : ℕ) → Act
  Noise : (node from : ℕ) (read : Option Envelope) → Act

-- Cut: a stop inside a step. Its change of content is kept or dropped, its outputs are lost, and the node restarts.
-- Lost: the node has lost its store and does nothing more. `Anew`: the node is open on a replacement store with the
-- given boot and floors, 0 for a missing one. Gates, drifts and answers of its former store are gone.
pub data WorldEvent : Type 0 where
  Happens : (act : Act) → WorldEvent
  Cut : (kept : Bool) (act : Act) → WorldEvent
  Restart : (node : ℕ) → WorldEvent
  Lost : (node : ℕ) → WorldEvent
  Anew : (node boot : ℕ) (floors : List ℕ) → WorldEvent

-- ---- An act

-- the node that an act names
abbrev pub acting_node : Act → ℕ
acting_node (Says node client moment line) = node
acting_node (Deliver node k) = node
acting_node (Ticks node) = node
acting_node (Noise node from read) = node

-- the arrival of a sent datagram from its sender
abbrev pub delivered_event : Option Envelope → Option NodeEvent
delivered_event None = None
delivered_event (Some envelope) = Some (Peer envelope.sender (Some envelope))

-- the envelope, if any, is from the node
abbrev pub is_from : ℕ → Option Envelope → Bool
is_from node None = false
is_from node (Some envelope) = envelope.sender == node

-- Noise is any bytes except an envelope of the node from whose address they come. Such an envelope is forged with the
-- cluster's own key, or was sent before. A node drops noise.
abbrev pub noise_event : ℕ → Option Envelope → Option NodeEvent
noise_event from read = if is_from from read then None else Some (Peer from read)

-- the event at the node in an act, if any
abbrev pub node_event_of : List Envelope → Act → Option NodeEvent
node_event_of sent (Says node client moment line) = Some (Client client moment line)
node_event_of sent (Deliver node k) = delivered_event (slice_get sent k)
node_event_of sent (Ticks node) = Some Tick
node_event_of sent (Noise node from read) = noise_event from read

-- the node is a member that has its store
abbrev pub has_store : World → ℕ → Bool
has_store world node = not (world.lost node) && is_member world.n node

-- the place of a node among the members
abbrev pub place_at : World → ℕ → PlaceRecord
place_at world node = record { me = node; n = world.n }

-- the nodes with one of them changed
abbrev pub with_state : ℕ → NodeState → (ℕ → NodeState) → ℕ → NodeState
with_state changed state nodes node = if node == changed then state else nodes node

-- a reply of the node in the event
abbrev pub told_reply : ℕ → ℕ → Reply → Answer
told_reply event node reply = record { event = event; node = node; client = reply.client; bytes = reply.bytes }

-- the note on the result of the event at the node
abbrev pub note_of : ℕ → ℕ → Made → Note
note_of event node made =
    record { event = event; node = node; anew = false; began = made.began; pass = made.pass; failed = made.failed }

-- the world after the event had the result at the node
unfoldable pub world_with_made : ℕ → ℕ → Made → World → World
world_with_made event node made world = record world {
  nodes = with_state node made.state world.nodes;
  sent = world.sent ++ map (envelope_from node) made.sends;
  history = note_of event node made ∷ world.history;
  told = world.told ++ map (told_reply event node) made.replies;
}

-- The world after an event at a node. An event at no member, or at a lost member, changes nothing.
unfoldable pub world_after_turn : Config → ℕ → ℕ → Option NodeEvent → World → World
world_after_turn config event node None world = world
world_after_turn config event node (Some what) world =
    if has_store world node
    then world_with_made event node (made_by_event config (place_at world node) what (world.nodes node)) world
    else world

-- the world after an act in the event
unfoldable pub world_after_act : Config → ℕ → Act → World → World
world_after_act config event act world =
    world_after_turn config event (acting_node act) (node_event_of world.sent act) world

-- ---- An event

-- the node, if the datagram was sent
abbrev pub node_if_sent : ℕ → Option Envelope → Option ℕ
node_if_sent node None = None
node_if_sent node (Some envelope) = Some node

-- the node that a stop inside the act restarts; none if the act delivers a datagram that was never sent
abbrev pub node_of : Act → World → Option ℕ
node_of (Says node client moment line) world = Some node
node_of (Deliver node k) world = node_if_sent node (slice_get world.sent k)
node_of (Ticks node) world = Some node
node_of (Noise node from read) world = Some node

-- the world after a restart of the node
unfoldable pub world_after_restart : Option ℕ → World → World
world_after_restart None world = world
world_after_restart (Some node) world =
    if has_store world node
    then record world { nodes = with_state node (restarted_node (world.nodes node)) world.nodes }
    else world

-- ---- Losses and replacements of stores

-- A node that has lost its store. Only its former rows stay, and a boot that it never used.
abbrev pub lost_node : NodeState → NodeState
lost_node state = record {
  content = with_next_boot state.content;
  voter = fresh_voter;
  owners = [];
  answers = [];
  running = false;
}

-- The world after the node lost its store. It records the greatest floors of the remaining nodes, and a replacement
-- store needs at least these.
unfoldable pub world_after_loss : ℕ → World → World
world_after_loss node world =
    if has_store world node
    then record world {
      nodes = with_state node (lost_node (world.nodes node)) world.nodes;
      lost = with_node node world.lost;
      least = λ token.
          greatest world.n (with_node node world.lost) (λ other. (row (world.nodes other).content token).next);
    }
    else world

-- The conditions for a replacement of a lost node's store. Fewer than a majority are lost, and the node never used the
-- boot. No floor is below the floors that the remaining nodes had at the latest loss.
abbrev pub may_be_anew : World → ℕ → ℕ → (ℕ → ℕ) → Bool
may_be_anew world node boot floor =
    (is_member world.n node && world.lost node)
    && (nat_lt (size world.n world.lost) (majority_of world.n)
    && (nat_le (world.nodes node).content.boot boot
    && (nat_le boot last_boot
    && all_most (length (world.nodes node).content.rows) world.least floor)))

-- a node that is open on a new store with the given boot, number of tokens and floors
abbrev pub opening_node : ℕ → ℕ → (ℕ → ℕ) → NodeState
opening_node boot tokens floor = record {
  content = record { boot = boot; rows = opening_rows tokens floor; last = None };
  voter = fresh_voter;
  owners = [];
  answers = [];
  running = true;
}

-- the note on a replacement of the node's store
abbrev pub note_anew : ℕ → ℕ → Note
note_anew event node =
    record { event = event; node = node; anew = true; began = None; pass = None; failed = None }

-- the floor of a token in a list, from token 0 on
abbrev pub floor_in : List ℕ → ℕ → ℕ
floor_in floors token = slice_index_or floors token 0

-- the world after a replacement of the lost node's store in the event, with the given boot and floors
unfoldable pub world_after_anew : ℕ → ℕ → ℕ → (ℕ → ℕ) → World → World
world_after_anew event node boot floor world =
    if may_be_anew world node boot floor
    then record world {
      nodes = with_state node (opening_node boot (length (world.nodes node).content.rows) floor) world.nodes;
      lost = without_node node world.lost;
      history = note_anew event node ∷ world.history;
    }
    else world

-- ---- Stops

-- the new world with the sent datagrams and replies of the old one
abbrev pub with_told_of : World → World → World
with_told_of old new = record new { sent = old.sent; told = old.told }

-- the world after the event of the given number
unfoldable pub world_after_event : Config → ℕ → WorldEvent → World → World
world_after_event config event (Happens act) world = world_after_act config event act world
world_after_event config event (Cut true act) world =
    world_after_restart (node_of act world) (with_told_of world (world_after_act config event act world))
world_after_event config event (Cut false act) world = world_after_restart (node_of act world) world
world_after_event config event (Restart node) world = world_after_restart (Some node) world
world_after_event config event (Lost node) world = world_after_loss node world
world_after_event config event (Anew node boot floors) world =
    world_after_anew event node boot (floor_in floors) world

-- ---- A run

-- the world after the events, the first of which has the given number
unfoldable pub world_after_events : Config → ℕ → List WorldEvent → World → World
world_after_events config first [] world = world
world_after_events config first (event ∷ events) world =
    world_after_events config (suc first) events (world_after_event config first event world)

-- the floor of a token with which a node opens, from the lists of the nodes 1, 2 ..
abbrev pub floor_at : List (List ℕ) → ℕ → ℕ → ℕ
floor_at floors node = floor_in (slice_index_or floors (node - 1) [])

-- The start of a cluster: the nodes 1 to n, the boots and floors at which they open, and messages of earlier boots that
-- may still arrive.
pub record Start : Type 0 where
  pub n : ℕ
  pub opening : Opening

-- datagrams from before the start are of earlier boots, and fit
abbrev pub MayStart : Config → Start → Type 0
MayStart config start = MayOpen start.n (length config.book) start.opening

-- the first start of one node for each list of floors: each opens at boot 1, and nothing was sent
abbrev pub first_start : List (List ℕ) → Start
first_start floors = record { n = length floors; opening = first_opening (floor_at floors) }

-- the world before any event
abbrev pub opening_world : Config → Start → World
opening_world config start = record {
  n = start.n;
  nodes = λ node. opening_node (start.opening.boot node) (length config.book) (start.opening.floor node);
  lost = λ node. false;
  least = λ token. 0;
  sent = start.opening.old;
  history = [];
  told = [];
}

-- the world after all events
abbrev pub world_of : Config → Start → List WorldEvent → World
world_of config start events = world_after_events config 0 events (opening_world config start)

-- the world before the event of the given number
abbrev pub world_before : Config → Start → List WorldEvent → ℕ → World
world_before config start events event = world_after_events config 0 (take event events) (opening_world config start)

-- the floor that the node has of the token before the event of the given number
abbrev pub floor_before : Config → Start → List WorldEvent → ℕ → ℕ → ℕ → ℕ
floor_before config start events node token event =
    (row ((world_before config start events event).nodes node).content token).next

-- ---- The report of a run

-- the record of begun proposals, with the proposal that was begun in the event
abbrev pub begun_with : ℕ → Option Beginning → (ProposalRecord → Option Begun) → ProposalRecord → Option Begun
begun_with event None book = book
begun_with event (Some began) book =
    with_begun began.proposal (record { token = began.token; lo = began.lo; hi = began.hi; event = event }) book

-- the token, the factors and the event of each proposal in a history
abbrev pub begun_in : List Note → ProposalRecord → Option Begun
begun_in [] = λ proposal. None
begun_in (note ∷ history) = begun_with note.event note.began (begun_in history)

-- the acceptance of the pass that the node wrote in the event, by the record of begun proposals
abbrev pub acceptance_in : (ProposalRecord → Option Begun) → ℕ → ℕ → Option PassRecord → List Acceptance
acceptance_in book event node None = []
acceptance_in book event node (Some pass) =
    record {
      began = began_in (book (record { node = node; boot = pass.boot; seq = pass.seq }));
      ended = event;
      node = node;
      token = pass.token;
      lo = pass.lo;
      hi = pass.hi;
    } ∷ []

-- the acceptances of a history, in order
abbrev pub passes_in : List Note → List Acceptance
passes_in [] = []
passes_in (note ∷ history) =
    passes_in history ++ acceptance_in (begun_in (note ∷ history)) note.event note.node note.pass

-- the acceptances of a run
abbrev pub passes_of : Config → Start → List WorldEvent → List Acceptance
passes_of config start events = passes_in (world_of config start events).history

-- the report of a run: its acceptances, its answers, and the number of datagrams sent
pub record ReportValue : Type 0 where
  pub passes : List Acceptance
  pub answers : List Answer
  pub sent : ℕ

-- the report of a run
abbrev pub report_of : Config → Start → List WorldEvent → ReportValue
report_of config start events =
    let world = world_of config start events in
    record { passes = passes_in world.history; answers = world.told; sent = length world.sent }
