-- The world of nodes as a cluster of voters: which voting event each event is.
use Rattle.std.specs.Prelude.{ℕ, suc, if◌then◌else◌, List, [], ◌∷◌, Option, Some, None, slice_get}
use Rattle.vote_core.specs.Schedule.{Member, Envelope, Cluster, Act as Vote, Begin, Deliver as Passes, Tick, Throttle, Idle, Event, Happens as Done, Cut as Stopped, Restart as Reopened, Lost as Gone, Replaced}
use Rattle.oath_node.specs.Machine.{Config, NodeState, gate_with_failure, is_heard, ruling_at}
use Rattle.oath_node.specs.declared.ruling.Ruling.{Ruling}
use Rattle.oath_node.specs.declared.ruling.Ruling.TheVariants.{Outside, Again, Waiting, Denied, Wrong, Fitting}
use Rattle.cluster_sim.specs.World.{World, Act, Says, Deliver, Ticks, Noise, WorldEvent, Happens, Cut, Restart, Lost, Anew, begun_in, floor_in, passes_in, place_at, world_after_event}

-- a node without its lines and kept answers
abbrev pub member_of : NodeState → Member
member_of x = record { content = x.content; voter = x.voter; running = x.running }

-- the voters of a world
abbrev pub cluster_of : World → Cluster
cluster_of world = record {
  n = world.n;
  nodes = λ node. member_of (world.nodes node);
  lost = world.lost;
  least = world.least;
  sent = world.sent;
  begun = begun_in world.history;
  accepted = passes_in world.history;
}

-- a failure changes a gate, what fits is proposed, and no other ruling is a vote
abbrev pub vote_on_ruling : ℕ → NodeState → ℕ → Ruling → Vote
vote_on_ruling node x moment Outside = Idle node
vote_on_ruling node x moment (Again text) = Idle node
vote_on_ruling node x moment Waiting = Idle node
vote_on_ruling node x moment (Denied nonce reason) = Idle node
vote_on_ruling node x moment (Wrong nonce reason token) =
    Throttle node token (gate_with_failure x.content token moment)
vote_on_ruling node x moment (Fitting nonce token span drift) = Begin node token span.lo span.hi drift

-- a datagram that is heard is a delivery; one that is dropped does nothing
abbrev pub vote_on_datagram : Config → World → ℕ → ℕ → Option Envelope → Vote
vote_on_datagram config world node k None = Passes k
vote_on_datagram config world node k (Some envelope) =
    if is_heard config (place_at world node) envelope.sender envelope then Passes k else Idle node

-- the voting act that an act is
abbrev pub vote_of : Config → World → Act → Vote
vote_of config world (Says node client moment text) =
    vote_on_ruling node (world.nodes node) moment (ruling_at config (world.nodes node) client moment text)
vote_of config world (Deliver node k) = vote_on_datagram config world node k (slice_get world.sent k)
vote_of config world (Ticks node) = Tick node
vote_of config world (Noise node from read) = Idle node

-- the voting event that an event is
abbrev pub vote_event : Config → World → WorldEvent → Event
vote_event config world (Happens act) = Done (vote_of config world act)
vote_event config world (Cut kept act) = Stopped kept (vote_of config world act)
vote_event config world (Restart node) = Reopened node
vote_event config world (Lost node) = Gone node
vote_event config world (Anew node boot floors) = Replaced node boot (floor_in floors)

-- the voting events that these events are, the first of which has this number
abbrev pub vote_events : Config → ℕ → List WorldEvent → World → List Event
vote_events config first [] world = []
vote_events config first (event ∷ events) world =
    vote_event config world event ∷ vote_events config (suc first) events (world_after_event config first event world)
