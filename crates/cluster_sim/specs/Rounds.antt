-- The recovery after faults. A sweep levels the floors of live members. In each round the live members answer one
-- client's line, and all other datagrams are lost. Floor: the first free factor of a token at a node.
use Rattle.std.specs.Prelude.{◌≡◌, ℕ, zero, suc, ◌+◌, ◌*◌, ◌==◌, ◌&&◌, ◌<◌, ◌≤◌, ◌^◌, max, Bool, true, false, if◌then◌else◌, List, [], ◌∷◌, ◌++◌, length, map, drop}
use Rattle.std.specs.List.{list_any, range_with_len}
use Rattle.admit_core.specs.Throttle.{Result}
use Rattle.vote_core.specs.Rows.{row}
use Rattle.vote_core.specs.Schedule.{Envelope}
use Rattle.vote_core.specs.declared.message.Message.{Message}
use Rattle.vote_core.specs.declared.message.Message.TheVariants.{Ask, Grant, Deny, Floor}
use Rattle.oath_node.specs.Alone.{drifts_in, floors_in}
use Rattle.oath_node.specs.Machine.{Config}
use Rattle.oath_node.specs.ReferenceServer.{Front, Line}
use Rattle.cluster_sim.specs.FrontEnds.{FrontedServer, fronted_after, service_at_front}
use Rattle.cluster_sim.specs.Results.{results_in}
use Rattle.cluster_sim.specs.World.{World, WorldEvent, Happens, Says, Deliver, Ticks, Answer, has_store, world_after_event, world_after_events, world_of, report_of, Start}

-- ---- Live members

-- the node is in the list
abbrev pub is_live : List ℕ → ℕ → Bool
is_live live node = list_any (λ member. member == node) live

-- each node of the list is a running member that has its store
abbrev pub AreUp : List ℕ → World → Type 0
AreUp live world =
    (node : ℕ) → is_live live node ≡ true → (has_store world node ≡ true) × ((world.nodes node).running ≡ true)

-- the node's floor of a token
abbrev pub next_at : World → ℕ → ℕ → ℕ
next_at world node token = (row (world.nodes node).content token).next

-- the greatest floor of a token among the nodes
abbrev pub greatest : List ℕ → World → ℕ → ℕ
greatest [] world token = 0
greatest (node ∷ nodes) world token = max (next_at world node token) (greatest nodes world token)

-- neither a proposal nor a line waits at the node
abbrev pub HasNonePending : World → ℕ → Type 0
HasNonePending world node = ((world.nodes node).voter.pending ≡ []) × ((world.nodes node).owners ≡ [])

-- ---- Deliveries

-- A Deliver for each datagram that passes the test, to its receiver, in order. The first datagram is number k of all
-- that were sent.
abbrev pub deliveries : (Envelope → Bool) → ℕ → List Envelope → List WorldEvent
deliveries test k [] = []
deliveries test k (envelope ∷ envelopes) =
    if test envelope
    then Happens (Deliver envelope.receiver k) ∷ deliveries test (suc k) envelopes
    else deliveries test (suc k) envelopes

-- the datagram is from one live member to another
abbrev pub is_between : List ℕ → Envelope → Bool
is_between live envelope = is_live live envelope.sender && is_live live envelope.receiver

-- the message tells a floor
abbrev pub is_floor : Message → Bool
is_floor (Ask proposal token span) = false
is_floor (Grant proposal token span) = false
is_floor (Deny proposal token next) = false
is_floor (Floor token next) = true

-- the datagram tells a live member a floor
abbrev pub is_floor_to : List ℕ → Envelope → Bool
is_floor_to live envelope = is_floor envelope.message && is_live live envelope.receiver

-- ---- A sweep

-- a tick of the node in the event, followed by each Floor that it sent to a live member
abbrev pub tick_events : Config → List ℕ → ℕ → World → ℕ → List WorldEvent
tick_events config live event world node =
    let ticked = world_after_event config event (Happens (Ticks node)) world in
    Happens (Ticks node) ∷ deliveries (is_floor_to live) (length world.sent) (drop (length world.sent) ticked.sent)

-- the given number of ticks of the node with their Floors, from the event on
abbrev pub turn_events : Config → List ℕ → ℕ → ℕ → World → ℕ → List WorldEvent
turn_events config live zero first world node = []
turn_events config live (suc ticks) first world node =
    let one = tick_events config live first world node in
    one ++ turn_events config live ticks (length one + first) (world_after_events config first one world) node

-- the turns of the nodes, from the event on: one tick for each token, and at least 8 ticks
abbrev pub turns_events : Config → List ℕ → ℕ → World → List ℕ → List WorldEvent
turns_events config live first world [] = []
turns_events config live first world (node ∷ nodes) =
    let one = turn_events config live (max (length config.book) 8) first world node in
    one ++ turns_events config live (length one + first) (world_after_events config first one world) nodes

-- a sweep: the turns of all live members
abbrev pub sweep_events : Config → List ℕ → ℕ → World → List WorldEvent
sweep_events config live first world = turns_events config live first world live

-- A turn of a live member, from any world. Nothing waits at the member afterwards. Every floor is at least the member's
-- and at least its former value. No floor is above the greatest.
abbrev pub TurnLevels : Type 0
TurnLevels =
    (config : Config) (start : Start) (before : List WorldEvent) (live : List ℕ) (node : ℕ)
    → let old = world_of config start before in
    let turn = turn_events config live (max (length config.book) 8) (length before) old node in
    let new = world_after_events config (length before) turn old in
    AreUp live old → is_live live node ≡ true
    → HasNonePending new node × ((other token : ℕ) → is_live live other ≡ true → token < length config.book
    → (next_at old node token ≤ next_at new other token) × (next_at old other token ≤ next_at new other token)
    × (next_at new other token ≤ greatest live old token))

-- A sweep, from any world. Afterwards nothing waits at a live member, and every floor is the greatest that a live
-- member had.
abbrev pub SweepLevels : Type 0
SweepLevels =
    (config : Config) (start : Start) (before : List WorldEvent) (live : List ℕ)
    → let old = world_of config start before in
    let new = world_after_events config (length before) (sweep_events config live (length before) old) old in
    AreUp live old
    → AreUp live new × ((node : ℕ) → is_live live node ≡ true → HasNonePending new node × ((token : ℕ)
    → token < length config.book → next_at new node token ≡ greatest live old token))

-- ---- Settled members

-- each node once, in ascending order
abbrev pub IsAscending : List ℕ → Type 0
IsAscending [] = Unit {0}
IsAscending (node ∷ []) = Unit {0}
IsAscending (node ∷ next ∷ nodes) = (node < next) × IsAscending (next ∷ nodes)

-- all live members have the same floor of each token
abbrev pub AreLevel : Config → List ℕ → World → Type 0
AreLevel config live world =
    (node other token : ℕ) → is_live live node ≡ true → is_live live other ≡ true → token < length config.book
    → next_at world node token ≡ next_at world other token

-- a running strict majority of the nodes, with level floors and nothing waiting
pub record IsSettled (config : Config) (live : List ℕ) (world : World) : Type 0 where
  pub ascending : IsAscending live
  pub majority : world.n < 2 * length live
  pub up : AreUp live world
  pub none : (node : ℕ) → is_live live node ≡ true → (world.nodes node).voter.pending ≡ []
  pub level : AreLevel config live world

-- a sweep settles a running strict majority
abbrev pub SweepSettles : Type 0
SweepSettles =
    (config : Config) (start : Start) (before : List WorldEvent) (live : List ℕ)
    → let old = world_of config start before in
    IsAscending live → old.n < 2 * length live → AreUp live old
    → IsSettled config live (world_of config start (before ++ sweep_events config live (length before) old))

-- ---- A round

-- a client's line at a node
pub record RoundLine : Type 0 where
  pub node : ℕ
  pub client : ℕ
  pub moment : ℕ
  pub line : List ℕ

-- the arrival of the line
abbrev pub line_event : RoundLine → WorldEvent
line_event line = Happens (Says line.node line.client line.moment line.line)

-- The events of a round. The line arrives. A Deliver follows for each datagram of the round from a live member to a
-- live member, in the order of sending, until all have arrived.
abbrev pub IsRound : Config → List ℕ → ℕ → World → RoundLine → List WorldEvent → Type 0
IsRound config live first world line events =
    let new = world_after_events config first events world in
    events ≡ line_event line ∷ deliveries (is_between live) (length world.sent) (drop (length world.sent) new.sent)

-- the events are consecutive rounds, one for each line
abbrev pub AreRounds : Config → List ℕ → ℕ → World → List RoundLine → List WorldEvent → Type 0
AreRounds config live first world [] events = events ≡ []
AreRounds config live first world (line ∷ lines) events =
    (one : List WorldEvent) × (more : List WorldEvent) × (events ≡ one ++ more)
    × IsRound config live first world line one
    × AreRounds config live (length one + first) (world_after_events config first one world) lines more

-- A computed round: the line, its datagrams between live members, and the datagrams that these cause. An answer causes
-- no further datagram.
abbrev pub round_events : Config → List ℕ → ℕ → World → RoundLine → List WorldEvent
round_events config live first world line =
    let asked = world_after_event config first (line_event line) world in
    let asks = deliveries (is_between live) (length world.sent) (drop (length world.sent) asked.sent) in
    let answered = world_after_events config (suc first) asks asked in
    line_event line ∷ asks
    ++ deliveries (is_between live) (length asked.sent) (drop (length asked.sent) answered.sent)

-- computed rounds, one for each line
abbrev pub rounds_events : Config → List ℕ → ℕ → World → List RoundLine → List WorldEvent
rounds_events config live first world [] = []
rounds_events config live first world (line ∷ lines) =
    let one = round_events config live first world line in
    one ++ rounds_events config live (length one + first) (world_after_events config first one world) lines

-- the events followed by rounds for the lines
abbrev pub events_with_rounds : Config → Start → List WorldEvent → List ℕ → List RoundLine → List WorldEvent
events_with_rounds config start before live lines =
    before ++ rounds_events config live (length before) (world_of config start before) lines

-- ---- The server of live members

-- the first of the nodes
abbrev pub first_of : List ℕ → ℕ
first_of [] = 0
first_of (node ∷ nodes) = node

-- the results of each token at a node
abbrev pub results_at : World → ℕ → List (List Result)
results_at world node =
    map (λ token. results_in world.history node token) (range_with_len 0 (length (world.nodes node).content.rows))

-- the front end of a node: its results and drifts of each token, and its answers
abbrev pub front_at : World → ℕ → Front
front_at world node = record {
  results = results_at world node;
  drifts = drifts_in (world.nodes node).content;
  answers = (world.nodes node).answers;
}

-- the server of live members: the floors of the first one, which all share, and each node as a front end under its
-- number
abbrev pub server_of : List ℕ → World → FrontedServer
server_of live world = record { floors = floors_in (world.nodes (first_of live)).content; fronts = front_at world }

-- each line arrives at a live member
abbrev pub AreAtLive : List ℕ → List RoundLine → Type 0
AreAtLive live [] = Unit {0}
AreAtLive live (line ∷ lines) = (is_live live line.node ≡ true) × AreAtLive live lines

-- each live member has a number left for the proposal of each line
abbrev pub HaveNumbers : List ℕ → World → List RoundLine → Type 0
HaveNumbers live world lines =
    (node : ℕ) → is_live live node ≡ true → (world.nodes node).voter.seq + length lines ≤ 2 ^ 62

-- the line in the form of the server's lines
abbrev pub as_line : RoundLine → Line
as_line line = record { client = line.client; moment = line.moment; text = line.line }

-- the server after the lines, each at its node's front end
abbrev pub server_after_lines : Config → FrontedServer → List RoundLine → FrontedServer
server_after_lines config server [] = server
server_after_lines config server (line ∷ lines) =
    server_after_lines config (fronted_after config server line.node (as_line line)) lines

-- the reply goes to the line's client at its node, from event `first` on and before event `end`
pub record IsAnswerTo (first end : ℕ) (line : RoundLine) (reply : List ℕ) (told : Answer) : Type 0 where
  pub since : first ≤ told.event
  pub before : told.event < end
  pub node : told.node ≡ line.node
  pub client : told.client ≡ line.client
  pub bytes : reply ≡ told.bytes

-- each line has one answer, within its own round, as the server answers it
abbrev pub AreAnswersTo : Config → List ℕ → ℕ → World → FrontedServer → List RoundLine → List Answer → Type 0
AreAnswersTo config live first world server [] answers = answers ≡ []
AreAnswersTo config live first world server (line ∷ lines) [] = ⊥
AreAnswersTo config live first world server (line ∷ lines) (answer ∷ answers) =
    let round = round_events config live first world line in
    let service = service_at_front config server line.node (as_line line) in
    IsAnswerTo first (length round + first) line service.told.bytes answer
    × AreAnswersTo config live (length round + first) (world_after_events config first round world)
    (fronted_after config server line.node (as_line line)) lines answers

-- The replies between two worlds are the answers of the old world's server to the lines. The live members of the new
-- world are settled, and their server is the server after the lines.
pub record ServesAsOne (config : Config) (live : List ℕ) (first : ℕ) (old new : World)
    (lines : List RoundLine) : Type 0 where
  pub answers : List Answer
  pub told : new.told ≡ old.told ++ answers
  pub are : AreAnswersTo config live first old (server_of live old) lines answers
  pub settled : IsSettled config live new
  pub server : server_of live new ≡ server_after_lines config (server_of live old) lines

-- the conditions of rounds: settled members, lines at them, and a number for each proposal
pub record AreServable (config : Config) (live : List ℕ) (world : World) (lines : List RoundLine) : Type 0 where
  pub settled : IsSettled config live world
  pub at_live : AreAtLive live lines
  pub numbers : HaveNumbers live world lines

-- from any world, settled members answer rounds as the one server answers the lines
abbrev pub RoundsAreTheReference : Type 0
RoundsAreTheReference =
    (config : Config) (start : Start) (before : List WorldEvent) (live : List ℕ) (lines : List RoundLine)
    → let old = world_of config start before in
    let rounds = rounds_events config live (length before) old lines in
    AreServable config live old lines
    → ServesAsOne config live (length before) old (world_after_events config (length before) rounds old) lines

-- few enough events leave a number for the proposal of each line
abbrev pub RoundsByCount : Type 0
RoundsByCount =
    (config : Config) (start : Start) (before : List WorldEvent) (live : List ℕ) (lines : List RoundLine)
    → length before + length lines ≤ 2 ^ 62 → HaveNumbers live (world_of config start before) lines

-- the computed events are rounds, and no others are
abbrev pub RoundsAreThese : Type 0
RoundsAreThese =
    (config : Config) (start : Start) (before : List WorldEvent) (live : List ℕ) (lines : List RoundLine)
    → let old = world_of config start before in
    let rounds = rounds_events config live (length before) old lines in
    AreServable config live old lines
    → AreRounds config live (length before) old lines rounds
    × ((events : List WorldEvent) → AreRounds config live (length before) old lines events → events ≡ rounds)

-- ---- A report

-- The report of events that end in rounds. The answers are the earlier ones followed by one to each line, within its
-- own round, as the server answers it. The live members are settled again.
pub record AreServed (config : Config) (start : Start) (before rounds : List WorldEvent) (live : List ℕ)
    (lines : List RoundLine) (answers : List Answer) : Type 0 where
  pub more : List Answer
  pub told : answers ≡ (report_of config start before).answers ++ more
  pub are : AreAnswersTo config live (length before) (world_of config start before)
      (server_of live (world_of config start before)) lines more
  pub settled : IsSettled config live (world_of config start (before ++ rounds))

-- the report of events that end in rounds has another answer to each line, as the server answers it
abbrev pub RoundsReported : Type 0
RoundsReported =
    (config : Config) (start : Start) (before rounds : List WorldEvent) (live : List ℕ)
    (lines : List RoundLine)
    → let old = world_of config start before in
    AreServable config live old lines → AreRounds config live (length before) old lines rounds
    → AreServed config start before rounds live lines (report_of config start (before ++ rounds)).answers

-- events that end in a sweep of a running strict majority
pub record EndInSweep (config : Config) (start : Start) (events : List WorldEvent)
    (live : List ℕ) : Type 0 where
  pub before : List WorldEvent
  pub are : events ≡ before ++ sweep_events config live (length before) (world_of config start before)
  pub ascending : IsAscending live
  pub majority : start.n < 2 * length live
  pub up : AreUp live (world_of config start before)

-- a sweep at the end settles its members
abbrev pub SweepEndSettles : Type 0
SweepEndSettles =
    (config : Config) (start : Start) (events : List WorldEvent) (live : List ℕ)
    → EndInSweep config start events live → IsSettled config live (world_of config start events)
