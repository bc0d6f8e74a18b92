-- The promise of every history of a cluster whose users file never changes: it is a run of the world, action by action.
use Rattle.std.specs.Prelude.{◌≡◌, ◌⊎◌, ℕ, ◌+◌, ◌≤◌, true, false, List, ◌++◌, length, map, take, Some, slice_get}
use Rattle.vote_core.specs.Schedule.{is_member}
use Rattle.oath_node.specs.Machine.{NodeEvent, Client, Peer, Tick}
use Rattle.cluster_sim.specs.Answered.{NamePasses, TellTruth}
use Rattle.cluster_sim.specs.Justified.{AreJustified}
use Rattle.cluster_sim.specs.World.{Act, Says, Deliver, Ticks, Noise, Answer, WorldEvent, Happens, Cut, Restart, Lost, Anew, floor_before, passes_of, world_before, world_of}
use Rattle.book_law.specs.Answered.{IsToldAmong}
use Rattle.book_law.specs.Lives.{Action, Opens, FailsToOpen, Takes, Offers, Stops, StopsIn, Loses, Remakes, Enrols, Unlocks, OpensGate, Raises, accepted_in, answered_in, floor_in, state_of}
use Rattle.world_law.specs.Steady.{SteadyCluster, nodes_of, setting_of, start_of}

-- the event without effect: there is no node 0
abbrev pub nothing : WorldEvent
nothing = Restart 0

-- the act of the world for an input at a node: a client's line; a datagram that was sent, or noise; or a tick
abbrev pub IsActOf : ℕ → NodeEvent → Act → Type 0
IsActOf node (Client client moment line) act = act ≡ Says node client moment line
IsActOf node Tick act = act ≡ Ticks node
IsActOf node (Peer from read) act = ((k : ℕ) × (act ≡ Deliver node k)) ⊎ (act ≡ Noise node from read)

-- an act of an input
pub record HasAct (node : ℕ) (input : NodeEvent) (made : Act → WorldEvent) (event : WorldEvent) : Type 0 where
  pub act : Act
  pub event_is : event ≡ made act
  pub is_act : IsActOf node input act

-- The event of the world for an action. An input to a node without a process has no effect, and an enrolment has none.
-- A replacement store is opened in the next boot, which is the boot that the world has. The world has no commands.
abbrev pub IsEventOf : Action → WorldEvent → Type 0
IsEventOf (Opens node terms) event = (event ≡ nothing) ⊎ (event ≡ Restart node)
IsEventOf (FailsToOpen node raised) event = (event ≡ nothing) ⊎ (event ≡ Restart node)
IsEventOf (Takes node input) event = (event ≡ nothing) ⊎ HasAct node input (λ act. Happens act) event
IsEventOf (Offers node) event = event ≡ nothing
IsEventOf (Stops node) event = event ≡ nothing
IsEventOf (StopsIn node false input) event = event ≡ nothing
IsEventOf (StopsIn node true input) event = (event ≡ nothing) ⊎ HasAct node input (λ act. Cut true act) event
IsEventOf (Loses node) event = (event ≡ nothing) ⊎ (event ≡ Lost node)
IsEventOf (Remakes node boot given floor) event =
    (event ≡ nothing) ⊎ (event ≡ Anew node (boot + 1) (map floor given))
IsEventOf (Enrols node token floor) event = event ≡ nothing
IsEventOf (Unlocks node token) event = ⊥
IsEventOf (OpensGate node token) event = ⊥
IsEventOf (Raises node token floor) event = ⊥

-- the event of an action, at its place
pub record HasEvent (action : Action) (place : ℕ) (events : List WorldEvent) : Type 0 where
  pub event : WorldEvent
  pub is_there : slice_get events place ≡ Some event
  pub is_event : IsEventOf action event

-- A history is a run of the world, event by event. Its acceptances and its members' floors are the run's, and the run
-- tells its processes' answers.
pub record IsRunOf (cluster : SteadyCluster) (before actions : List Action) (events : List WorldEvent) : Type 0 where
  pub number : length events ≡ length (before ++ actions)
  pub each : (place : ℕ) (action : Action) → slice_get (before ++ actions) place ≡ Some action
      → HasEvent action place events
  pub notes : (state_of (setting_of cluster) (before ++ actions)).notes
      ≡ (world_of cluster.config (start_of cluster) events).history
  pub notes_before : (event : ℕ) → (state_of (setting_of cluster) (take event (before ++ actions))).notes
      ≡ (world_before cluster.config (start_of cluster) events event).history
  pub accepted : accepted_in (setting_of cluster) (before ++ actions)
      ≡ passes_of cluster.config (start_of cluster) events
  -- from the enrolments on
  pub floors : (node token event : ℕ) → is_member (nodes_of cluster) node ≡ true → length before ≤ event
      → floor_in (setting_of cluster) (before ++ actions) node token event
      ≡ floor_before cluster.config (start_of cluster) events node token event
  pub answered : (place : ℕ) (answer : Answer)
      → slice_get (answered_in (setting_of cluster) (before ++ actions)) place ≡ Some answer
      → IsToldAmong answer (world_of cluster.config (start_of cluster) events).told

-- The history is such a run. In it, the client's line with which it began justifies each acceptance. Each offered `OK`
-- belongs to an acceptance, and no other offered answer begins like one.
pub record IsExplained (cluster : SteadyCluster) (before actions : List Action) : Type 0 where
  pub events : List WorldEvent
  pub is_run : IsRunOf cluster before actions events
  pub justified : AreJustified cluster.config (start_of cluster) events
      (accepted_in (setting_of cluster) (before ++ actions))
  pub told : NamePasses events (accepted_in (setting_of cluster) (before ++ actions))
      (answered_in (setting_of cluster) (before ++ actions))
  pub no_other : TellTruth events (accepted_in (setting_of cluster) (before ++ actions))
      (answered_in (setting_of cluster) (before ++ actions))
