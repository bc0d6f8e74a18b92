-- The effects of a simulation's calls on a world in rounds. Only private contracts cite it: no public contract depends
-- on it.
use Rattle.std.specs.Prelude.{◌≡◌, ℕ, ◌+◌, List, [], ◌∷◌, length, drop, take, Result, IfOk}
use Rattle.oath_node.specs.Machine.{Config}
use Rattle.cluster_sim.specs.Journal.{AreSpelled, IsRun, SimulationRecord}
use Rattle.cluster_sim.specs.Rounds.{deliveries, is_between}
use Rattle.cluster_sim.specs.World.{World, WorldEvent, Happens, Cut, Restart, Lost, Anew, world_after_events}

-- each of the events is an act
abbrev pub AreActs : List WorldEvent → Type 0
AreActs [] = Unit {0}
AreActs (Happens act ∷ events) = AreActs events
AreActs (Cut kept act ∷ events) = ⊥
AreActs (Restart node ∷ events) = ⊥
AreActs (Lost node ∷ events) = ⊥
AreActs (Anew node boot floors ∷ events) = ⊥

-- each datagram reads as its envelope, after any acts from the given event on
abbrev pub StaySpelled : Config → ℕ → World → Type 0
StaySpelled config first world =
    (events : List WorldEvent) → AreActs events → AreSpelled (world_after_events config first events world)

-- the events, the first of which has the number `first`, happened to a world, and `next` is the next number
pub record HaveHappened (config : Config) (key : List ℕ) (first : ℕ) (events : List WorldEvent) (world : World)
    (simulation : SimulationRecord) (next : ℕ) : Type 0 where
  pub run : IsRun config key (world_after_events config first events world) simulation
  pub count : next ≡ length events + first

-- A call on a simulation that performs events, which the world decides, from number `first` on. It returns the number
-- of the next event, unless the allocator refused the memory.
abbrev pub PlaysEvents : {E : Type 0} → List ℕ → ℕ → (Config → World → List WorldEvent) → SimulationRecord
    → SimulationRecord → Result ℕ E → Type 0
PlaysEvents key first events old new result =
    (config : Config) (world : World) → IsRun config key world old → StaySpelled config first world
    → IfOk result (λ next. HaveHappened config key first (events config world) world new next)

-- the delivery of the datagram number `k`, if it was sent from a live member to a live member
abbrev pub delivery_of : List ℕ → ℕ → World → List WorldEvent
delivery_of live k world = deliveries (is_between live) k (take 1 (drop k world.sent))

-- the deliveries of all datagrams from number `k` on that were sent from a live member to a live member
abbrev pub deliveries_from : List ℕ → ℕ → World → List WorldEvent
deliveries_from live k world = deliveries (is_between live) k (drop k world.sent)
