use Rattle.std.proofs.Common.{ℕ, List}
use Rattle.cluster_sim.proofs.Floors.{AreEventsTo}
use Rattle.cluster_sim.proofs.run.events_are_in_range.Given as goal

-- the events until now are in range
abbrev pub invariant-loop-event : goal.invariant-loop-event
invariant-loop-event l = (key : List ℕ) → AreEventsTo key l.events l.event-index
