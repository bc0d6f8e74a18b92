use Rattle.std.proofs.Common.{◌≡◌, ℕ, ◌+◌, ◌<◌, false}
use Rattle.std.specs.Prelude.{◌⊎◌}
use Rattle.oath_node.specs.Hosted.{is_waiting}
use Rattle.oath_node.specs.TurnSteps.{scene}
use Rattle.oath_node.proofs.TurnLemmas.{IsSoFar}
use Rattle.oath_node.proofs.turns.run_turns_until.Given as goal

-- The turns so far made the run that is due, and the port's setup stays. After the first batch there is an answer, which
-- was no.
abbrev pub invariant-loop-left : goal.invariant-loop-left
invariant-loop-left g l =
    (count : ℕ) × (count + l.left ≡ l.turns)
    × IsSoFar g.S.FloorStore.held l.initial.node (g.P.Port.events l.initial.port) (g.C.Clock.moments l.initial.clock) count
    (scene g.P.Port.events l.node l.port l.tally) (g.C.Clock.moments l.clock)
    × (g.P.Port.setup l.port ≡ g.P.Port.setup l.initial.port)
    × ((l.left ≡ l.turns) ⊎ ((0 < count) × g.U.Until.answers l.until l.left (is_waiting l.node) false))

abbrev pub decreases-loop-left : goal.decreases-loop-left
decreases-loop-left g l = l.left
