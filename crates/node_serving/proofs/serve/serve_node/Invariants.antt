use Rattle.std.proofs.Common.{◌≡◌}
use Rattle.node_serving.proofs.StretchLemmas.{AreSoFar}
use Rattle.node_serving.proofs.serve.serve_node.Given as goal

-- Stretches were served until now, with the counts in `before`, and the port's setup stays.
abbrev pub invariant-loop-left : goal.invariant-loop-left
invariant-loop-left g l =
    AreSoFar g.S.FloorStore.held g.U.Attend.acts l.initial.node l.node (g.P.Port.events l.initial.port) (g.P.Port.events l.port)
    (g.C.Clock.moments l.initial.clock) (g.C.Clock.moments l.clock) l.turns l.left l.before
    × (g.P.Port.setup l.port ≡ g.P.Port.setup l.initial.port)

abbrev pub decreases-loop-left : goal.decreases-loop-left
decreases-loop-left g l = l.left
