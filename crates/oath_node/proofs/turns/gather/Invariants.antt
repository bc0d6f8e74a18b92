use Rattle.std.proofs.Common.{◌≡◌, ◌-◌, Ok}
use Rattle.oath_node.specs.TurnSteps.{GathersBatch, items_in, scene}
use Rattle.oath_node.proofs.turns.gather.Given as goal

-- what was received so far is taken, and the port's setup stays
abbrev pub invariant-loop-outbox : goal.invariant-loop-outbox
invariant-loop-outbox g l =
    GathersBatch g.S.FloorStore.held (scene g.P.Port.events l.fn.node l.fn.port l.fn.tally) (scene g.P.Port.events l.node l.port l.tally)
    (g.C.Clock.moments l.fn.clock) (g.C.Clock.moments l.clock) (items_in l.outbox.items) l.turns
    (Ok (record { turns = l.taken; end = l.end }))
    × (g.P.Port.setup l.port ≡ g.P.Port.setup l.fn.port)

abbrev pub decreases-loop-outbox : goal.decreases-loop-outbox
decreases-loop-outbox g l = l.turns - l.taken
