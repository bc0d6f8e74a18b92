use Rattle.std.proofs.Common.{◌+◌, List, [], ◌∷◌, ◌++◌, arith, refl, sym, ap, subst, ◌∙◌}
use Rattle.std.specs.Prelude.{Result, Ok}
use Rattle.oath_node.specs.declared.fault.NodeFault.{NodeFault}
use Rattle.oath_node.specs.declared.item.Item.{Item}
use Rattle.datagram_port.specs.Port.{event_of_receive}
use Rattle.oath_node.specs.TurnSteps.{Gathers, GathersBatch, items_in, scene}
use Rattle.oath_node.specs.declared.turns.Gathered.{Gathered}
use Rattle.oath_node.proofs.BatchLemmas.{gathers_failed, gathers_few, gathers_more, gathers_next, gathers_none, gathers_still, one_more}
use Rattle.oath_node.proofs.GrowLemmas.{err_is}
use Rattle.oath_node.proofs.turns.gather.Goals as goal

pub returns-in_err-end-clause-gathers : goal.returns-in_err-end-clause-gathers
returns-in_err-end-clause-gathers g c =
    let held = g.S.FloorStore.held in
    let start = scene g.P.Port.events c.args.node.now c.args.port.now c.args.tally.now in
    let new = scene g.P.Port.events c.take_received.new.node c.receive-first.new.self c.take_received.new.tally in
    let asked = g.C.Clock.moments c.args.clock.now in
    let told = g.C.Clock.moments c.take_received.new.clock in
    let waited = c.args.outbox.now.items in
    let waits = c.take_received.new.outbox.items in
    let turns = c.args.turns in
    let fault = c.in_err-end.field-0.0 in
    let none : Gathers held start start [] asked asked (items_in waited) =
    subst (λ (items : List Item). Gathers held start start [] asked asked items) (sym (ap items_in c.requires.empty)) (gathers_none held start asked) in
    subst (λ (r : Result Gathered NodeFault). GathersBatch held start new asked told (items_in waits) turns r)
    (sym (err_is c.from_residual.result fault c.from_residual.ensures.1))
    (gathers_failed held start start new [] (event_of_receive c.receive-first.result c.receive-first.new.buffer) asked asked told waited waits
    (items_in waits) turns fault none c.receive-first.ensures.event c.in_err-end.ensures (omega (arith, c.requires.some)))

pub loop-outbox-init : goal.loop-outbox-init
loop-outbox-init g c =
    let held = g.S.FloorStore.held in
    let start = scene g.P.Port.events c.args.node.now c.args.port.now c.args.tally.now in
    let new = scene g.P.Port.events c.take_received.new.node c.receive-first.new.self c.take_received.new.tally in
    let asked = g.C.Clock.moments c.args.clock.now in
    let told = g.C.Clock.moments c.take_received.new.clock in
    let waited = c.args.outbox.now.items in
    let waits = c.take_received.new.outbox.items in
    let none : Gathers held start start [] asked asked (items_in waited) =
    subst (λ (items : List Item). Gathers held start start [] asked asked items) (sym (ap items_in c.requires.empty)) (gathers_none held start asked) in (
      gathers_next held start start new [] (event_of_receive c.receive-first.result c.receive-first.new.buffer) asked asked told waited waits
          c.args.turns 1 c.in_ok-end.end none c.receive-first.ensures.event c.in_ok-end.ensures (omega arith) (omega (arith, c.requires.some)),
      c.receive-first.ensures.stays,
    )

pub take_received-requires-in-loop-outbox-clause-few :
    goal.take_received-requires-in-loop-outbox-clause-few
take_received-requires-in-loop-outbox-clause-few g c =
    gathers_few g.S.FloorStore.held (scene g.P.Port.events c.args.node.now c.args.port.now c.args.tally.now)
    (scene g.P.Port.events c.loop-outbox.node c.loop-outbox.port c.loop-outbox.tally) (g.C.Clock.moments c.args.clock.now)
    (g.C.Clock.moments c.loop-outbox.clock) (items_in c.loop-outbox.outbox.items) c.args.turns
    (record { turns = c.loop-outbox.taken; end = c.loop-outbox.end }) c.loop-outbox.invariant.0 (c.is_more.ensures.0 c.loop-outbox-test.true)
    c.if-taken-turns.true c.requires.few.0

pub returns-in_err-end-2-clause-gathers : goal.returns-in_err-end-2-clause-gathers
returns-in_err-end-2-clause-gathers g c =
    let held = g.S.FloorStore.held in
    let start = scene g.P.Port.events c.args.node.now c.args.port.now c.args.tally.now in
    let now = scene g.P.Port.events c.loop-outbox.node c.loop-outbox.port c.loop-outbox.tally in
    let new = scene g.P.Port.events c.take_received-in-loop-outbox.new.node c.poll.new.self c.take_received-in-loop-outbox.new.tally in
    let asked = g.C.Clock.moments c.args.clock.now in
    let told = g.C.Clock.moments c.loop-outbox.clock in
    let said = g.C.Clock.moments c.take_received-in-loop-outbox.new.clock in
    let waited = c.loop-outbox.outbox.items in
    let waits = c.take_received-in-loop-outbox.new.outbox.items in
    let turns = c.args.turns in
    let gathered : Gathered = record { turns = c.loop-outbox.taken; end = c.loop-outbox.end } in
    let so_far : GathersBatch held start now asked told (items_in waited) turns (Ok gathered) = c.loop-outbox.invariant.0 in
    let batch = so_far.before ++ so_far.last ∷ [] in
    let more = gathers_more held start now asked told (items_in waited) turns gathered so_far (c.is_more.ensures.0 c.loop-outbox-test.true) in
    let fault = c.in_err-end-2.field-0.0 in
    let count = so_far.count in
    subst (λ (r : Result Gathered NodeFault). GathersBatch held start new asked said (items_in waits) turns r)
    (sym (err_is c.from_residual-in_err-end-2.result fault c.from_residual-in_err-end-2.ensures.1))
    (gathers_failed held start now new batch (event_of_receive c.in-Some.next c.poll.new.buffer) asked told said waited waits (items_in waits)
    turns fault more c.in-Some.ensures.event c.in_err-end-2.ensures
    (omega (arith, one_more so_far.before so_far.last, count, c.if-taken-turns.true)))

pub loop-outbox-preserved : goal.loop-outbox-preserved
loop-outbox-preserved g c =
    let held = g.S.FloorStore.held in
    let start = scene g.P.Port.events c.args.node.now c.args.port.now c.args.tally.now in
    let now = scene g.P.Port.events c.loop-outbox.node c.loop-outbox.port c.loop-outbox.tally in
    let new = scene g.P.Port.events c.take_received-in-loop-outbox.new.node c.poll.new.self c.take_received-in-loop-outbox.new.tally in
    let asked = g.C.Clock.moments c.args.clock.now in
    let told = g.C.Clock.moments c.loop-outbox.clock in
    let said = g.C.Clock.moments c.take_received-in-loop-outbox.new.clock in
    let waited = c.loop-outbox.outbox.items in
    let waits = c.take_received-in-loop-outbox.new.outbox.items in
    let turns = c.args.turns in
    let gathered : Gathered = record { turns = c.loop-outbox.taken; end = c.loop-outbox.end } in
    let so_far : GathersBatch held start now asked told (items_in waited) turns (Ok gathered) = c.loop-outbox.invariant.0 in
    let batch = so_far.before ++ so_far.last ∷ [] in
    let more = gathers_more held start now asked told (items_in waited) turns gathered so_far (c.is_more.ensures.0 c.loop-outbox-test.true) in
    let count = so_far.count in (
      gathers_next held start now new batch (event_of_receive c.in-Some.next c.poll.new.buffer) asked told said waited waits turns
          (c.loop-outbox.taken + 1) c.in_ok-end-2.end more c.in-Some.ensures.event c.in_ok-end-2.ensures
          (omega (arith, one_more so_far.before so_far.last, count)) (omega (arith, c.if-taken-turns.true)),
      c.poll.ensures.stays ∙ c.loop-outbox.invariant.1,
    )

pub returns-in_default-clause-gathers : goal.returns-in_default-clause-gathers
returns-in_default-clause-gathers g c =
    gathers_still g.S.FloorStore.held (scene g.P.Port.events c.args.node.now c.args.port.now c.args.tally.now)
    (scene g.P.Port.events c.loop-outbox.node c.loop-outbox.port c.loop-outbox.tally)
    (scene g.P.Port.events c.loop-outbox.node c.poll.new.self c.loop-outbox.tally) (g.C.Clock.moments c.args.clock.now)
    (g.C.Clock.moments c.loop-outbox.clock) (items_in c.loop-outbox.outbox.items) c.args.turns
    (record { turns = c.loop-outbox.taken; end = c.loop-outbox.end }) c.loop-outbox.invariant.0 refl refl c.in_default.ensures.event
