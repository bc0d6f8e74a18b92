use Rattle.std.proofs.Common.{ℕ, sym, subst}
use Rattle.std.specs.Prelude.{Result}
use Rattle.oath_node.specs.TurnSteps.{TakesBatch, items_in, scene}
use Rattle.oath_node.specs.declared.serve_fault.ServeFault.{ServeFault}
use Rattle.oath_node.specs.declared.serve_fault.ServeFault.TheVariants.{Node}
use Rattle.oath_node.proofs.BatchLemmas.{batch_by_clock, batch_by_port, batch_served, batch_ungathered, batch_unsettled, no_fault_of}
use Rattle.oath_node.proofs.GrowLemmas.{err_is}
use Rattle.oath_node.proofs.turns.take_batch.Goals as goal

pub returns-in_err-batch-clause-takes : goal.returns-in_err-batch-clause-takes
returns-in_err-batch-clause-takes g c =
    let held = g.S.FloorStore.held in
    let old = scene g.P.Port.events c.args.node.now c.args.port.now c.args.tally.now in
    let new = scene g.P.Port.events c.gather.new.node c.gather.new.port c.gather.new.tally in
    let asked = g.C.Clock.moments c.args.clock.now in
    let told = g.C.Clock.moments c.gather.new.clock in
    let fault = c.in_err-batch.field-0.0 in
    subst (λ (r : Result ℕ ServeFault). TakesBatch held old new asked told c.args.turns r)
    (sym (err_is c.from_residual.result (Node fault) c.from_residual.ensures.1))
    (batch_ungathered held old new asked told (items_in c.gather.new.outbox.items) c.args.turns fault c.in_err-batch.ensures.gathers)

pub returns-in_err-settle-clause-takes : goal.returns-in_err-settle-clause-takes
returns-in_err-settle-clause-takes g c =
    let held = g.S.FloorStore.held in
    let old = scene g.P.Port.events c.args.node.now c.args.port.now c.args.tally.now in
    let mid = scene g.P.Port.events c.gather.new.node c.gather.new.port c.gather.new.tally in
    let new = scene g.P.Port.events c.settle.new.node c.settle.new.port c.settle.new.tally in
    let asked = g.C.Clock.moments c.args.clock.now in
    let told = g.C.Clock.moments c.gather.new.clock in
    let fault = c.in_err-settle.field-0.0 in
    subst (λ (r : Result ℕ ServeFault). TakesBatch held old new asked told c.args.turns r)
    (sym (err_is c.from_residual-in_err-settle.result (Node fault) c.from_residual-in_err-settle.ensures.1))
    (batch_unsettled held old mid new asked told (items_in c.gather.new.outbox.items) c.args.turns c.in_ok-batch.batch fault
    c.in_ok-batch.ensures.gathers c.in_err-settle.ensures.settles)

pub returns-in_default-clause-takes : goal.returns-in_default-clause-takes
returns-in_default-clause-takes g c =
    batch_served g.S.FloorStore.held (scene g.P.Port.events c.args.node.now c.args.port.now c.args.tally.now)
    (scene g.P.Port.events c.gather.new.node c.gather.new.port c.gather.new.tally)
    (scene g.P.Port.events c.settle.new.node c.settle.new.port c.settle.new.tally) (g.C.Clock.moments c.args.clock.now)
    (g.C.Clock.moments c.gather.new.clock) (items_in c.gather.new.outbox.items) c.args.turns c.in_ok-batch.batch
    c.in_ok-batch.ensures.gathers c.in_ok-settle.ensures.settles
    (no_fault_of c.in_ok-batch.batch.end c.in_default.not-Port c.in_default.not-Clock) c.requires.few.1

pub returns-in-Port-clause-takes : goal.returns-in-Port-clause-takes
returns-in-Port-clause-takes g c =
    batch_by_port g.S.FloorStore.held (scene g.P.Port.events c.args.node.now c.args.port.now c.args.tally.now)
    (scene g.P.Port.events c.gather.new.node c.gather.new.port c.gather.new.tally)
    (scene g.P.Port.events c.settle.new.node c.settle.new.port c.settle.new.tally) (g.C.Clock.moments c.args.clock.now)
    (g.C.Clock.moments c.gather.new.clock) (items_in c.gather.new.outbox.items) c.args.turns c.in_ok-batch.batch
    c.in_ok-batch.ensures.gathers c.in_ok-settle.ensures.settles c.in-Port.is

pub returns-in-Clock-clause-takes : goal.returns-in-Clock-clause-takes
returns-in-Clock-clause-takes g c =
    batch_by_clock g.S.FloorStore.held (scene g.P.Port.events c.args.node.now c.args.port.now c.args.tally.now)
    (scene g.P.Port.events c.gather.new.node c.gather.new.port c.gather.new.tally)
    (scene g.P.Port.events c.settle.new.node c.settle.new.port c.settle.new.tally) (g.C.Clock.moments c.args.clock.now)
    (g.C.Clock.moments c.gather.new.clock) (items_in c.gather.new.outbox.items) c.args.turns c.in_ok-batch.batch
    c.in_ok-batch.ensures.gathers c.in_ok-settle.ensures.settles c.in-Clock.is c.requires.few.1
