use Rattle.std.proofs.Common.{List, arith, sym, subst}
use Rattle.std.specs.Prelude.{Option, Result}
use Rattle.oath_node.specs.Outputs.{OutputsRecord}
use Rattle.oath_node.specs.declared.fault.NodeFault.{NodeFault}
use Rattle.oath_node.specs.TurnSteps.{SettlesBatch, items_in, scene, ticks_of}
use Rattle.oath_node.proofs.GrowLemmas.{AreOffered, err_is}
use Rattle.oath_node.proofs.BatchLemmas.{settles_no_tick, settles_not, settles_ok}
use Rattle.oath_node.proofs.turns.settle.Goals as goal

pub returns-in_err-last-clause-settles : goal.returns-in_err-last-clause-settles
returns-in_err-last-clause-settles g c =
    let held = g.S.FloorStore.held in
    let fault = c.in_err-last.field-0.0 in
    let waits = items_in c.args.outbox.now.items in
    subst (λ (r : Result Unit NodeFault). SettlesBatch held (scene g.P.Port.events c.args.node.now c.args.port.now c.args.tally.now)
    (scene g.P.Port.events c.take_tick.new.node c.args.port.now c.args.tally.now) (ticks_of c.args.end) waits r)
    (sym (err_is c.from_residual.result fault c.from_residual.ensures.1))
    (settles_no_tick held c.args.node.now c.take_tick.new.node (g.P.Port.events c.args.port.now) c.args.tally.now (ticks_of c.args.end) waits fault
    c.in_err-last.ensures)

pub returns-in_err-commit-clause-settles : goal.returns-in_err-commit-clause-settles
returns-in_err-commit-clause-settles g c =
    let held = g.S.FloorStore.held in
    let fault = c.in_err-commit.field-0.0 in
    let waits = items_in c.args.outbox.now.items in
    subst (λ (r : Result Unit NodeFault). SettlesBatch held (scene g.P.Port.events c.args.node.now c.args.port.now c.args.tally.now)
    (scene g.P.Port.events c.commit.new.self c.args.port.now c.args.tally.now) (ticks_of c.args.end) waits r)
    (sym (err_is c.from_residual-in_err-commit.result fault c.from_residual-in_err-commit.ensures.1))
    (settles_not held c.args.node.now c.take_tick.new.node c.commit.new.self (g.P.Port.events c.args.port.now) c.args.tally.now
    (ticks_of c.args.end) waits c.in_ok-last.last fault c.in_ok-last.ensures c.in_err-commit.ensures)

pub returns-clause-settles : goal.returns-clause-settles
returns-clause-settles g c =
    let e0 = g.P.Port.events c.args.port.now in
    let e1 = g.P.Port.events c.offer_waiting-replies.new.port in
    let waiting = c.args.outbox.now.items in
    let first = c.offer_waiting-replies.ensures in
    let second = c.offer_waiting-replies-2.ensures in
    let offered : AreOffered e0 e1 (items_in waiting) c.offer_waiting-replies.result =
    subst (λ (xs : List (Option OutputsRecord)). AreOffered e0 e1 (items_in xs) c.offer_waiting-replies.result) c.as_slice.ensures.value
    (first.offers, first.few, first.replies) in
    let sum = c.saturating_add-tally.ensures in
    let total = c.saturating_add-tally-2.ensures in
    settles_ok g.S.FloorStore.held c.args.node.now c.take_tick.new.node c.commit.new.self e0 e1 (g.P.Port.events c.offer_waiting-replies-2.new.port)
    c.args.tally.now (ticks_of c.args.end) (items_in waiting) c.in_ok-last.last c.offer_waiting-replies.result c.offer_waiting-replies-2.result
    c.saturating_add-tally-2.result c.in_ok-last.ensures c.in_ok-commit.ensures offered
    (second.offers, second.few, second.replies) (omega (arith, sum, total)) (λ small. omega (arith, sum, total, small))
