use Rattle.std.proofs.Common.{◌+◌, take, sym, subst}
use Rattle.std.specs.Prelude.{Option, Result, Ok, Some, Err}
use Rattle.oath_node.specs.Outputs.{OutputsRecord}
use Rattle.oath_node.specs.declared.fault.NodeFault.{NodeFault}
use Rattle.datagram_port.specs.Port.{event_of_receive}
use Rattle.oath_node.specs.TurnSteps.{TakesDatagram, TakesReceived, tally_with_datagram}
use Rattle.oath_node.specs.Turns.{Failure, Nothing, tally_with}
use Rattle.datagram_port.specs.declared.port.Received.{Received}
use Rattle.oath_node.specs.declared.turns.BatchEnd.{BatchEnd}
use Rattle.oath_node.specs.declared.turns.BatchEnd.TheVariants as ends
use Rattle.oath_node.proofs.GrowLemmas.{err_is}
use Rattle.oath_node.proofs.ReceiptLemmas.{commit_follows, datagram_failed, datagram_received, fault_received, more_follows, port_follows, quiet_received, tick_follows}
use Rattle.oath_node.proofs.turns.take_received.Goals as goal

pub returns-in_err-outputs-in-Datagram : goal.returns-in_err-outputs-in-Datagram
returns-in_err-outputs-in-Datagram g c =
    let held = g.S.FloorStore.held in
    let old = c.args.node.now in
    let new = c.hand_in.new.node in
    let t = c.args.tally.now in
    let buffer = c.args.buffer.now in
    let waited = c.args.outbox.now.items in
    let asked = g.C.Clock.moments c.args.clock.now in
    let told = g.C.Clock.moments c.hand_in.new.clock in
    let fault = c.in_err-outputs-in-Datagram.field-0.0 in
    subst (λ (r : Result BatchEnd NodeFault). TakesReceived held old new (event_of_receive c.args.received buffer) asked told t (tally_with_datagram t) waited waited r)
    (sym (err_is c.from_residual.result fault c.from_residual.ensures.1))
    (subst (λ (v : Received). TakesReceived held old new (event_of_receive v buffer) asked told t (tally_with_datagram t) waited waited (Err fault)) (sym c.in-Datagram.is)
    (datagram_failed held old new c.in-Datagram.sender (take c.in-Datagram.len buffer) asked told t waited fault c.in_err-outputs-in-Datagram.ensures))

pub returns-then-tally-eq0 : goal.returns-then-tally-eq0
returns-then-tally-eq0 g c =
    let held = g.S.FloorStore.held in
    let old = c.args.node.now in
    let new = c.hand_in.new.node in
    let t = c.args.tally.now in
    let buffer = c.args.buffer.now in
    let bytes = take c.in-Datagram.len buffer in
    let sender = c.in-Datagram.sender in
    let waited = c.args.outbox.now.items in
    let asked = g.C.Clock.moments c.args.clock.now in
    let told = g.C.Clock.moments c.hand_in.new.clock in
    let outputs = c.in-Some.outputs in
    let taken : TakesDatagram held old new sender bytes asked told (Ok (Some outputs)) =
    subst (λ (o : Option OutputsRecord). TakesDatagram held old new sender bytes asked told (Ok o)) c.in-Some.is c.in_ok-outputs-in-Datagram.ensures in
    subst (λ (v : Received). TakesReceived held old new (event_of_receive v buffer) asked told t (tally_with_datagram t) waited c.push.new.self.items (Ok ends.Tick)) (sym c.in-Datagram.is)
    (datagram_received held old new sender bytes asked told t waited c.push.new.self.items outputs ends.Tick taken c.push.ensures.items
    (tick_follows (t.received + 1) c.if-tally-eq0.true))

pub returns-else-tally-eq0 : goal.returns-else-tally-eq0
returns-else-tally-eq0 g c =
    let held = g.S.FloorStore.held in
    let old = c.args.node.now in
    let new = c.hand_in.new.node in
    let t = c.args.tally.now in
    let buffer = c.args.buffer.now in
    let bytes = take c.in-Datagram.len buffer in
    let sender = c.in-Datagram.sender in
    let waited = c.args.outbox.now.items in
    let asked = g.C.Clock.moments c.args.clock.now in
    let told = g.C.Clock.moments c.hand_in.new.clock in
    let outputs = c.in-Some.outputs in
    let taken : TakesDatagram held old new sender bytes asked told (Ok (Some outputs)) =
    subst (λ (o : Option OutputsRecord). TakesDatagram held old new sender bytes asked told (Ok o)) c.in-Some.is c.in_ok-outputs-in-Datagram.ensures in
    subst (λ (v : Received). TakesReceived held old new (event_of_receive v buffer) asked told t (tally_with_datagram t) waited c.push.new.self.items (Ok ends.More)) (sym c.in-Datagram.is)
    (datagram_received held old new sender bytes asked told t waited c.push.new.self.items outputs ends.More taken c.push.ensures.items
    (more_follows (t.received + 1) c.if-tally-eq0.false))

pub returns-in-Quiet : goal.returns-in-Quiet
returns-in-Quiet g c =
    let held = g.S.FloorStore.held in
    let node = c.args.node.now in
    let t = c.args.tally.now in
    let waited = c.args.outbox.now.items in
    let asked = g.C.Clock.moments c.args.clock.now in
    subst (λ (v : Received). TakesReceived held node node (event_of_receive v c.args.buffer.now) asked asked t (tally_with Nothing t) waited waited (Ok ends.Tick)) (sym c.in-Quiet.is)
    (quiet_received held node asked t waited)

pub returns-then-tally-eq-MAX_FAULTS : goal.returns-then-tally-eq-MAX_FAULTS
returns-then-tally-eq-MAX_FAULTS g c =
    let held = g.S.FloorStore.held in
    let node = c.args.node.now in
    let t = c.args.tally.now in
    let waited = c.args.outbox.now.items in
    let asked = g.C.Clock.moments c.args.clock.now in
    subst (λ (v : Received). TakesReceived held node node (event_of_receive v c.args.buffer.now) asked asked t (tally_with Failure t) waited waited (Ok ends.Port)) (sym c.in-Fault.is)
    (fault_received held node asked t waited ends.Port (port_follows t c.if-tally-eq-MAX_FAULTS.true))

pub returns-else-tally-eq-MAX_FAULTS : goal.returns-else-tally-eq-MAX_FAULTS
returns-else-tally-eq-MAX_FAULTS g c =
    let held = g.S.FloorStore.held in
    let node = c.args.node.now in
    let t = c.args.tally.now in
    let waited = c.args.outbox.now.items in
    let asked = g.C.Clock.moments c.args.clock.now in
    subst (λ (v : Received). TakesReceived held node node (event_of_receive v c.args.buffer.now) asked asked t (tally_with Failure t) waited waited (Ok ends.Commit)) (sym c.in-Fault.is)
    (fault_received held node asked t waited ends.Commit (commit_follows t c.if-tally-eq-MAX_FAULTS.false))
