use Rattle.std.proofs.Common.{sym, subst}
use Rattle.std.specs.Prelude.{Option, Result, Ok, Some, None, Err}
use Rattle.oath_node.specs.Outputs.{OutputsRecord}
use Rattle.oath_node.specs.declared.fault.NodeFault.{NodeFault}
use Rattle.oath_node.specs.TurnSteps.{TakesDatagram}
use Rattle.datagram_port.specs.declared.port.Sender.{Sender}
use Rattle.oath_node.proofs.GrowLemmas.{err_is}
use Rattle.oath_node.proofs.ReceiptLemmas.{line_failed, line_taken, line_untimed, peer_failed, peer_taken}
use Rattle.oath_node.proofs.turns.hand_in.Goals as goal

pub returns-in_err-take_datagram-in-Peer : goal.returns-in_err-take_datagram-in-Peer
returns-in_err-take_datagram-in-Peer g c =
    let held = g.S.FloorStore.held in
    let old = c.args.node.now in
    let new = c.take_datagram.new.self in
    let bytes = c.args.bytes.now in
    let asked = g.C.Clock.moments c.args.clock.now in
    let fault = c.in_err-take_datagram-in-Peer.field-0.0 in
    subst (λ (r : Result (Option OutputsRecord) NodeFault). TakesDatagram held old new c.args.sender bytes asked asked r)
    (sym (err_is c.from_residual.result fault c.from_residual.ensures.1))
    (subst (λ (s : Sender). TakesDatagram held old new s bytes asked asked (Err fault)) (sym c.in-Peer.is)
    (peer_failed held old new c.in-Peer.from bytes asked fault c.in_err-take_datagram-in-Peer.ensures))

pub returns-in_err-take_line-in-Some : goal.returns-in_err-take_line-in-Some
returns-in_err-take_line-in-Some g c =
    let held = g.S.FloorStore.held in
    let old = c.args.node.now in
    let new = c.take_line.new.self in
    let bytes = c.args.bytes.now in
    let asked = g.C.Clock.moments c.args.clock.now in
    let told = g.C.Clock.moments c.moment.new.self in
    let fault = c.in_err-take_line-in-Some.field-0.0 in
    subst (λ (r : Result (Option OutputsRecord) NodeFault). TakesDatagram held old new c.args.sender bytes asked told r)
    (sym (err_is c.from_residual-in_err-take_line-in-Some.result fault c.from_residual-in_err-take_line-in-Some.ensures.1))
    (subst (λ (s : Sender). TakesDatagram held old new s bytes asked told (Err fault)) (sym c.in-Client.is)
    (line_failed held old new c.in-Client.client c.in-Some.moment bytes asked told fault c.in-Some.ensures c.in_err-take_line-in-Some.ensures))

pub returns-in_ok-take_datagram-in-Peer : goal.returns-in_ok-take_datagram-in-Peer
returns-in_ok-take_datagram-in-Peer g c =
    let held = g.S.FloorStore.held in
    let old = c.args.node.now in
    let new = c.take_datagram.new.self in
    let bytes = c.args.bytes.now in
    let asked = g.C.Clock.moments c.args.clock.now in
    let outputs = c.in_ok-take_datagram-in-Peer.field-0 in
    subst (λ (s : Sender). TakesDatagram held old new s bytes asked asked (Ok (Some outputs))) (sym c.in-Peer.is)
    (peer_taken held old new c.in-Peer.from bytes asked outputs c.in_ok-take_datagram-in-Peer.ensures)

pub returns-in_ok-take_line-in-Some : goal.returns-in_ok-take_line-in-Some
returns-in_ok-take_line-in-Some g c =
    let held = g.S.FloorStore.held in
    let old = c.args.node.now in
    let new = c.take_line.new.self in
    let bytes = c.args.bytes.now in
    let asked = g.C.Clock.moments c.args.clock.now in
    let told = g.C.Clock.moments c.moment.new.self in
    let outputs = c.in_ok-take_line-in-Some.field-0 in
    subst (λ (s : Sender). TakesDatagram held old new s bytes asked told (Ok (Some outputs))) (sym c.in-Client.is)
    (line_taken held old new c.in-Client.client c.in-Some.moment bytes asked told outputs c.in-Some.ensures c.in_ok-take_line-in-Some.ensures)

pub returns-in-None : goal.returns-in-None
returns-in-None g c =
    let held = g.S.FloorStore.held in
    let node = c.args.node.now in
    let bytes = c.args.bytes.now in
    let asked = g.C.Clock.moments c.args.clock.now in
    let told = g.C.Clock.moments c.moment.new.self in
    subst (λ (s : Sender). TakesDatagram held node node s bytes asked told (Ok None)) (sym c.in-Client.is)
    (line_untimed held node c.in-Client.client bytes asked told c.in-None.ensures)
