use Rattle.std.proofs.Common.{ap}
use Rattle.std.specs.Global.{Vec}
use Rattle.std.specs.declared.net.socket_addr.SocketAddrV4.{SocketAddrV4}
use Rattle.store_serving.proofs.ServedLemmas.{ends_with_responder, served_over, then_err, then_ok}
use Rattle.store_serving.proofs.serve.serve_opened.Goals as goal

pub returns-clause-served : goal.returns-clause-served
returns-clause-served g c =
    let members = ap (λ (all : Vec SocketAddrV4). all.items) c.new-port.ensures.members in
    then_ok c.serve_responder.result _ _
    (λ served. served_over _ c.args.serving.lines c.in_ok-front.front members c.in_ok-front.ensures.front c.me-2.ensures.value) c.serve_responder.ensures.served

pub returns-clause-fault : goal.returns-clause-fault
returns-clause-fault g c =
    let members = ap (λ (all : Vec SocketAddrV4). all.items) c.new-port.ensures.members in
    then_err c.serve_responder.result _ _
    (λ fault. ends_with_responder fault (served_over _ c.args.serving.lines c.in_ok-front.front members c.in_ok-front.ensures.front c.me-2.ensures.value))
    c.serve_responder.ensures.fault
