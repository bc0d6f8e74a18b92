-- The responder passes the answers on of what may end the turns.
use Rattle.std.proofs.Common.{sym, subst}
use Rattle.std.specs.Prelude.{Ok}
use Rattle.node_reports.specs.Responder.{ResponderAnswers}
use Rattle.node_serving.specs.Setup.{setup_behind}
use Rattle.node_serving.specs.Stretches.{operator_acts}
use Rattle.store_serving.specs.Through.{IsServedThrough, ServesSpeaking}
use Rattle.store_serving.proofs.ServedLemmas.{ends_responding, not_early}
use Rattle.store_serving.proofs.serve.serve_responder.Goals as goal

pub returns-in-Ok-clause-served : goal.returns-in-Ok-clause-served
returns-in-Ok-clause-served g c =
    let held = g.S.FloorStore.held in
    let setup = setup_behind c.args.port.members.items c.args.front in
    subst (λ until. IsServedThrough (ServesSpeaking held (operator_acts held) c.args.node.now c.serve_front.new.node c.args.speech c.args.turns
    (ResponderAnswers (g.U.Stop.answers until))) setup (Ok c.in-Ok.served)) (sym c.into_until.ensures) (not_early c.in-Ok.served c.in-Ok.ensures.turns)

pub returns-in-Err-clause-fault : goal.returns-in-Err-clause-fault
returns-in-Err-clause-fault g c =
    let held = g.S.FloorStore.held in
    let setup = setup_behind c.args.port.members.items c.args.front in
    ends_responding held (operator_acts held) c.args.node.now c.serve_front.new.node setup c.args.speech c.args.turns
    (g.U.Stop.answers c.serve_front.new.until.attendant.until) c.in-Err.fault c.in-Err.ensures.turns
