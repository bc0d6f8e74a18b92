-- The port that counts has the events and the setup of the port below it.
use Rattle.std.proofs.Common.{◌∙◌, ap, subst}
use Rattle.std.specs.Prelude.{None}
use Rattle.node_serving.specs.Stretches.{ServesIn}
use Rattle.store_serving.proofs.serve.serve_asked.Goals as goal

pub returns-clause-turns : goal.returns-clause-turns
returns-clause-turns g c =
    let run = c.serve_port-2.ensures.turns in
    let last = run.1.port in
    let below = c.new-counted.ensures.port in
    let serves = subst (λ p. ServesIn g.S.FloorStore.held g.U.Attend.acts c.args.node.now c.serve_port-2.new.node (g.P.Port.events p) (g.P.Port.events last) None None c.args.turns
    (g.U.Attend.answers c.serve_port-2.new.until.attendant) run.0) below run.2 in
    (run.0, last, serves, run.3 ∙ ap g.P.Port.setup below, run.4)
