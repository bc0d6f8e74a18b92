use Rattle.sealed_port.proofs.SetupLemmas.{heard_below}
use Rattle.sealed_port.proofs.port.SealedPort.report.Goals as goal

pub invariant_of-self : goal.invariant_of-self
invariant_of-self g c = record {
  heard = heard_below c.args.self.now.gate (g.P.Port.events c.args.self.now.port) (g.P.Port.events c.send.new.self) _ c.args.self.now.calls.events c.send.ensures.event
      c.args.self.now.heard;
}
