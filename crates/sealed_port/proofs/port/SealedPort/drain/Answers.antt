use Rattle.std.proofs.Common.{ap}
use Rattle.sealed_port.specs.Setup.{gate_setup}
use Rattle.sealed_port.proofs.SetupLemmas.{heard_still}
use Rattle.sealed_port.proofs.port.SealedPort.drain.Goals as goal

pub invariant_of-self : goal.invariant_of-self
invariant_of-self g c = record {
  heard = heard_still c.args.self.now.gate c.drain.new.self (g.P.Port.events c.args.self.now.port) c.args.self.now.calls.events
      (ap gate_setup c.drain.ensures) c.args.self.now.heard;
}
