use Rattle.std.proofs.Common.{ap, ◌∙◌}
use Rattle.sealed_port.specs.Setup.{gate_setup}
use Rattle.sealed_port.proofs.SetupLemmas.{aside_stays, heard_still}
use Rattle.sealed_port.proofs.port.SealedPort.set_aside.Goals as goal

pub invariant_of-self : goal.invariant_of-self
invariant_of-self g c = record {
  heard = heard_still c.args.self.now.gate c.set_aside.new.self (g.P.Port.events c.args.self.now.port) c.args.self.now.calls.events
      (ap gate_setup c.set_aside.ensures.gate ∙ aside_stays c.args.self.now.gate _) c.args.self.now.heard;
}

pub invariant_of-self-in-Some : goal.invariant_of-self-in-Some
invariant_of-self-in-Some g c = record {
  heard = heard_still c.args.self.now.gate c.set_aside.new.self (g.P.Port.events c.args.self.now.port) c.args.self.now.calls.events
      (ap gate_setup c.set_aside.ensures.gate ∙ aside_stays c.args.self.now.gate _) c.args.self.now.heard;
}
