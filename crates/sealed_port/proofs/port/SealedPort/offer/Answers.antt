-- The offer passes unchanged, or it is sealed, or there is no line for it.
use Rattle.std.proofs.Common.{ap, ◌∙◌}
use Rattle.sealed_port.specs.Setup.{gate_setup}
use Rattle.sealed_port.proofs.SetupLemmas.{answer_stays, heard_below, heard_still}
use Rattle.sealed_port.proofs.port.SealedPort.offer.Goals as goal

pub invariant_of-self : goal.invariant_of-self
invariant_of-self g c = record {
  heard = heard_below c.args.self.now.gate (g.P.Port.events c.args.self.now.port) (g.P.Port.events c.send.new.self) _ c.args.self.now.calls.events c.send.ensures.event
      c.args.self.now.heard;
}

pub invariant_of-self-then-number-lt-SEALED_CLIENTS : goal.invariant_of-self-then-number-lt-SEALED_CLIENTS
invariant_of-self-then-number-lt-SEALED_CLIENTS g c = record {
  heard = heard_below c.args.self.now.gate (g.P.Port.events c.args.self.now.port) (g.P.Port.events c.send-then-number-lt-SEALED_CLIENTS.new.self) _
      c.args.self.now.calls.events c.send-then-number-lt-SEALED_CLIENTS.ensures.event c.args.self.now.heard;
}

pub invariant_of-self-in-Some : goal.invariant_of-self-in-Some
invariant_of-self-in-Some g c = record {
  heard = heard_below c.seal.new.self (g.P.Port.events c.args.self.now.port) (g.P.Port.events c.send-in-Some.new.self) _ c.args.self.now.calls.events
      c.send-in-Some.ensures.event (heard_still c.args.self.now.gate c.seal.new.self (g.P.Port.events c.args.self.now.port) c.args.self.now.calls.events
      (ap gate_setup c.seal.ensures.gate ∙ answer_stays c.args.self.now.gate c.in-Ok.client c.args.bytes.now) c.args.self.now.heard);
}

pub invariant_of-self-in-None : goal.invariant_of-self-in-None
invariant_of-self-in-None g c = record {
  heard = heard_still c.args.self.now.gate c.seal.new.self (g.P.Port.events c.args.self.now.port) c.args.self.now.calls.events
      (ap gate_setup c.seal.ensures.gate ∙ answer_stays c.args.self.now.gate c.in-Ok.client c.args.bytes.now) c.args.self.now.heard;
}
