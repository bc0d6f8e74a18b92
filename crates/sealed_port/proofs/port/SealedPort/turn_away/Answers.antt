-- The gate's own answer is offered, and leaves what stays of the gate.
use Rattle.std.proofs.Common.{Some, ap, ◌∙◌}
use Rattle.sealed_port.specs.Gate.{SealedLine}
use Rattle.sealed_port.specs.Setup.{gate_setup}
use Rattle.sealed_port.proofs.SetupLemmas.{busied_stays, heard_below, heard_still}
use Rattle.sealed_port.proofs.port.SealedPort.turn_away.Goals as goal

pub invariant_of-self : goal.invariant_of-self
invariant_of-self g c =
    let line : SealedLine = record { client = c.args.line.now.client; moment = c.args.line.now.moment; tag = c.args.line.now.tag; line = c.args.line.now.line.now } in
    record {
      heard = heard_below c.busy.new.self (g.P.Port.events c.args.self.now.port) (g.P.Port.events c.send-taken.new.self) _ c.args.self.now.calls.events
          c.send-taken.ensures.event (heard_still c.args.self.now.gate c.busy.new.self (g.P.Port.events c.args.self.now.port) c.args.self.now.calls.events
          (ap gate_setup c.busy.ensures.gate ∙ busied_stays c.args.self.now.gate (Some line)) c.args.self.now.heard);
    }

pub invariant_of-self-in-None : goal.invariant_of-self-in-None
invariant_of-self-in-None g c =
    let line : SealedLine = record { client = c.args.line.now.client; moment = c.args.line.now.moment; tag = c.args.line.now.tag; line = c.args.line.now.line.now } in
    record {
      heard = heard_still c.args.self.now.gate c.busy.new.self (g.P.Port.events c.args.self.now.port) c.args.self.now.calls.events
          (ap gate_setup c.busy.ensures.gate ∙ busied_stays c.args.self.now.gate (Some line)) c.args.self.now.heard;
    }
