-- The line, and the gate's own answer to it, leave what stays of the gate.
use Rattle.std.proofs.Common.{Some, ap, refl, ◌∙◌}
use Rattle.sealed_port.specs.Gate.{SealedLine}
use Rattle.sealed_port.specs.Setup.{gate_setup}
use Rattle.sealed_port.proofs.SetupLemmas.{busied_stays, heard_still, line_stays}
use Rattle.sealed_port.proofs.port.SealedPort.take_line.Goals as goal

pub invariant_of-self : goal.invariant_of-self
invariant_of-self g c =
    let line : SealedLine = record { client = c.args.line.client; moment = c.args.line.moment; tag = c.args.line.tag; line = c.args.line.line.now } in
    record {
      heard = heard_still c.args.self.now.gate c.admit.new.self (g.P.Port.events c.args.self.now.port) c.args.self.now.calls.events
          (ap gate_setup c.admit.ensures ∙ line_stays c.args.self.now.gate c.args.now c.args.address (Some line)) c.args.self.now.heard;
    }

pub returns-then-turns_away-clause-stays : goal.returns-then-turns_away-clause-stays
returns-then-turns_away-clause-stays g c =
    let line : SealedLine = record { client = c.args.line.client; moment = c.args.line.moment; tag = c.args.line.tag; line = c.args.line.line.now } in (
      ap gate_setup c.turn_away.ensures.gate ∙ busied_stays c.admit.new.self (Some line) ∙ ap gate_setup c.admit.ensures ∙ line_stays c.args.self.now.gate c.args.now c.args.address (Some line),
      c.turn_away.ensures.stays,
    )

pub returns-else-turns_away-clause-stays : goal.returns-else-turns_away-clause-stays
returns-else-turns_away-clause-stays g c =
    let line : SealedLine = record { client = c.args.line.client; moment = c.args.line.moment; tag = c.args.line.tag; line = c.args.line.line.now } in
    (ap gate_setup c.admit.ensures ∙ line_stays c.args.self.now.gate c.args.now c.args.address (Some line), refl)
