-- A line was opened by a ruling, and taken.
use Rattle.std.proofs.Common.{[], ◌∷◌, ◌∙◌, sym, subst, take}
use Rattle.datagram_port.specs.Port.{Grows, event_of_receive}
use Rattle.sealed_port.specs.Gate.{SealedLine}
use Rattle.sealed_port.proofs.PortLemmas.{line_taken}
use Rattle.sealed_port.proofs.port.SealedPort.open.Goals as goal

pub invariant_of-self : goal.invariant_of-self
invariant_of-self g c = record { heard = c.args.self.now.heard }

pub invariant_of-self-in-Ok-1 : goal.invariant_of-self-in-Ok-1
invariant_of-self-in-Ok-1 g c = record { heard = c.args.self.now.heard }

pub returns-in-Ok-clause-takes : goal.returns-in-Ok-clause-takes
returns-in-Ok-clause-takes g c =
    let line : SealedLine = record { client = c.in-Ok.line.client; moment = c.in-Ok.line.moment; tag = c.in-Ok.line.tag; line = c.in-Ok.line.line.now } in
    line_taken (g.P.Port.events c.args.self.now.port) (g.P.Port.events c.take_line.new.self.port) (g.C.Clock.moments c.args.self.now.clock)
    (g.C.Clock.moments c.take_line.new.self.clock) c.args.self.now.gate c.take_line.new.self.gate c.args.self.now.unopened c.take_line.new.self.unopened c.args.address
    (take c.args.len c.args.buffer.now) c.moment-now.result line (event_of_receive c.take_line.result c.take_line.new.buffer)
    (sym c.asks.ensures ∙ c.if-asks.false)
    (subst (λ clock. Grows (g.C.Clock.moments c.args.self.now.clock) (g.C.Clock.moments clock) (c.moment-now.result ∷ [])) (sym c.take_line.ensures.same.0) c.moment-now.ensures)
    (sym c.in-Ok.ensures.line) c.take_line.ensures.same.1 c.take_line.ensures.takes
