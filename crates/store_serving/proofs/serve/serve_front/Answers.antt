-- The gate's port keeps the members of the port below, and what its gate is made of.
use Rattle.std.proofs.Common.{Option, Some, ap, inl, inr, sym, subst, ◌∙◌}
use Rattle.datagram_port.specs.Setup.{Setup}
use Rattle.node_serving.specs.Setup.{setup_behind}
use Rattle.node_serving.specs.declared.gate.Front.{Front}
use Rattle.node_serving.specs.declared.gate.Front.TheVariants.{Gate}
use Rattle.store_serving.specs.Through.{IsServedThrough, ServesSpeaking}
use Rattle.store_serving.proofs.ServedLemmas.{sealed_made, served_sealed}
use Rattle.store_serving.proofs.serve.serve_front.Goals as goal

abbrev some_setup : Setup → Option Setup
some_setup setup = Some setup

pub returns-in-Gate-clause-turns : goal.returns-in-Gate-clause-turns
returns-in-Gate-clause-turns g c =
    let members = c.args.port.members.items in
    let gate = c.in-Gate.gate in
    let below = c.under_gate.ensures in
    let port = c.new-port.result in
    let parts = c.new-port.ensures.parts in
    let result = c.serve_speaking-in-Gate.result in
    let answers = g.U.Attend.answers c.serve_speaking-in-Gate.new.until.attendant in
    let serves = ServesSpeaking g.S.FloorStore.held g.U.Attend.acts c.args.node.now c.serve_speaking-in-Gate.new.node c.args.speech c.args.turns answers in
    elim c.serve_speaking-in-Gate.ensures.turns [
      | inl memory ↦ inl memory
      | inr run ↦
          let last = run.1 in
          let made = sealed_made port.gate gate port.port.skips_answers port.port.takes_loopback_alone port.port.members.items members parts.2
          (ap (λ p. p.skips_answers) parts.0 ∙ below.skips ∙ c.requires.plain.0)
          (ap (λ p. p.takes_loopback_alone) parts.0 ∙ below.hosts ∙ c.requires.plain.1)
          (ap (λ p. p.members.items) parts.0 ∙ ap (λ m. m.items) below.members) in
          inr (subst (λ (front : Front). IsServedThrough serves (setup_behind members front) result) (sym c.in-Gate.is)
          (served_sealed serves result run.0 last.port.skips_answers last.port.takes_loopback_alone last.port.members.items last.port.calls.made
          (setup_behind members (Gate gate)) run.4 last.gate last.calls.events run.2 last.heard (run.3 ∙ ap some_setup made)))
    ]
