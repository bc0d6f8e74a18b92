-- Nothing was queued, or the call is one more.
use Rattle.std.proofs.Common.{◌∷◌, [], ◌++◌, ap, ◌∙◌}
use Rattle.datagram_port.specs.Port.{event_of_receive}
use Rattle.named_port.proofs.CallLemmas.{after_nothing, after_receive, told_receive}
use Rattle.named_port.proofs.SetupLemmas.{setup_after}
use Rattle.named_port.proofs.port.NamedPortPort.poll.Goals as goal

pub invariant_of-self : goal.invariant_of-self
invariant_of-self g c = record {
  after = after_nothing (g.P.Port.events c.args.self.now.port) (g.P.Port.events c.poll.new.self) c.args.self.now.translator c.args.self.now.calls.events
      c.args.self.now.after c.in_default.ensures.event;
}

pub invariant_of-self-2 : goal.invariant_of-self-2
invariant_of-self-2 g c =
    let noted = c.note_receive.ensures ∙ ap (λ buffer. c.args.self.now.calls.events ++ event_of_receive c.in-Some.received buffer ∷ []) c.as_slice.ensures in
    record {
      after = after_receive (g.P.Port.events c.args.self.now.port) (g.P.Port.events c.poll.new.self) c.args.self.now.translator c.translate.new.translator
          c.args.self.now.calls.events c.note_receive.new.self.events c.in-Some.received c.poll.new.buffer
          c.args.self.now.after noted c.translate.ensures.after c.in-Some.ensures.event;
    }

pub returns-clause-event : goal.returns-clause-event
returns-clause-event g c =
    let noted = c.note_receive.ensures ∙ ap (λ buffer. c.args.self.now.calls.events ++ event_of_receive c.in-Some.received buffer ∷ []) c.as_slice.ensures in
    told_receive (g.P.Port.events c.args.self.now.port) c.args.self.now.translator c.translate.new.translator c.args.self.now.calls.events c.note_receive.new.self.events
    (event_of_receive c.in-Some.received c.poll.new.buffer) (event_of_receive c.translate.result c.translate.new.buffer)
    c.args.self.now.after noted c.translate.ensures.after c.translate.ensures.handed

pub returns-clause-stays : goal.returns-clause-stays
returns-clause-stays g c =
    setup_after c.args.self.now.translator c.translate.new.translator (event_of_receive c.in-Some.received c.poll.new.buffer)
    (g.P.Port.setup c.args.self.now.port) (g.P.Port.setup c.poll.new.self) c.translate.ensures.after c.in-Some.ensures.stays
