-- The offer is one more call.
use Rattle.named_port.proofs.CallLemmas.{after_offer, told_offer}
use Rattle.named_port.proofs.port.NamedPortPort.send.Goals as goal

pub invariant_of-self : goal.invariant_of-self
invariant_of-self g c = record {
  after = after_offer (g.P.Port.events c.args.self.now.port) (g.P.Port.events c.offer.new.port) c.args.self.now.translator c.args.self.now.calls.events c.note_offer.new.self.events
      c.args.to c.args.bytes.now c.args.self.now.after c.note_offer.ensures c.offer.ensures.offers;
}

pub returns-clause-event : goal.returns-clause-event
returns-clause-event g c =
    told_offer (g.P.Port.events c.args.self.now.port) c.args.self.now.translator c.args.self.now.calls.events c.note_offer.new.self.events c.args.to c.args.bytes.now
    c.args.self.now.after c.note_offer.ensures
