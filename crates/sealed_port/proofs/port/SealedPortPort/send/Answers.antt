-- The offer is one more event, before the gate changes.
use Rattle.std.proofs.Common.{[], List, ap, refl, sym, subst, ◌∙◌}
use Rattle.datagram_port.specs.Port.{PortEvent}
use Rattle.sealed_port.specs.Setup.{gate_setup}
use Rattle.sealed_port.proofs.PortLemmas.{stays}
use Rattle.sealed_port.proofs.SetupLemmas.{HasHeard, heard_offer, offer_stays, setup_stays}
use Rattle.sealed_port.proofs.port.SealedPortPort.send.Goals as goal

pub invariant_of-self : goal.invariant_of-self
invariant_of-self g c = record {
  heard = subst (λ (events : List PortEvent). HasHeard c.args.self.now.gate (g.P.Port.events c.args.self.now.port) events) (sym c.note_offer.ensures)
      (heard_offer c.args.self.now.gate c.args.self.now.gate (g.P.Port.events c.args.self.now.port) (g.P.Port.events c.args.self.now.port) [] c.args.self.now.calls.events
      c.args.to c.args.bytes.now refl (stays (g.P.Port.events c.args.self.now.port)) c.args.self.now.heard);
}

pub returns-clause-stays : goal.returns-clause-stays
returns-clause-stays g c =
    setup_stays c.args.self.now.gate c.offer.new.self.gate (g.P.Port.setup c.args.self.now.port) (g.P.Port.setup c.offer.new.self.port)
    (ap gate_setup c.offer.ensures.gate ∙ offer_stays c.args.self.now.gate c.args.to c.args.bytes.now) c.offer.ensures.stays
