-- The offer is one more call.
use Rattle.std.proofs.Common.{[], ◌∷◌, ◌++◌, refl}
use Rattle.datagram_port.specs.Port.{Offered}
use Rattle.floor_port.specs.Runs.{Offer}
use Rattle.floor_port.proofs.CallLemmas.{after_noted, told_noted}
use Rattle.floor_port.proofs.FellLemmas.{places_noted, untold_noted}
use Rattle.floor_port.proofs.SetupLemmas.{setup_noted}
use Rattle.floor_port.proofs.port.FloorPortPort.send.Goals as goal

pub invariant_of-self : goal.invariant_of-self
invariant_of-self g c = record {
  places = places_noted c.args.self.now.calls c.note_offer.new.self (c.args.self.now.calls.calls ++ Offer c.args.to c.args.bytes.now ∷ []) c.args.self.now.places c.note_offer.ensures;
  after = after_noted (g.P.Port.events c.args.self.now.port) (g.P.Port.events c.send-is_taken.new.self) c.args.self.now.packer c.note_offer-2.new.self
      c.args.self.now.calls c.note_offer.new.self (Offer c.args.to c.args.bytes.now) c.args.self.now.after refl c.note_offer.ensures c.note_offer-2.ensures c.send-is_taken.ensures.event;
  untold = untold_noted (g.P.Port.events c.args.self.now.port) c.args.self.now.packer c.note_offer-2.new.self c.args.self.now.calls c.note_offer.new.self
      (Offer c.args.to c.args.bytes.now) c.args.self.now.falls c.args.self.now.falls c.args.self.now.after c.args.self.now.places c.args.self.now.untold c.note_offer.ensures c.note_offer-2.ensures refl;
}

pub returns-clause-event : goal.returns-clause-event
returns-clause-event g c =
    told_noted (g.P.Port.events c.args.self.now.port) c.args.self.now.packer c.note_offer-2.new.self c.args.self.now.calls c.note_offer.new.self
    (Offer c.args.to c.args.bytes.now) (Offered c.args.to c.args.bytes.now) c.args.self.now.after c.note_offer.ensures c.note_offer-2.ensures refl

pub returns-clause-stays : goal.returns-clause-stays
returns-clause-stays g c =
    setup_noted c.args.self.now.packer c.note_offer-2.new.self c.args.self.now.calls c.note_offer.new.self (Offer c.args.to c.args.bytes.now)
    (g.P.Port.setup c.args.self.now.port) (g.P.Port.setup c.send-is_taken.new.self) c.note_offer-2.ensures c.note_offer.ensures c.send-is_taken.ensures.stays
