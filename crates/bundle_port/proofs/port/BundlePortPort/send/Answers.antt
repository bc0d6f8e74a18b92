-- The offer is one more call.
use Rattle.std.proofs.Common.{refl}
use Rattle.datagram_port.specs.Port.{Offered}
use Rattle.bundle_port.specs.Runs.{Offer}
use Rattle.bundle_port.proofs.CallLemmas.{after_call, told_call}
use Rattle.bundle_port.proofs.port.BundlePortPort.send.Goals as goal

pub invariant_of-self : goal.invariant_of-self
invariant_of-self g c =
    let old = c.args.self.now in
    record {
      after = after_call (g.P.Port.events old.port) (g.P.Port.events c.offer.new.port) old.bundler c.offer.new.bundler old.calls.calls c.note_offer.new.self.calls
          (Offer c.args.to c.args.bytes.now) old.after refl c.note_offer.ensures c.offer.ensures.after c.offer.ensures.offers;
    }

pub returns-clause-event : goal.returns-clause-event
returns-clause-event g c =
    let old = c.args.self.now in
    told_call (g.P.Port.events old.port) old.bundler old.calls.calls c.note_offer.new.self.calls (Offer c.args.to c.args.bytes.now) (Offered c.args.to c.args.bytes.now)
    old.after c.note_offer.ensures refl
