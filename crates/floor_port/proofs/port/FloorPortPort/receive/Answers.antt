-- The call is a receive of the port below, or a floor that was left.
use Rattle.std.proofs.Common.{◌∷◌, [], ◌++◌, ◌∙◌, List, ℕ, length, refl, sym, ap}
use Rattle.datagram_port.specs.Port.{event_of_receive}
use Rattle.floor_port.specs.Runs.{Came, Left}
use Rattle.floor_port.proofs.CallLemmas.{after_noted, grows_came, handed_left, may_receive, none_left, some_left, told_noted}
use Rattle.floor_port.proofs.FellLemmas.{places_noted, untold_noted}
use Rattle.floor_port.proofs.OfferLemmas.{grows_none}
use Rattle.floor_port.proofs.SetupLemmas.{setup_noted}
use Rattle.floor_port.proofs.port.FloorPortPort.receive.Goals as goal

pub invariant_of-self : goal.invariant_of-self
invariant_of-self g c =
    let old = c.args.self.now in
    let events = g.P.Port.events old.port in
    let left = length old.packer.pending.floors in
    let from = old.packer.pending.head.from in
    record {
      places = places_noted old.calls c.note_left.new.self (old.calls.calls ++ Left ∷ []) old.places c.note_left.ensures;
      after = after_noted events events old.packer c.hand_in.new.self old.calls c.note_left.new.self Left
          old.after (some_left left from c.in-Some.sender (sym c.in-Some.is ∙ c.pending_from.ensures)) c.note_left.ensures c.hand_in.ensures.after (grows_none events);
      untold = untold_noted events old.packer c.hand_in.new.self old.calls c.note_left.new.self Left old.falls old.falls old.after old.places old.untold c.note_left.ensures c.hand_in.ensures.after refl;
    }

pub returns-in-Some-clause-event : goal.returns-in-Some-clause-event
returns-in-Some-clause-event g c =
    let old = c.args.self.now in
    let event = event_of_receive c.hand_in.result c.hand_in.new.buffer in
    told_noted (g.P.Port.events old.port) old.packer c.hand_in.new.self old.calls c.note_left.new.self Left event
    old.after c.note_left.ensures c.hand_in.ensures.after
    (handed_left old.packer c.in-Some.sender event (sym c.in-Some.is ∙ c.pending_from.ensures) c.hand_in.ensures.handed)

pub invariant_of-self-2 : goal.invariant_of-self-2
invariant_of-self-2 g c =
    let old = c.args.self.now in
    let left = length old.packer.pending.floors in
    let from = old.packer.pending.head.from in
    let received = c.receive-received.result in
    let buffer = c.receive-received.new.buffer in
    let event = event_of_receive received buffer in
    let noted = c.note_receive.ensures ∙ ap (λ (b : List ℕ). record old.calls { calls = old.calls.calls ++ Came (event_of_receive received b) ∷ [] }) c.as_slice.ensures in
    record {
      places = places_noted old.calls c.note_receive.new.self (old.calls.calls ++ Came event ∷ []) old.places noted;
      after = after_noted (g.P.Port.events old.port) (g.P.Port.events c.take.new.port) old.packer c.take.new.packer old.calls c.note_receive.new.self (Came event)
          old.after (may_receive old.packer received buffer (none_left left from (sym c.in_default.is ∙ c.pending_from.ensures))) noted c.take.ensures.after
          (grows_came (g.P.Port.events old.port) (g.P.Port.events c.receive-received.new.self) (g.P.Port.events c.take.new.port) old.packer event c.receive-received.ensures.event c.take.ensures.offers);
      untold = untold_noted (g.P.Port.events old.port) old.packer c.take.new.packer old.calls c.note_receive.new.self (Came event) old.falls c.take.new.falls
          old.after old.places old.untold noted c.take.ensures.after c.take.ensures.fell;
    }

pub returns-clause-event : goal.returns-clause-event
returns-clause-event g c =
    let old = c.args.self.now in
    let received = c.receive-received.result in
    let buffer = c.receive-received.new.buffer in
    let event = event_of_receive received buffer in
    let noted = c.note_receive.ensures ∙ ap (λ (b : List ℕ). record old.calls { calls = old.calls.calls ++ Came (event_of_receive received b) ∷ [] }) c.as_slice.ensures in
    told_noted (g.P.Port.events old.port) old.packer c.take.new.packer old.calls c.note_receive.new.self (Came event)
    (event_of_receive c.take.result c.take.new.buffer) old.after noted c.take.ensures.after c.take.ensures.handed

pub returns-in-Some-clause-stays : goal.returns-in-Some-clause-stays
returns-in-Some-clause-stays g c =
    let old = c.args.self.now in
    let setup = g.P.Port.setup old.port in
    setup_noted old.packer c.hand_in.new.self old.calls c.note_left.new.self Left setup setup c.hand_in.ensures.after c.note_left.ensures refl

pub returns-clause-stays : goal.returns-clause-stays
returns-clause-stays g c =
    let old = c.args.self.now in
    let received = c.receive-received.result in
    let buffer = c.receive-received.new.buffer in
    let noted = c.note_receive.ensures ∙ ap (λ (b : List ℕ). record old.calls { calls = old.calls.calls ++ Came (event_of_receive received b) ∷ [] }) c.as_slice.ensures in
    setup_noted old.packer c.take.new.packer old.calls c.note_receive.new.self (Came (event_of_receive received buffer))
    (g.P.Port.setup old.port) (g.P.Port.setup c.take.new.port) c.take.ensures.after noted (c.take.ensures.stays ∙ c.receive-received.ensures.stays)
