-- The call is a receive of the port below, or a part that was left.
use Rattle.std.proofs.Common.{◌∙◌, List, ℕ, length, sym, arith}
use Rattle.std.proofs.lemmas.Bool.{eqb-false, le-leb}
use Rattle.datagram_port.specs.Port.{event_of_receive}
use Rattle.bundle_port.specs.Runs.{Left, Waits}
use Rattle.bundle_port.proofs.CallLemmas.{after_call, after_waits, noted_with, only_event, told_call}
use Rattle.bundle_port.proofs.OfferLemmas.{grows_none}
use Rattle.bundle_port.proofs.port.BundlePortPort.receive.Goals as goal

pub invariant_of-self : goal.invariant_of-self
invariant_of-self g c =
    let old = c.args.self.now in
    let events = g.P.Port.events old.port in
    let left = length old.bundler.left.parts in
    let some = eqb-false left 0 (sym c.is_none_left.ensures ∙ c.if-not-is_none_left.true) in
    record {
      after = after_call events events old.bundler c.hand_in.new.self old.calls.calls c.note_left.new.self.calls Left
          old.after (le-leb 1 left (omega (arith, some))) c.note_left.ensures c.hand_in.ensures.after (grows_none events);
    }

pub returns-then-not-is_none_left-clause-event : goal.returns-then-not-is_none_left-clause-event
returns-then-not-is_none_left-clause-event g c =
    let old = c.args.self.now in
    told_call (g.P.Port.events old.port) old.bundler old.calls.calls c.note_left.new.self.calls Left (event_of_receive c.hand_in.result c.hand_in.new.buffer)
    old.after c.note_left.ensures (only_event c.hand_in.ensures.handed)

pub invariant_of-self-2 : goal.invariant_of-self-2
invariant_of-self-2 g c =
    let old = c.args.self.now in
    let received = c.receive-received.result in
    let buffer = c.receive-received.new.buffer in
    let noted = noted_with (λ (b : List ℕ). Waits (event_of_receive received b)) old.calls.calls c.note_wait.new.self.calls c.as_slice.result.now c.receive-received.new.buffer c.note_wait.ensures c.as_slice.ensures in
    let none = sym c.is_none_left.ensures ∙ c.if-not-is_none_left.false in
    record {
      after = after_waits (g.P.Port.events old.port) (g.P.Port.events c.flush_lanes.new.port) (g.P.Port.events c.receive-received.new.self) old.bundler c.flush_lanes.new.bundler c.take.new.self
          old.calls.calls c.note_wait.new.self.calls received buffer old.after none noted c.flush_lanes.ensures.after c.take.ensures.after c.flush_lanes.ensures.offers c.receive-received.ensures.event;
    }

pub returns-clause-event : goal.returns-clause-event
returns-clause-event g c =
    let old = c.args.self.now in
    let received = c.receive-received.result in
    let event = event_of_receive received c.receive-received.new.buffer in
    let noted = noted_with (λ (b : List ℕ). Waits (event_of_receive received b)) old.calls.calls c.note_wait.new.self.calls c.as_slice.result.now c.receive-received.new.buffer c.note_wait.ensures c.as_slice.ensures in
    told_call (g.P.Port.events old.port) old.bundler old.calls.calls c.note_wait.new.self.calls (Waits event) (event_of_receive c.take.result c.take.new.buffer)
    old.after noted (only_event c.take.ensures.handed)
