use Rattle.std.proofs.Common.{◌≡◌, ◌+◌, ◌*◌, ◌∙◌, ℕ, None, Some, drop, sym, ap, arith}
use Rattle.floor_port.specs.Floors.{floor_at}
use Rattle.floor_port.proofs.FloorLemmas.{no_more, one_more, read_on, tail_is}
use Rattle.floor_port.proofs.body.floors_from.Goals as goal

pub returns-in_default : goal.returns-in_default
returns-in_default c =
    let place = c.loop-place.place in
    let at : None ≡ floor_at (drop (place * 24) c.args.bytes.now) = sym c.in_default.is ∙ c.floor_at.ensures ∙ ap floor_at (tail_is (place * 24) c.args.bytes.now) in
    sym (no_more c.args.count place c.args.bytes.now c.loop-place.floors.items c.loop-place-test.true at) ∙ c.loop-place.invariant.reads

pub loop-place-preserved : goal.loop-place-preserved
loop-place-preserved c =
    let place = c.loop-place.place in
    let floor = c.in-Some.floor in
    let at : Some floor ≡ floor_at (drop (place * 24) c.args.bytes.now) = sym c.in-Some.is ∙ c.floor_at.ensures ∙ ap floor_at (tail_is (place * 24) c.args.bytes.now) in
    record {
      within = omega (arith, c.loop-place-test.true);
      len = c.push.ensures.len ∙ ap (λ (n : ℕ). n + 1) c.loop-place.invariant.len;
      reads = ap (read_on c.args.count c.args.bytes.now (place + 1)) c.push.ensures.items
          ∙ sym (one_more c.args.count place c.args.bytes.now c.loop-place.floors.items floor c.loop-place-test.true at) ∙ c.loop-place.invariant.reads;
    }
