use Rattle.std.proofs.Common.{◌≡◌, ◌+◌, ◌-◌, ◌/◌, ◌<◌, length, sym, ap, ◌∙◌, is_gt, arith}
use Rattle.std.specs.Option.{option_copied}
use Rattle.answer_ring.specs.AnswerIndex.{indexed_answer, IsEnd}
use Rattle.answer_ring.proofs.FoundLemmas.{newest_found}
use Rattle.answer_ring.proofs.HalvingLemmas.{above_from, at_most_up_to, halved_again, less_up_to, order_at}
use Rattle.answer_ring.proofs.answers.search.Goals as goal

pub loop-low-preserved-in-Greater : goal.loop-low-preserved-in-Greater
loop-low-preserved-in-Greater c =
    let kept = c.args.ring.now.items in
    let places = c.args.index.now in
    let sought = c.args.sought.now in
    let low = c.loop-low.low in
    let high = c.loop-low.high in
    let middle = low + (high - low) / 2 in
    let before = c.loop-low.invariant in
    let within : middle < length places = omega (arith, before.in_range) in
    let compared = order_at kept places sought middle _ c.from.ensures _ _ c.unwrap-kept.ensures c.get.ensures _ c.in-Greater.ensures.order in
    let half = halved_again 11 (high - low) _ _ c.compare.ensures.counted (omega arith) before.halves (middle - low) (omega arith) in
    record {
      rising = omega arith;
      in_range = omega arith;
      below = before.below;
      above = above_from kept places c.requires.index sought middle within (ap is_gt compared.1);
      last = before.last;
      few = half.0;
      halves = half.1;
    }

pub loop-low-preserved-in-Less : goal.loop-low-preserved-in-Less
loop-low-preserved-in-Less c =
    let kept = c.args.ring.now.items in
    let places = c.args.index.now in
    let sought = c.args.sought.now in
    let low = c.loop-low.low in
    let high = c.loop-low.high in
    let middle = low + (high - low) / 2 in
    let before = c.loop-low.invariant in
    let within : middle < length places = omega (arith, before.in_range) in
    let compared = order_at kept places sought middle _ c.from.ensures _ _ c.unwrap-kept.ensures c.get.ensures _ c.in-Less.ensures.order in
    let half = halved_again 11 (high - low) _ _ c.compare.ensures.counted (omega arith) before.halves (high - (middle + 1)) (omega arith) in
    record {
      rising = omega arith;
      in_range = before.in_range;
      below = at_most_up_to kept places c.requires.index sought middle within (ap is_gt compared.1);
      above = before.above;
      last = less_up_to kept places c.requires.index sought middle within compared.1;
      few = half.0;
      halves = half.1;
    }

pub loop-low-preserved : goal.loop-low-preserved
loop-low-preserved c =
    let kept = c.args.ring.now.items in
    let places = c.args.index.now in
    let sought = c.args.sought.now in
    let low = c.loop-low.low in
    let high = c.loop-low.high in
    let middle = low + (high - low) / 2 in
    let before = c.loop-low.invariant in
    let within : middle < length places = omega (arith, before.in_range) in
    let compared = order_at kept places sought middle _ c.from.ensures _ _ c.unwrap-kept.ensures c.get.ensures _ c.in-Equal.ensures.order in
    let half = halved_again 11 (high - low) _ _ c.compare.ensures.counted (omega arith) before.halves (high - (middle + 1)) (omega arith) in
    let is_last : middle ≡ (middle + 1) - 1 = omega arith in
    record {
      rising = omega arith;
      in_range = before.in_range;
      below = at_most_up_to kept places c.requires.index sought middle within (ap is_gt compared.1);
      above = before.above;
      last = (omega arith, sym compared.0 ∙ ap (indexed_answer kept places) is_last, sym c.in-Equal.ensures.order);
      few = half.0;
      halves = half.1;
    }

pub returns-clause-newest : goal.returns-clause-newest
returns-clause-newest c =
    let kept = c.args.ring.now.items in
    let places = c.args.index.now in
    let sought = c.args.sought.now in
    let after = c.loop-low.invariant in
    let ends : IsEnd kept places sought c.loop-low.low = record {
      in_range = omega (arith, after.in_range, after.rising);
      below = after.below;
      above = λ i le lt. after.above i (omega arith) lt;
    } in
    newest_found kept places c.requires.index sought c.loop-low.low ends (option_copied c.loop-low.newest) after.last
