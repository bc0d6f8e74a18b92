use Rattle.std.proofs.Common.{◌∷◌, [], length, length-append, refl, ap, ◌∙◌, arith}
use Rattle.std.specs.Prelude.{◌==◌}
use Rattle.std.proofs.lemmas.Iterator.Consumers.{YieldsList-at, YieldsList-end, YieldsList-turn}
use Rattle.std.proofs.lemmas.Iterator.Splits.{YieldsList-from_slice_split}
use Rattle.token_file.specs.Fields.{lines_of}
use Rattle.oathd_tasks.specs.Tally.{tally_value}
use Rattle.oathd_tasks.proofs.TallyLemmas.{at_number, counted_all, counted_next}
use Rattle.oathd_tasks.proofs.tally.tally_of.Goals as goal

pub loop-line-preserved : goal.loop-line-preserved
loop-line-preserved c =
    let road = YieldsList-at c.into_iter-line-iterator.ensures.into_iter_gives (YieldsList-from_slice_split _ (λ b. b == 10) c.args.text.now
    c.split-line-items.ensures.rest c.split-line-items.ensures.done c.split-line-items.ensures.closure (λ x r q k. (refl, k.called.met ∙ ap (λ b. b == 10) k.shows))) in
    let turn = YieldsList-turn road c.loop-line.yielded c.loop-line.line-iterator c.loop-line.yielded_by c.next.result c.next.new.self c.in-Some.line c.in-Some.is c.next.ensures.steps in
    let here = at_number (lines_of c.args.text.now) c.loop-line.number (length c.loop-line.yielded) c.in-Some.line.now c.loop-line.invariant.count turn.0 turn.1 in
    let longer = length-append c.loop-line.yielded (c.in-Some.line ∷ []) in
    record {
      count = omega arith;
      bound = c.in_ok-tally.ensures.bound;
      counted = counted_next (lines_of c.args.text.now) (tally_value c.loop-line.tally) c.loop-line.number c.in-Some.line.now
          _ here.0 here.1 c.in_ok-tally.ensures.value c.loop-line.invariant.counted;
    }

pub returns : goal.returns
returns c =
    let road = YieldsList-at c.into_iter-line-iterator.ensures.into_iter_gives (YieldsList-from_slice_split _ (λ b. b == 10) c.args.text.now
    c.split-line-items.ensures.rest c.split-line-items.ensures.done c.split-line-items.ensures.closure (λ x r q k. (refl, k.called.met ∙ ap (λ b. b == 10) k.shows))) in
    let end = YieldsList-end road c.loop-line.yielded c.loop-line.line-iterator c.loop-line.yielded_by c.next.result c.next.new.self c.in-None.is c.next.ensures.steps in
    counted_all (lines_of c.args.text.now) (tally_value c.loop-line.tally) c.loop-line.number (omega arith) c.loop-line.invariant.counted
