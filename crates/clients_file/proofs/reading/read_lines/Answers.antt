use Rattle.std.proofs.Common.{◌∷◌, [], length, length-append, refl, ap, ◌∙◌, arith}
use Rattle.std.specs.Prelude.{◌==◌}
use Rattle.std.proofs.lemmas.Iterator.Consumers.{YieldsList-at, YieldsList-end, YieldsList-turn}
use Rattle.std.proofs.lemmas.Iterator.Splits.{YieldsList-from_slice_split}
use Rattle.token_file.specs.Fields.{lines_of}
use Rattle.clients_file.proofs.ReadingLemmas.{at_number, said_all, said_bad, said_next}
use Rattle.clients_file.proofs.reading.read_lines.Goals as goal

pub loop-line-preserved : goal.loop-line-preserved
loop-line-preserved c =
    let road = YieldsList-at c.into_iter-line-iterator.ensures.into_iter_gives (YieldsList-from_slice_split _ (λ b. b == 10) c.args.text.now
    c.split-line-items.ensures.rest c.split-line-items.ensures.done c.split-line-items.ensures.closure (λ x r q k. (refl, k.called.met ∙ ap (λ b. b == 10) k.shows))) in
    let turn = YieldsList-turn road c.loop-line.yielded c.loop-line.line-iterator c.loop-line.yielded_by c.next.result c.next.new.self c.in-Some.line c.in-Some.is c.next.ensures.steps in
    let here = at_number (lines_of c.args.text.now) c.loop-line.number (length c.loop-line.yielded) c.in-Some.line.now c.loop-line.invariant.count turn.0 turn.1 in
    let longer = length-append c.loop-line.yielded (c.in-Some.line ∷ []) in
    record {
      count = omega arith;
      said = said_next (lines_of c.args.text.now) c.loop-line.said c.loop-line.number c.in-Some.line.now
          c.take_line.new.self here.0 here.1 c.in-Ok.ensures.ok c.loop-line.invariant.said;
    }

pub returns-in-Err-clause-fault : goal.returns-in-Err-clause-fault
returns-in-Err-clause-fault c =
    let road = YieldsList-at c.into_iter-line-iterator.ensures.into_iter_gives (YieldsList-from_slice_split _ (λ b. b == 10) c.args.text.now
    c.split-line-items.ensures.rest c.split-line-items.ensures.done c.split-line-items.ensures.closure (λ x r q k. (refl, k.called.met ∙ ap (λ b. b == 10) k.shows))) in
    let turn = YieldsList-turn road c.loop-line.yielded c.loop-line.line-iterator c.loop-line.yielded_by c.next.result c.next.new.self c.in-Some.line c.in-Some.is c.next.ensures.steps in
    let here = at_number (lines_of c.args.text.now) c.loop-line.number (length c.loop-line.yielded) c.in-Some.line.now c.loop-line.invariant.count turn.0 turn.1 in
    λ of_text. said_bad (lines_of c.args.text.now) c.loop-line.said c.loop-line.number c.in-Some.line.now c.in-Err.kind here.0 here.1
    (c.in-Err.ensures.fault of_text) c.loop-line.invariant.said

pub returns-clause-said : goal.returns-clause-said
returns-clause-said c =
    let road = YieldsList-at c.into_iter-line-iterator.ensures.into_iter_gives (YieldsList-from_slice_split _ (λ b. b == 10) c.args.text.now
    c.split-line-items.ensures.rest c.split-line-items.ensures.done c.split-line-items.ensures.closure (λ x r q k. (refl, k.called.met ∙ ap (λ b. b == 10) k.shows))) in
    let end = YieldsList-end road c.loop-line.yielded c.loop-line.line-iterator c.loop-line.yielded_by c.next.result c.next.new.self c.in-None.is c.next.ensures.steps in
    said_all (lines_of c.args.text.now) c.loop-line.said c.loop-line.number (omega arith) c.loop-line.invariant.said
