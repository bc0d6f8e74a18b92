use Rattle.std.proofs.Common.{◌∷◌, [], length, length-append, refl, ap, subst, ◌∙◌, arith}
use Rattle.std.specs.Prelude.{◌==◌, Err}
use Rattle.std.proofs.lemmas.Iterator.Consumers.{YieldsList-at, YieldsList-end, YieldsList-turn}
use Rattle.std.proofs.lemmas.Iterator.Splits.{YieldsList-from_slice_split}
use Rattle.oathd_sim.specs.Event.{empty_script, script_value}
use Rattle.oathd_sim.specs.Reading.{Takes}
use Rattle.oathd_sim.specs.Lines.{lines_of}
use Rattle.oathd_sim.specs.Script.{with_line}
use Rattle.oathd_sim.proofs.TurnLemmas.{at_number, taken_all, taken_bad, taken_next}
use Rattle.oathd_sim.proofs.script.read_script.Goals as goal

pub loop-line-preserved : goal.loop-line-preserved
loop-line-preserved c =
    let road = YieldsList-at c.into_iter-line-iterator.ensures.into_iter_gives (YieldsList-from_slice_split _ (λ b. b == 10) c.args.text.now
    c.split-line-items.ensures.rest c.split-line-items.ensures.done c.split-line-items.ensures.closure (λ x r q k. (refl, k.called.met ∙ ap (λ b. b == 10) k.shows))) in
    let turn = YieldsList-turn road c.loop-line.yielded c.loop-line.line-iterator c.loop-line.yielded_by c.next.result c.next.new.self c.in-Some.line c.in-Some.is c.next.ensures.steps in
    let here = at_number (lines_of c.args.text.now) c.loop-line.number (length c.loop-line.yielded) c.in-Some.line.now c.loop-line.invariant.count turn.0 turn.1 in
    let longer = length-append c.loop-line.yielded (c.in-Some.line ∷ []) in
    record {
      count = omega arith;
      taken = taken_next (with_line c.args.nodes) empty_script (lines_of c.args.text.now) (script_value c.loop-line.script) c.loop-line.number c.in-Some.line.now
          (script_value c.take_line.new.self) here.0 here.1 c.in-Ok.ensures c.loop-line.invariant.taken;
    }

pub returns-in-Err-Form-clause-fault : goal.returns-in-Err-Form-clause-fault
returns-in-Err-Form-clause-fault c =
    let road = YieldsList-at c.into_iter-line-iterator.ensures.into_iter_gives (YieldsList-from_slice_split _ (λ b. b == 10) c.args.text.now
    c.split-line-items.ensures.rest c.split-line-items.ensures.done c.split-line-items.ensures.closure (λ x r q k. (refl, k.called.met ∙ ap (λ b. b == 10) k.shows))) in
    let turn = YieldsList-turn road c.loop-line.yielded c.loop-line.line-iterator c.loop-line.yielded_by c.next.result c.next.new.self c.in-Some.line c.in-Some.is c.next.ensures.steps in
    let here = at_number (lines_of c.args.text.now) c.loop-line.number (length c.loop-line.yielded) c.in-Some.line.now c.loop-line.invariant.count turn.0 turn.1 in
    let script = script_value c.loop-line.script in
    taken_bad (with_line c.args.nodes) empty_script (lines_of c.args.text.now) script c.loop-line.number c.in-Some.line.now here.0 here.1
    (subst (λ fault. Takes (with_line c.args.nodes script c.in-Some.line.now) (script_value c.take_line.new.self) (Err fault)) c.in-Err-Form.field-0-is c.in-Err-Form.ensures)
    c.loop-line.invariant.taken

pub returns-clause-script : goal.returns-clause-script
returns-clause-script c =
    let road = YieldsList-at c.into_iter-line-iterator.ensures.into_iter_gives (YieldsList-from_slice_split _ (λ b. b == 10) c.args.text.now
    c.split-line-items.ensures.rest c.split-line-items.ensures.done c.split-line-items.ensures.closure (λ x r q k. (refl, k.called.met ∙ ap (λ b. b == 10) k.shows))) in
    let end = YieldsList-end road c.loop-line.yielded c.loop-line.line-iterator c.loop-line.yielded_by c.next.result c.next.new.self c.in-None.is c.next.ensures.steps in
    taken_all (with_line c.args.nodes) empty_script (lines_of c.args.text.now) (script_value c.loop-line.script) c.loop-line.number (omega arith) c.loop-line.invariant.taken
