use Rattle.std.proofs.Common.{◌≡◌, ◌+◌, ◌<◌, ◌++◌, length, take, Some, slice_get, ap, sym, ◌∙◌, subst, arith}
use Rattle.std.proofs.lemmas.List.{take_all}
use Rattle.std.proofs.lemmas.Option.{slice_get-get_or}
use Rattle.std.specs.Prelude.{List}
use Rattle.sqlite.specs.Held.{state}
use Rattle.sqlite.specs.State.{HasCleanDisk}
use Rattle.floor_sql.specs.Staged.{CanPut, MakesPuts, with_puts, passes_in}
use Rattle.floor_sql.specs.declared.put.Put.{Put}
use Rattle.floor_sql.proofs.OneRowLemmas.{keeps_then, put_keeps}
use Rattle.floor_sql.proofs.StagedLemmas.{has_floor_in, length_with_puts, next_put, passes_in-next}
use Rattle.floor_sql.proofs.StepLemmas.{changes, goes_on, refuses, steps_then}
use Rattle.floor_sql.proofs.write.put_all.Goals as goal

pub put-requires-clause-there : goal.put-requires-clause-there
put-requires-clause-there g c clean =
    let old = state g.S.Store c.args.tx.now.conn.now in
    let mid = state g.S.Store c.loop-each.tx.conn.now in
    let kept = c.loop-each.invariant in
    let puts = c.args.puts.now in
    let i = c.loop-each.each-index in
    let item = c.each-item.result in
    let before : HasCleanDisk old = omega (arith, kept.steps.crash.clean) in
    let can : CanPut old.now c.args.count puts = c.requires.there before in
    let made = kept.made clean can.format can.content can.passes can.schema can.holds can.counted in
    let inside : i < length puts = omega arith in
    let at : slice_get puts i ≡ Some item = slice_get-get_or puts i item inside ∙ ap Some (sym c.each-item.is) in
    let low = can.tokens i item at in
    let still : item.token < length (with_puts can.content (take i puts)).rows = omega (arith, low, length_with_puts can.content (take i puts)) in
    has_floor_in can.format mid.now (with_puts can.content (take i puts)) (can.passes ++ passes_in (take i puts)) item.token still made.0 made.1

pub put-requires-clause-inside : goal.put-requires-clause-inside
put-requires-clause-inside g c = c.loop-each.invariant.steps.goes

pub loop-each-preserved : goal.loop-each-preserved
loop-each-preserved g c =
    let kept = c.loop-each.invariant in
    let old = state g.S.Store c.args.tx.now.conn.now in
    let mid = state g.S.Store c.loop-each.tx.conn.now in
    let new = state g.S.Store c.put.new.tx.conn.now in
    let step = c.put.ensures in
    let puts = c.args.puts.now in
    let i = c.loop-each.each-index in
    let item = c.each-item.result in
    let inside : i < length puts = omega arith in
    let at : slice_get puts i ≡ Some item = slice_get-get_or puts i item inside ∙ ap Some (sym c.each-item.is) in
    let before = λ (clean : HasCleanDisk new). let early : HasCleanDisk mid = omega (arith, step.steps.crash.clean) in early in
    let more = passes_in-next puts i item at in
    let counted = c.pass_count-number.ensures.value in
    record {
      number = omega (arith, kept.number, more, counted);
      low = omega (arith, kept.low, c.pass_count-number.ensures.in_range);
      steps = goes_on (steps_then kept.steps c.in_ok-put.ensures.steps);
      made = λ clean. next_put c.args.count puts i item c.loop-each.number old.now mid.now new.now at kept.number (kept.made (before clean)) (c.in_ok-put.ensures.made clean);
      one_row = λ clean. keeps_then old.now.trees mid.now.trees new.now.trees (kept.one_row (before clean))
          (put_keeps item.token item.row (c.loop-each.number + 1) item.pass mid.now new.now (c.in_ok-put.ensures.made clean));
    }

pub returns-in_err-put-clause-changes : goal.returns-in_err-put-clause-changes
returns-in_err-put-clause-changes g c =
    let kept = c.loop-each.invariant in
    let mid = state g.S.Store c.loop-each.tx.conn.now in
    let puts = c.args.puts.now in
    let i = c.loop-each.each-index in
    let item = c.each-item.result in
    let inside : i < length puts = omega arith in
    let at : slice_get puts i ≡ Some item = slice_get-get_or puts i item inside ∙ ap Some (sym c.each-item.is) in
    refuses c.from_residual.ensures.1 (steps_then kept.steps c.in_err-put.ensures.steps) (λ clean is rows.
    let early : HasCleanDisk mid = omega (arith, c.put.ensures.steps.crash.clean) in
    let one = rows i item at in
    let keeps = kept.one_row early in
    c.in_err-put.ensures.unusable clean is
    (record { floor = keeps.floor item.token one.floor; drift = keeps.drift item.token one.drift }))

pub returns-clause-changes : goal.returns-clause-changes
returns-clause-changes g c =
    let old = state g.S.Store c.args.tx.now.conn.now in
    let mid = state g.S.Store c.loop-each.tx.conn.now in
    let puts = c.args.puts.now in
    let all : take c.loop-each.each-index puts ≡ puts = take_all c.loop-each.each-index puts (omega arith) in
    changes c.loop-each.invariant.steps
    (λ clean. subst (λ (l : List Put). MakesPuts c.args.count l old.now mid.now) all (c.loop-each.invariant.made clean))
