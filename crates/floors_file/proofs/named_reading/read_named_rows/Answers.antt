use Rattle.std.proofs.Common.{refl}
use Rattle.floors_file.proofs.NamedReadingLemmas.{rows_bad, rows_next, rows_unended}
use Rattle.floors_file.proofs.named_reading.read_named_rows.Goals as goal

pub returns-in_default-clause-fault : goal.returns-in_default-clause-fault
returns-in_default-clause-fault c = λ of_text.
    rows_unended c.args.count c.loop-number.number _ c.args.text.now c.loop-number.rest.now c.loop-number.rows c.row_fault.result
    c.loop-number-test.true c.in_default.ensures.none c.row_fault.ensures refl c.loop-number.invariant

pub returns-in-Err-clause-fault : goal.returns-in-Err-clause-fault
returns-in-Err-clause-fault c = λ of_text.
    rows_bad c.args.count c.loop-number.number _ c.args.text.now c.loop-number.rest.now c.in-Some.row.now c.in-Some.behind.now c.loop-number.rows
    c.in-Err.kind c.loop-number-test.true c.in-Some.ensures.some c.in-Err.ensures refl c.loop-number.invariant

pub loop-number-preserved : goal.loop-number-preserved
loop-number-preserved c =
    rows_next c.args.count c.loop-number.number c.args.text.now c.loop-number.rest.now c.in-Some.row.now c.in-Some.behind.now c.loop-number.rows
    c.push.new.self c.in-Ok.row c.loop-number-test.true c.in-Some.ensures.some c.in-Ok.ensures c.in-Ok-push.ensures.ok c.loop-number.invariant
