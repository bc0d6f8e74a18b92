use Rattle.std.proofs.Common.{arith}
use Rattle.floors_file.proofs.ReadingLemmas.{read_bad, read_next}
use Rattle.floors_file.proofs.reading.read_rows.Goals as goal

pub returns-in-Err-clause-fault : goal.returns-in-Err-clause-fault
returns-in-Err-clause-fault c = λ of_text.
    read_bad c.args.tokens c.args.text.now c.loop-line.rows.items c.deref.result.now c.loop-line.rest.now c.in-Some.line.now c.in-Some.behind.now
    c.in-Err.kind c.at_row-in-Err.result.kind c.at_row-in-Err.result.line c.in-Some.ensures.some c.deref.ensures.value c.in-Err.ensures
    (omega arith) c.at_row-in-Err.ensures.kind c.loop-line.invariant

pub loop-line-preserved : goal.loop-line-preserved
loop-line-preserved c =
    read_next c.args.tokens c.args.text.now c.loop-line.rows.items c.deref.result.now c.push.new.self.items c.loop-line.rest.now c.in-Some.line.now c.in-Some.behind.now
    c.in-Ok.row c.in-Some.ensures.some c.deref.ensures.value c.in-Ok.ensures c.in-Ok-push.ensures.items c.loop-line.invariant
