use Rattle.std.proofs.Common.{arith}
use Rattle.floors_file.specs.Named.{named_head_value}
use Rattle.floors_file.proofs.NamedReadingLemmas.{heard_bad, heard_next}
use Rattle.floors_file.proofs.named_reading.read_heard.Goals as goal

pub returns-in-Err-clause-fault : goal.returns-in-Err-clause-fault
returns-in-Err-clause-fault c = λ of_text.
    heard_bad c.args.first _ (named_head_value c.args.head) c.args.text.now c.loop-row.rest.now c.in-Some.row.now c.in-Some.behind.now
    c.loop-row.heard.items c.deref.result.now c.in-Err.kind c.in-Some.ensures.some c.deref.ensures.value c.in-Err.ensures
    (omega (arith, c.len.ensures, c.loop-row.heard.ok.0)) c.loop-row.invariant

pub loop-row-preserved : goal.loop-row-preserved
loop-row-preserved c =
    heard_next c.args.first (named_head_value c.args.head) c.args.text.now c.loop-row.rest.now c.in-Some.row.now c.in-Some.behind.now
    c.loop-row.heard.items c.deref.result.now c.push.new.self.items c.in-Ok.one c.in-Some.ensures.some c.deref.ensures.value c.in-Ok.ensures
    c.in-Ok-push.ensures.items c.loop-row.invariant
