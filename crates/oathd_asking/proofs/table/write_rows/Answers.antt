use Rattle.std.proofs.Common.{length, arith}
use Rattle.oathd_asking.proofs.TableLemmas.{rows_with}
use Rattle.oathd_asking.proofs.table.write_rows.Goals as goal

pub loop-text-preserved : goal.loop-text-preserved
loop-text-preserved g c =
    let middle = g.W.Write.contents c.loop-text.writer in
    let new = g.W.Write.contents c.write_row.new.writer in
    let first = c.args.first.now in
    let members = length c.args.texts.now in
    record {
      next = omega (arith, c.loop-text.invariant.next);
      written = rows_with (λ text. text.items) first members c.args.texts.now c.loop-text.text-index c.loop-text.number c.text-item.result
          c.as_slice.result.now (g.W.Write.contents c.args.writer.now) middle new (omega arith) c.text-item.is c.as_slice.ensures.value
          c.loop-text.invariant.next c.loop-text.invariant.written c.in_ok-write_row.ensures;
    }
