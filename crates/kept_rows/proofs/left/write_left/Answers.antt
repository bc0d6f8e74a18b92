use Rattle.kept_rows.proofs.RowLemmas.{both_written, bytes_of}
use Rattle.std.proofs.Common.{ap}
use Rattle.kept_rows.proofs.left.write_left.Goals as goal

pub returns : goal.returns
returns g c =
    both_written (g.W.Write.contents c.args.writer.now) (g.W.Write.contents c.write_first.new.writer) (g.W.Write.contents c.write_lines.new.writer)
    c.deref.result.now c.deref-2.result.now _ _ _ _ (ap bytes_of c.deref.ensures.value) c.in-Ok-Ok.ensures (ap bytes_of c.deref-2.ensures.value) c.in-Ok-Ok.ensures'
    c.in_ok-write_first.ensures c.in_ok-write_lines.ensures
