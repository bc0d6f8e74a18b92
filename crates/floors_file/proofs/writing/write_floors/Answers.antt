use Rattle.std.proofs.Common.{arith}
use Rattle.floors_file.proofs.WritingLemmas.{floors_written}
use Rattle.floors_file.proofs.writing.write_floors.Goals as goal

pub returns : goal.returns
returns g c =
    floors_written c.write_rows.result c.args.floors.now.head c.args.floors.now.rows.items c.deref.result.now _ (g.W.Write.contents c.args.writer.now) _
    (g.W.Write.contents c.write_rows.new.writer) c.deref.ensures.value (omega arith) c.in_ok-write_head.ensures c.write_rows.ensures
