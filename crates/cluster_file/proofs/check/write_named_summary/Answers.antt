use Rattle.cluster_file.proofs.WritingLemmas.{append_more, on_more}
use Rattle.cluster_file.proofs.check.write_named_summary.Goals as goal

pub returns : goal.returns
returns g c =
    let at = g.W.Write.contents in
    let values = c.in_ok-write_values.ensures c.args.book.now in
    let counts = append_more (at c.args.writer.now) (at c.write_values.new.writer) (at c.write_counts.new.writer) _ _ values c.in_ok-write_counts.ensures in
    let rows = append_more (at c.args.writer.now) (at c.write_counts.new.writer) (at c.write_row_count.new.writer) _ _ counts c.in_ok-write_row_count.ensures in
    let print = append_more (at c.args.writer.now) (at c.write_row_count.new.writer) (at c.write_word.new.writer) _ _ rows c.in_ok-write_word.ensures in
    on_more c.write_print.result (at c.args.writer.now) (at c.write_word.new.writer) (at c.write_print.new.writer) _ _ print c.write_print.ensures
