use Rattle.cluster_file.proofs.WritingLemmas.{append_more, on_more}
use Rattle.cluster_file.proofs.check.write_summary.Goals as goal

pub returns : goal.returns
returns g c =
    let at = g.W.Write.contents in
    let values = c.in_ok-write_values.ensures c.args.book.now in
    on_more c.write_word.result (at c.args.writer.now) (at c.write_shared_counts.new.writer) (at c.write_word.new.writer) _ _
    (append_more (at c.args.writer.now) (at c.write_values.new.writer) (at c.write_shared_counts.new.writer) _ _ values c.in_ok-write_shared_counts.ensures)
    c.write_word.ensures
