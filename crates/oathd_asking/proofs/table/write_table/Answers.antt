use Rattle.std.proofs.Common.{length, map}
use Rattle.std.proofs.lemmas.List.{length-map}
use Rattle.oathd_asking.proofs.TableLemmas.{table_at}
use Rattle.oathd_asking.proofs.table.write_table.Goals as goal

pub returns : goal.returns
returns g c =
    let texts = c.args.texts.now in
    table_at c.write_rows.result (map (λ text. text.items) texts) c.first_of.result.now (length texts) (g.W.Write.contents c.args.writer.now)
    (g.W.Write.contents c.write_all.new.self) (g.W.Write.contents c.write_rows.new.writer) c.in_ok-write_all.ensures.bytes c.first_of.ensures
    (length-map texts (λ text. text.items)) c.write_rows.ensures
