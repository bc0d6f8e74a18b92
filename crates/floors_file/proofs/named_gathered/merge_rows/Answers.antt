use Rattle.floors_file.proofs.NamedGatheredLemmas.{with_rows_next}
use Rattle.floors_file.proofs.named_gathered.merge_rows.Goals as goal

pub loop-row-preserved : goal.loop-row-preserved
loop-row-preserved c =
    with_rows_next c.args.gathered.now c.args.rows.now c.loop-row.gathered c.merge.new.self c.loop-row.row-index c.row-item.result c.row-item.result
    c.loop-row-test.true c.row-item.is c.loop-row.invariant c.in_ok-merge.ensures
