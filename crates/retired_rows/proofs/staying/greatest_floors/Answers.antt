use Rattle.retired_rows.proofs.GreatestLemmas.{has_more}
use Rattle.retired_rows.proofs.staying.greatest_floors.Goals as goal

pub loop-row-preserved : goal.loop-row-preserved
loop-row-preserved c =
    has_more {row = c.row-item.result} c.args.rows.now c.loop-row.row-index c.loop-row.greatest c.add_row.new.greatest
    c.in_ok-add_row.ensures
    c.loop-row-test.true c.row-item.is c.loop-row.invariant
