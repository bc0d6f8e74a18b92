use Rattle.std.proofs.Common.{List, BTreeMap, ℕ, ◌+◌, take, subst, sym}
use Rattle.retired_rows.specs.Staying.{HasGreatestOf, named_rows}
use Rattle.retired_rows.proofs.GreatestLemmas.{named_more, named_same}
use Rattle.retired_rows.proofs.staying.greatest_named_floors.Goals as goal
use Rattle.retired_rows.proofs.staying.greatest_named_floors.Goals.{then-row+in_ok-add_row, else-row}

pub loop-row-preserved : goal.loop-row-preserved
loop-row-preserved c =
    let rows = c.args.rows.now in
    let n = c.loop-row.row-index in
    let was = c.loop-row.invariant in
    let has = λ (index : BTreeMap (List ℕ) ℕ). HasGreatestOf (named_rows (take (n + 1) rows)) index in
    elim c.if-row.branch [
      | then-row+in_ok-add_row w ↦
          subst has (sym w.greatest-is)
          (named_more {row = c.row-item.result} rows n c.loop-row.greatest w.add_row.new.greatest
          w.in_ok-add_row.ensures c.loop-row-test.true c.row-item.is
          w.if-row.true was)
      | else-row w ↦
          subst has (sym w.greatest-is)
          (named_same {row = c.row-item.result} rows n c.loop-row.greatest c.loop-row-test.true c.row-item.is
          w.if-row.false was)
    ]
