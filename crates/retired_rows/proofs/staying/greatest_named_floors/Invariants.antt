use Rattle.std.proofs.Common.{take}
use Rattle.retired_rows.specs.Staying.{HasGreatestOf, named_rows}
use Rattle.retired_rows.proofs.staying.greatest_named_floors.Given as goal

-- the index has the greatest floors of the rows so far that the users file has
abbrev pub invariant-loop-row : goal.invariant-loop-row
invariant-loop-row l = HasGreatestOf (named_rows (take l.row-index l.rows)) l.greatest
