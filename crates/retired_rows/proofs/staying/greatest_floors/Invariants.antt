use Rattle.std.proofs.Common.{take}
use Rattle.retired_rows.specs.Staying.{HasGreatestOf}
use Rattle.retired_rows.proofs.staying.greatest_floors.Given as goal

-- the index has the greatest floors of the rows so far
abbrev pub invariant-loop-row : goal.invariant-loop-row
invariant-loop-row l = HasGreatestOf (take l.row-index l.rows) l.greatest
