use Rattle.std.proofs.Common.{◌≡◌, take}
use Rattle.std.specs.Prelude.{filter, not}
use Rattle.retired_rows.specs.Staying.{goes}
use Rattle.retired_rows.proofs.staying.staying_rows.Given as goal

-- the rows so far that stay
abbrev pub invariant-loop-row : goal.invariant-loop-row
invariant-loop-row l = l.kept.items ≡ filter (λ row. not (goes l.rows row)) (take l.row-index l.rows)
