use Rattle.std.proofs.Common.{◌≡◌, take}
use Rattle.floors_file.specs.NamedGathered.{with_rows}
use Rattle.floors_file.proofs.named_gathered.merge_rows.Given as goal

-- the rows so far are added
abbrev pub invariant-loop-row : goal.invariant-loop-row
invariant-loop-row l = l.gathered ≡ with_rows l.fn.gathered (take l.row-index l.rows)
