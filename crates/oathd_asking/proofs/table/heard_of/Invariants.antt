use Rattle.std.proofs.Common.{◌≡◌, ◌+◌, ◌≤◌, length}
use Rattle.oathd_asking.specs.Table.{heard_in, heard_of, lines_in}
use Rattle.oathd_asking.proofs.table.heard_of.Given as goal

-- those of the lines before, and no more than their bytes
abbrev pub invariant-loop-line : goal.invariant-loop-line
invariant-loop-line l = (l.heard + heard_in (lines_in l.rest) ≡ heard_of l.text) × (l.heard + length l.rest ≤ 1 + length l.text)

abbrev pub decreases-loop-line : goal.decreases-loop-line
decreases-loop-line l = length l.rest
