use Rattle.std.proofs.Common.{◌≡◌, length}
use Rattle.oathd_asking.specs.Table.{field_in, field_of, lines_in}
use Rattle.oathd_asking.proofs.table.field.Given as goal

-- the lines that are left have the field
abbrev pub invariant-loop-line : goal.invariant-loop-line
invariant-loop-line l = field_in l.word (lines_in l.rest) ≡ field_of l.text l.word

abbrev pub decreases-loop-line : goal.decreases-loop-line
decreases-loop-line l = length l.rest
