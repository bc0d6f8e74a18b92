use Rattle.std.proofs.Common.{◌≡◌, take}
use Rattle.named_floors.specs.Remade.{gathered_entries}
use Rattle.named_floors.proofs.remaking.gathered_entries.Given as goal

-- the entries of the rows so far
abbrev pub invariant-loop-row : goal.invariant-loop-row
invariant-loop-row l = l.all.items ≡ gathered_entries l.names (take l.row-index l.gathered)
