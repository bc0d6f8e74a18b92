use Rattle.std.proofs.Common.{◌≡◌, take}
use Rattle.named_floors.specs.Remade.{gathered_floors}
use Rattle.named_floors.proofs.remaking.gathered_floors.Given as goal

-- the floors of the rows so far
abbrev pub invariant-loop-row : goal.invariant-loop-row
invariant-loop-row l = l.all.items ≡ gathered_floors (take l.row-index l.gathered)
