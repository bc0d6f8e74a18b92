use Rattle.std.proofs.Common.{take}
use Rattle.named_store.specs.Floors.{HasGreatest}
use Rattle.named_store.proofs.floors.greatest_floors.Given as goal

-- the index has the greatest floors of the rows so far
abbrev pub invariant-loop-row : goal.invariant-loop-row
invariant-loop-row l = HasGreatest (take l.row l.roster) (take l.row l.held) l.greatest
