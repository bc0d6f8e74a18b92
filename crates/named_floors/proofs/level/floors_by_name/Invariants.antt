use Rattle.named_floors.proofs.LevelLemmas.{HasFloorsFrom}
use Rattle.named_floors.proofs.level.floors_by_name.Given as goal

-- the index has the floors of the rows from the last place on
abbrev pub invariant-loop-place : goal.invariant-loop-place
invariant-loop-place l = HasFloorsFrom l.place l.gathered l.index
