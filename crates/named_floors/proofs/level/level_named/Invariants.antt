use Rattle.named_floors.specs.Level.{told_by}
use Rattle.named_floors.proofs.LevelLemmas.{LevelledSoFar}
use Rattle.named_floors.proofs.level.level_named.Given as goal

-- the first rows are levelled
abbrev pub invariant-loop-token : goal.invariant-loop-token
invariant-loop-token g l = LevelledSoFar g.S.FloorStore.held l.fn.store l.store (told_by l.gathered l.roster) l.token
