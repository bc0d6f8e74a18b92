use Rattle.std.proofs.Common.{map}
use Rattle.floors_file.specs.Floors.{floors_value}
use Rattle.oathd_database.specs.Level.{told_by}
use Rattle.oathd_database.proofs.LevelLemmas.{LevelledSoFar}
use Rattle.oathd_database.proofs.level.level_rows.Given as goal

-- the first tokens are levelled
abbrev pub invariant-loop-token : goal.invariant-loop-token
invariant-loop-token g l =
    LevelledSoFar g.S.FloorStore.held l.fn.store l.store (told_by (map floors_value l.fn.files) l.fn.book) l.token
