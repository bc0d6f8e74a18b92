use Rattle.std.proofs.Common.{◌≡◌, map, take}
use Rattle.floors_file.specs.Floors.{floor_value}
use Rattle.oathd_database.specs.Floors.{told_rows}
use Rattle.oathd_database.proofs.floors.floors_of.Given as goal

-- the floors of the tokens until now are in the list
abbrev pub invariant-loop-token : goal.invariant-loop-token
invariant-loop-token g l =
    let held = g.S.FloorStore.held l.store in
    held.is_clean → map floor_value l.rows.items ≡ told_rows (take l.token l.fn.book) (take l.token held.content.rows)
