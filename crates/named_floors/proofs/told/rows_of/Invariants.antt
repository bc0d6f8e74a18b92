use Rattle.std.proofs.Common.{◌≡◌, take}
use Rattle.named_floors.specs.Told.{told_rows}
use Rattle.named_floors.proofs.told.rows_of.Given as goal

-- the rows so far are told
abbrev pub invariant-loop-token : goal.invariant-loop-token
invariant-loop-token g l =
    let held = g.S.FloorStore.held l.store in
    held.is_clean → l.rows.items ≡ told_rows (take l.token l.roster) (take l.token held.content.rows)
