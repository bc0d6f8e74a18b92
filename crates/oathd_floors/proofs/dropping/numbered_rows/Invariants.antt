use Rattle.std.proofs.Common.{◌≡◌, take}
use Rattle.oathd_floors.specs.Dropped.{numbered}
use Rattle.oathd_floors.proofs.dropping.numbered_rows.Given as goal

-- the rows so far have their numbers
abbrev pub invariant-loop-token : goal.invariant-loop-token
invariant-loop-token g l =
    let held = g.S.FloorStore.held l.store in
    held.is_clean → l.rows.items ≡ numbered 0 (take l.token l.roster) (take l.token held.content.rows) l.names
