use Rattle.std.proofs.Common.{◌≡◌, take, None}
use Rattle.oathd_floors.specs.Kinds.{first_other}
use Rattle.oathd_floors.proofs.kinds.first_other.Given as goal

-- the rows so far are of their kinds
abbrev pub invariant-loop-token : goal.invariant-loop-token
invariant-loop-token g l =
    let held = g.S.FloorStore.held l.store in
    held.is_clean → first_other (take l.token l.book) (take l.token held.content.rows) ≡ None
