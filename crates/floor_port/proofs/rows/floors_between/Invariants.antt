use Rattle.std.proofs.Common.{◌≡◌, ◌-◌, ◌≤◌}
use Rattle.arrayvec.specs.ArrayVec.{array_vec_len}
use Rattle.floor_port.proofs.RowLemmas.{told_upto}
use Rattle.floor_port.proofs.rows.floors_between.Given as goal

-- the floors so far
abbrev pub invariant-loop-row : goal.invariant-loop-row
invariant-loop-row l = record {
  from : l.first ≤ l.row;
  within : l.row ≤ l.last;
  len : array_vec_len l.floors ≤ l.row - l.first;
  items : l.floors.items ≡ told_upto l.names l.told l.fresh l.first l.row;
}
