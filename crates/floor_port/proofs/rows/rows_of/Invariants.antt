use Rattle.std.proofs.Common.{◌≡◌, ◌≤◌, take, length}
use Rattle.arrayvec.specs.ArrayVec.{array_vec_len}
use Rattle.floor_port.specs.Rows.{rows_of}
use Rattle.floor_port.proofs.rows.rows_of.Given as goal

-- the rows so far
abbrev pub invariant-loop-place : goal.invariant-loop-place
invariant-loop-place l = record {
  within : l.place ≤ length l.floors;
  most : array_vec_len l.rows ≤ l.place;
  items : l.rows.items ≡ rows_of l.names (take l.place l.floors);
}
