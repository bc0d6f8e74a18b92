use Rattle.std.proofs.Common.{◌≡◌, ◌≤◌}
use Rattle.arrayvec.specs.ArrayVec.{array_vec_len}
use Rattle.floor_port.specs.Floors.{floors_from}
use Rattle.floor_port.proofs.FloorLemmas.{read_on}
use Rattle.floor_port.proofs.body.floors_from.Given as goal

-- the floors so far and those that are left are all
abbrev pub invariant-loop-place : goal.invariant-loop-place
invariant-loop-place l = record {
  within : l.place ≤ l.count;
  len : array_vec_len l.floors ≡ l.place;
  reads : read_on l.count l.bytes l.place l.floors.items ≡ floors_from l.count l.bytes;
}
