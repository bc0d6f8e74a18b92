use Rattle.std.proofs.Common.{◌≡◌, ◌≤◌, ◌+◌, ◌*◌, ◌∷◌, take, length}
use Rattle.arrayvec.specs.ArrayVec.{array_vec_len}
use Rattle.floor_port.specs.Floors.{all_bytes}
use Rattle.floor_port.proofs.body.floors_body.Given as goal

-- the number of floors and the floors so far are written
abbrev pub invariant-loop-place : goal.invariant-loop-place
invariant-loop-place l = record {
  within : l.place ≤ length l.floors;
  len : array_vec_len l.body ≡ 1 + 24 * l.place;
  items : l.body.items ≡ length l.floors ∷ all_bytes (take l.place l.floors);
}
