use Rattle.std.proofs.Common.{◌≡◌, ◌≤◌, ◌++◌, drop, length}
use Rattle.arrayvec.specs.ArrayVec.{array_vec_len}
use Rattle.floor_port.specs.Rows.{after_floors, news}
use Rattle.floor_port.proofs.rows.raise_all.Given as goal

-- the news so far and those among the floors that are left are all
abbrev pub invariant-loop-place : goal.invariant-loop-place
invariant-loop-place l = record {
  within : l.place ≤ length l.floors;
  most : array_vec_len l.news ≤ l.place;
  each : length l.known ≡ length l._names;
  told : l.news.items ++ news l._names l.known (drop l.place l.floors) ≡ news l._names l.initial.known l.floors;
  raised : after_floors l._names l.known (drop l.place l.floors) ≡ after_floors l._names l.initial.known l.floors;
}
