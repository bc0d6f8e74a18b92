use Rattle.std.proofs.Common.{◌≡◌, ◌≤◌, take, length}
use Rattle.floor_port.proofs.rows.numbers_of.Given as goal

-- the numbers so far
abbrev pub invariant-loop-place : goal.invariant-loop-place
invariant-loop-place l = record {
  within : l.place ≤ length l.floors;
  items : l.numbers.items ≡ take l.place l.floors;
}
