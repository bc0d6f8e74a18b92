use Rattle.std.proofs.Common.{◌≡◌, ◌≤◌, ◌*◌, drop, length}
use Rattle.floor_port.specs.Claims.{first_fall, kept_after}
use Rattle.floor_port.proofs.claims.keep_all.Given as goal

-- no floor so far is a fall, and the floors that are left decide
abbrev pub invariant-loop-place : goal.invariant-loop-place
invariant-loop-place l = record {
  within : l.place ≤ length l.floors;
  each : length l.kept ≡ 9 * length l._names;
  fall : first_fall l._names l.member l.boot l.kept (drop l.place l.floors) ≡ first_fall l._names l.member l.boot l.initial.kept l.floors;
  kept : kept_after l._names l.member l.boot l.kept (drop l.place l.floors) ≡ kept_after l._names l.member l.boot l.initial.kept l.floors;
}
