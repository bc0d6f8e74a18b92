use Rattle.std.proofs.Common.{◌≡◌, ◌-◌, ◌≤◌, length, drop, is_some}
use Rattle.bundle_port.specs.Bundle.{parts_from}
use Rattle.bundle_port.proofs.bundle.is_bundle.Given as goal

-- what is left are parts exactly if all is parts
abbrev pub invariant-loop-place : goal.invariant-loop-place
invariant-loop-place l = record {
  within : l.place ≤ length l.bytes;
  same : is_some (parts_from (drop l.place l.bytes) 0) ≡ is_some (parts_from (drop 3 l.bytes) 0);
}

abbrev pub decreases-loop-place : goal.decreases-loop-place
decreases-loop-place l = length l.bytes - l.place
