use Rattle.std.proofs.Common.{◌≡◌, ◌≤◌, drop, length, map}
use Rattle.floors_file.specs.Floors.{floors_value}
use Rattle.floors_file.specs.Gathered.{greatest_of}
use Rattle.floors_file.proofs.gathered.greatest.Given as goal

-- the greatest of the last files is found
abbrev pub invariant-loop-place : goal.invariant-loop-place
invariant-loop-place l = record {
  within : l.place ≤ length l.files;
  found : l.found ≡ greatest_of l.user (map floors_value (drop l.place l.files));
}

-- proposed from the loop's first test
abbrev pub decreases-loop-place : goal.decreases-loop-place
decreases-loop-place l = l.place
