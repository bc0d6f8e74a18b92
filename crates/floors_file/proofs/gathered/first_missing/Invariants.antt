use Rattle.std.proofs.Common.{map}
use Rattle.floors_file.specs.Floors.{floors_value}
use Rattle.floors_file.proofs.GatheredLemmas.{NoneMissing}
use Rattle.floors_file.proofs.gathered.first_missing.Given as goal

-- none of the first nodes is missing
abbrev pub invariant-loop-number : goal.invariant-loop-number
invariant-loop-number l = NoneMissing l.fn.lost (map floors_value l.fn.files) l.fn.members l.number
