use Rattle.std.proofs.Common.{map}
use Rattle.floors_file.specs.Floors.{floor_value, floors_value}
use Rattle.floors_file.specs.Gathered.{lacks}
use Rattle.floors_file.proofs.GatheredLemmas.{NonePasses}
use Rattle.floors_file.proofs.gathered.first_lacking.Given as goal

-- the rows lack none of the first tokens
abbrev pub invariant-loop-number : goal.invariant-loop-number
invariant-loop-number l = NonePasses (lacks l.fn.is_same (map floors_value l.fn.files) (map floor_value l.fn.rows)) l.fn.book l.number
