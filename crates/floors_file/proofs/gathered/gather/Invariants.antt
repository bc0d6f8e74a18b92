use Rattle.std.proofs.Common.{◌≡◌, map, take}
use Rattle.floors_file.specs.Floors.{floors_value}
use Rattle.floors_file.specs.Gathered.{gathered_floors}
use Rattle.floors_file.proofs.gathered.gather.Given as goal

-- the first tokens have their factors
abbrev pub invariant-loop-number : goal.invariant-loop-number
invariant-loop-number l = l.floors.items ≡ gathered_floors (map floors_value l.fn.files) (take l.number l.fn.book) (take l.number l.fn.own)
