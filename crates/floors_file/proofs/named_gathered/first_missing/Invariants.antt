use Rattle.std.proofs.Common.{map}
use Rattle.floors_file.specs.Named.{named_value}
use Rattle.floors_file.proofs.NamedGatheredLemmas.{NoneLacks}
use Rattle.floors_file.proofs.named_gathered.first_missing.Given as goal

-- none of the first nodes is missing
abbrev pub invariant-loop-number : goal.invariant-loop-number
invariant-loop-number l = NoneLacks l.fn.lost (map named_value l.fn.files) l.fn.members l.number
