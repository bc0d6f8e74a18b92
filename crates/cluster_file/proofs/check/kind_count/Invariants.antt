use Rattle.std.proofs.Common.{◌≡◌, ◌≤◌, take}
use Rattle.cluster_file.specs.Check.{kind_count}
use Rattle.cluster_file.proofs.check.kind_count.Given as goal

-- the tokens so far are counted
abbrev pub invariant-loop-number : goal.invariant-loop-number
invariant-loop-number l = (l.count ≡ kind_count l.kind (take l.number l.book)) × (l.count ≤ l.number)
