use Rattle.std.proofs.Common.{◌≡◌, ◌++◌, drop}
use Rattle.named_floors.specs.Told.{told_from, told_heard}
use Rattle.named_floors.proofs.told.heard_of.Given as goal

-- with the boots that are left, the boots so far are all
abbrev pub invariant-loop-member : goal.invariant-loop-member
invariant-loop-member l =
    l.all.items ++ told_from l.node l.members l.member (drop l.member l.heard) ≡ told_heard l.node l.members l.heard
