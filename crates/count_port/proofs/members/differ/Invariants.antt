use Rattle.std.proofs.Common.{◌≡◌, ◌++◌, drop, map, take}
use Rattle.count_port.specs.Members.{differing}
use Rattle.count_port.proofs.members.differ.Given as goal

-- those before are changed, the rest is as it was
abbrev pub invariant-loop-member : goal.invariant-loop-member
invariant-loop-member l =
    l.members ≡ map (differing l.number) (take l.member-index l.initial.members) ++ drop l.member-index l.initial.members
