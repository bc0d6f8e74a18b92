use Rattle.std.proofs.Common.{◌≡◌, ◌++◌, drop, map, take}
use Rattle.count_port.specs.Members.{rested}
use Rattle.count_port.proofs.members.rest.Given as goal

-- those before are changed, the rest is as it was
abbrev pub invariant-loop-member : goal.invariant-loop-member
invariant-loop-member l =
    l.members ≡ map (rested) (take l.member-index l.initial.members) ++ drop l.member-index l.initial.members
