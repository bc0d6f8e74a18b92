use Rattle.std.proofs.Common.{◌≡◌, ◌++◌, drop, map, take}
use Rattle.node_log.specs.Members.{after_datagram}
use Rattle.node_log.proofs.members.hear.Given as goal

-- those before are changed, the rest is as it was
abbrev pub invariant-loop-member : goal.invariant-loop-member
invariant-loop-member l =
    l.members ≡ map (after_datagram l.number) (take l.member-index l.initial.members) ++ drop l.member-index l.initial.members
