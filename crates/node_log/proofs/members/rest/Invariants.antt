use Rattle.std.proofs.Common.{◌≡◌, ◌++◌, drop, map, take}
use Rattle.node_log.specs.Members.{after_quiet}
use Rattle.node_log.proofs.members.rest.Given as goal

-- those before are changed, the rest is as it was
abbrev pub invariant-loop-member : goal.invariant-loop-member
invariant-loop-member l =
    l.members ≡ map (after_quiet) (take l.member-index l.initial.members) ++ drop l.member-index l.initial.members
