use Rattle.std.proofs.Common.{◌≡◌, map, take}
use Rattle.count_port.specs.Members.{seen_of}
use Rattle.count_port.proofs.members.seen_of.Given as goal

-- the members so far are seen
abbrev pub invariant-loop-member : goal.invariant-loop-member
invariant-loop-member l = l.others.items ≡ map seen_of (take l.member-index l.members)
