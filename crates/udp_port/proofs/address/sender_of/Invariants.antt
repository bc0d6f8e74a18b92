use Rattle.std.proofs.Common.{◌≡◌, ◌+◌, drop}
use Rattle.udp_port.specs.Address.{sender_from, sender_of}
use Rattle.udp_port.proofs.address.sender_of.Given as goal

-- none of the members so far has the address
abbrev pub invariant-loop-member : goal.invariant-loop-member
invariant-loop-member l =
    (l.number ≡ l.member-index)
    × (sender_from (l.member-index + 1) (drop l.member-index l.fn.members) l.client ≡ sender_of l.fn.members l.fn.address)
