-- When each other member was heard last, by the entries of a port's record.
use Rattle.std.specs.Prelude.{ℕ, ◌/◌, ◌==◌, nat_lt, true, false, if◌then◌else◌, List, [], ◌∷◌, map, Option, Some, None}
use Rattle.std.specs.Option.{option_map}
use Rattle.datagram_port.specs.Port.{PortEvent, Received, Quiet, Faulted, Offered}
use Rattle.datagram_port.specs.declared.port.Sender.TheVariants.{Client, Peer}
use Rattle.gatekeeping.specs.Read.{is_read}
use Rattle.gatekeeping.specs.declared.others.Other.{Other}
use Rattle.gatekeeping.specs.declared.others.Seen.{Seen}
use Rattle.gatekeeping.specs.declared.others.Seen.TheVariants.{Heard, Silent, Differs}
use Rattle.sealed_port.specs.Causes.{one_more}
use Rattle.count_port.specs.declared.members.Member.{Member}

-- a member that was not heard yet
abbrev pub new_member : ℕ → Member
new_member number = record { number = number; quiets = None; differs = false }

-- a member after a datagram of member `number` that the node can read
abbrev pub heard : ℕ → Member → Member
heard number member =
    if member.number == number then record { number = member.number; quiets = Some 0; differs = false } else member

-- a member after a datagram of member `number` that the node can't read
abbrev pub differing : ℕ → Member → Member
differing number member =
    if member.number == number
    then record { number = member.number; quiets = member.quiets; differs = true }
    else member

-- a member after a quiet turn
abbrev pub rested : Member → Member
rested member =
    record { number = member.number; quiets = option_map one_more member.quiets; differs = member.differs }

-- the members after a datagram of one of them; one without bytes is none that anybody sent
abbrev pub with_datagram : List ℕ → ℕ → List ℕ → List Member → List Member
with_datagram key number [] members = members
with_datagram key number (byte ∷ bytes) members =
    if is_read key number (byte ∷ bytes) then map (heard number) members else map (differing number) members

-- the members after an entry of the port's record
abbrev pub members_after : List ℕ → PortEvent → List Member → List Member
members_after key (Received (Client client) bytes) members = members
members_after key (Received (Peer number) bytes) members = with_datagram key number bytes members
members_after key Quiet members = map rested members
members_after key Faulted members = members
members_after key (Offered to bytes) members = members

-- a member that is heard: fewer than 25 quiet turns are past since, five of which take a second
abbrev pub seen_after : Option ℕ → Seen
seen_after None = Silent
seen_after (Some quiets) = if nat_lt quiets 25 then Heard (quiets / 5) else Silent

-- what is seen of a member
abbrev pub seen_of : Member → Other
seen_of member =
    record { number = member.number; seen = if member.differs then Differs else seen_after member.quiets }
