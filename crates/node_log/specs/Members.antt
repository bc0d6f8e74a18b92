-- Heard and silent members: a datagram from a member's address makes it heard, and quiet turns without one make it
-- silent.
use Rattle.std.specs.Prelude.{ℕ, ◌+◌, ◌==◌, nat_lt, true, false, if◌then◌else◌, List, [], ◌++◌, codes}
use Rattle.std.specs.Fmt.{decimal}
use Rattle.std.specs.List.{flat_map}
use Rattle.node_log.specs.declared.members.Member.{Member}

-- a member after a datagram from the address of member `number`
abbrev pub after_datagram : ℕ → Member → Member
after_datagram number member =
    if member.number == number then record { number = member.number; is_heard = true; quiets = 0 } else member

-- a member after a quiet turn: the 25th consecutive one, after five seconds, makes it silent
abbrev pub after_quiet : Member → Member
after_quiet member =
    if nat_lt member.quiets 24
    then record { number = member.number; is_heard = member.is_heard; quiets = member.quiets + 1 }
    else record { number = member.number; is_heard = false; quiets = 25 }

-- the line of a member, after the word for its new state
unfoldable pub member_line : List ℕ → ℕ → List ℕ
member_line word number = word ++ codes " member=" ++ decimal number ++ codes "\n"

-- the text about a member after a datagram from the address of member `number`: heard, if it was not heard already
abbrev pub heard_text : ℕ → Member → List ℕ
heard_text number member =
    if member.number == number
    then (if member.is_heard then [] else member_line (codes "heard") member.number)
    else []

-- the text about a member after a quiet turn: silent, at the 25th consecutive one
abbrev pub silent_text : Member → List ℕ
silent_text member = if member.quiets == 24 then member_line (codes "silent") member.number else []

-- the texts about all members
abbrev pub heard_texts : ℕ → List Member → List ℕ
heard_texts number members = flat_map (heard_text number) members

abbrev pub silent_texts : List Member → List ℕ
silent_texts members = flat_map silent_text members
