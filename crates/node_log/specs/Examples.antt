-- Worked cases: lines, members, minutes and seconds.
use Rattle.std.specs.Prelude.{ℕ, Bool, true, List, [], ◌∷◌, replicate, slice_set, codes}
use Rattle.vote_core.specs.declared.message.Message.TheVariants.{Floor}
use Rattle.vote_wire.specs.Datagram.{datagram_bytes}
use Rattle.vote_wire.specs.Key.{bare}
use Rattle.node_log.specs.Asked.{AskedLine}
use Rattle.gatekeeping.specs.Members.{nobody}
use Rattle.node_log.specs.declared.bad_lines.BadLines.{BadLines}
use Rattle.gatekeeping.specs.declared.gatekeeper.Fell.{Fell}
use Rattle.node_log.specs.declared.members.Member.{Member}
use Rattle.node_log.specs.declared.minute.Minute.{Minute}

-- a line of client 7 with the nonce k1 for the user ann
abbrev pub ann : AskedLine
ann = record { client = 7; nonce = codes "k1"; user = codes "ann" }

-- a line of client 7 with the nonce k2 for the user bob
abbrev pub bob : AskedLine
bob = record { client = 7; nonce = codes "k2"; user = codes "bob" }

-- the two in order
abbrev pub two_lines : List AskedLine
two_lines = ann ∷ bob ∷ []

-- a member by its number, whether it is heard, and its number of consecutive quiet turns
abbrev pub member : ℕ → Bool → ℕ → Member
member number heard quiets = record { number = number; is_heard = heard; quiets = quiets }

-- a datagram of member 2 to member 1, under the bare key
abbrev pub made_by_2 : List ℕ
made_by_2 = datagram_bytes bare 2 1 (Floor 0 5)

-- a minute by its number of quiet turns
abbrev pub minute : ℕ → Minute
minute quiets = record { quiets = quiets }

-- the floor of a token fell at member 3
abbrev pub fell_3 : Fell
fell_3 = record {
  member = 3;
  name = 0x01 ∷ 0x23 ∷ 0x45 ∷ 0x67 ∷ 0x89 ∷ 0xab ∷ 0xcd ∷ 0xef ∷ replicate 8 0x0a;
}

-- a second by its number of quiet turns, and of answers `NO - BADLINE`
abbrev pub second : ℕ → ℕ → BadLines
second quiets number = record { quiets = quiets; number = number }
