-- Two nodes with their books, and their datagrams. The tags are by Python's hmac.
use Rattle.std.specs.Prelude.{ℕ, true, false, List, [], ◌∷◌, ◌++◌, replicate, slice_set, drop, Option, Some, None}
use Rattle.datagram_port.specs.Port.{PortEvent, Received}
use Rattle.datagram_port.specs.Setup.{Setup}
use Rattle.datagram_port.specs.declared.port.Sender.TheVariants.{Peer}
use Rattle.named_wire.specs.declared.head.Head.{Head}
use Rattle.named_wire.specs.declared.head.Kind.{Kind}
use Rattle.named_wire.specs.declared.head.Kind.TheVariants.{Floor}
use Rattle.vote_wire.specs.Examples.{ask_body, eight_bytes}
use Rattle.named_port.specs.Translator.{TranslatorRecord, new_translator}
use Rattle.gatekeeping.specs.Members.{nobody_heard}
use Rattle.gatekeeping.specs.declared.gatekeeper.Older.{Older}

-- a key of 32 zeros
abbrev pub zeros : List ℕ
zeros = replicate 32 0

-- the name of a token: sixteen times the byte
abbrev pub name_with : ℕ → List ℕ
name_with byte = replicate 16 byte

-- the names of node 1's book
abbrev pub names_of_1 : List (List ℕ)
names_of_1 = name_with 0xaa ∷ name_with 0xcc ∷ []

-- the names of node 2's book, of which one is node 1's
abbrev pub names_of_2 : List (List ℕ)
names_of_2 = name_with 0xbb ∷ name_with 0xaa ∷ []

-- node 1 in its boot 2, which has heard nobody
abbrev pub node_1 : TranslatorRecord
node_1 = new_translator zeros names_of_1 1 2 nobody_heard

-- node 2 in its boot 5, which has heard nobody
abbrev pub node_2 : TranslatorRecord
node_2 = new_translator zeros names_of_2 2 5 nobody_heard

-- node 2 after it heard node 1 in a boot, and node 3 in another one
abbrev pub node_2_after : ℕ → ℕ → TranslatorRecord
node_2_after one three = record node_2 { heard = 0 ∷ one ∷ 0 ∷ three ∷ replicate 6 0 }

-- node 2 at its start, which knows a boot of node 3
abbrev pub node_2_knowing : ℕ → TranslatorRecord
node_2_knowing three = new_translator zeros names_of_2 2 5 (slice_set nobody_heard 3 three)

-- the fields of a vote for the second proposal of boot 2 of a node, with a first and a last factor
abbrev pub vote_of : ℕ → List ℕ → List ℕ → List ℕ
vote_of node first last = node ∷ eight_bytes 2 ++ eight_bytes 1 ++ first ++ last

-- the packed fields of such a vote, with the low byte of the last factor
abbrev pub packed_vote_of : List ℕ → ℕ → List ℕ
packed_vote_of first low = eight_bytes 2 ++ eight_bytes 1 ++ first ++ low ∷ []

-- the tag under the bare key
abbrev pub no_tag : List ℕ
no_tag = replicate 16 0

-- the Ask of node 1 for node 2 about the first token of its book
abbrev pub numbered_ask : List ℕ
numbered_ask = ask_body ++ no_tag

-- its fields by name: the boot and the number of its proposal, its first factor, and the low byte of the last one
abbrev pub packed_ask : List ℕ
packed_ask = eight_bytes 2 ++ eight_bytes 0 ++ eight_bytes 1 ++ 1 ∷ []

-- the bytes before the tag of the same with the name, from node 1 in boot 2
abbrev pub named_ask_front : List ℕ
named_ask_front =
    0x4f ∷ 0x56 ∷ 3 ∷ 1 ∷ 1 ∷ 2 ∷ eight_bytes 2 ++ name_with 0xaa ++ packed_ask

-- the tag of the named Ask
abbrev pub named_ask_tag : List ℕ
named_ask_tag =
    0xad ∷ 0x8c ∷ 0xb5 ∷ 0xa7 ∷ 0x14 ∷ 0x2b ∷ 0x9c ∷ 0xe1 ∷ 0x89 ∷ 0xa3 ∷ 0xe1 ∷ 0xbf ∷ 0xa3 ∷ 0x80 ∷ 0x08 ∷ 0x74 ∷ []

-- the same Ask with the name
abbrev pub named_ask : List ℕ
named_ask = named_ask_front ++ named_ask_tag

-- the same for node 2, which has the token at the second row of its book
abbrev pub renumbered_ask : List ℕ
renumbered_ask =
    0x4f ∷ 0x56 ∷ 2 ∷ 1 ∷ 1 ∷ 2 ∷ 0 ∷ 0 ∷ 0 ∷ 1 ∷ drop 10 ask_body ++ no_tag

-- the head of a datagram of a kind from a member in a boot to node 2
abbrev pub floor_head : Kind → ℕ → ℕ → Head
floor_head kind member boot = record { kind = kind; from = member; to = 2; boot = boot }

-- the body of a Floor of node 2's first token
abbrev pub floor_body : List ℕ
floor_body = name_with 0xbb ++ eight_bytes 4

-- what is read of a Floor from a member in a boot to node 2
abbrev pub floor_from : ℕ → ℕ → Option (Head × List ℕ)
floor_from member boot = Some (floor_head Floor member boot, floor_body)

-- the tag of the Floor of boot 7
abbrev pub floor_7_tag : List ℕ
floor_7_tag =
    0x8b ∷ 0x0c ∷ 0xeb ∷ 0xaa ∷ 0x09 ∷ 0xe8 ∷ 0x93 ∷ 0x05 ∷ 0x1e ∷ 0x98 ∷ 0x7f ∷ 0xfc ∷ 0x4f ∷ 0xb3 ∷ 0x85 ∷ 0x9b ∷ []

-- the Floor of member 3 in boot 7
abbrev pub floor_7 : List ℕ
floor_7 = 0x4f ∷ 0x56 ∷ 3 ∷ 4 ∷ 3 ∷ 2 ∷ eight_bytes 7 ++ floor_body
    ++ floor_7_tag

-- the tag of the Floor of boot 6
abbrev pub floor_6_tag : List ℕ
floor_6_tag =
    0xbb ∷ 0x3c ∷ 0xae ∷ 0xfd ∷ 0xa4 ∷ 0x53 ∷ 0x01 ∷ 0xd8 ∷ 0xa3 ∷ 0xb6 ∷ 0xc0 ∷ 0x74 ∷ 0xf2 ∷ 0x54 ∷ 0xf6 ∷ 0x64 ∷ []

-- the Floor of member 3 in boot 6
abbrev pub floor_6 : List ℕ
floor_6 = 0x4f ∷ 0x56 ∷ 3 ∷ 4 ∷ 3 ∷ 2 ∷ eight_bytes 6 ++ floor_body
    ++ floor_6_tag

-- a datagram comes from member 3
abbrev pub from_3 : List ℕ → PortEvent
from_3 bytes = Received (Peer 3) bytes

-- the last dropped datagram
abbrev pub older : ℕ → ℕ → Option Older
older member boot = Some (record { member = member; boot = boot })

-- the setup of a port without members, a gate and names
abbrev pub bare_setup : Setup
bare_setup = record {
  members = [];
  skips_answers = true;
  takes_loopback_alone = false;
  gate = None;
  namings = [];
}

-- two short names
abbrev pub short_names : List (List ℕ)
short_names = (1 ∷ []) ∷ (2 ∷ []) ∷ []
