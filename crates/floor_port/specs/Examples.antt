-- A node with a book of three tokens, and what a member tells it. The tags are by Python's hmac.
use Rattle.std.specs.Prelude.{ℕ, Bool, true, false, List, [], ◌∷◌, ◌++◌, replicate, None}
use Rattle.datagram_port.specs.Port.{PortEvent, Received}
use Rattle.datagram_port.specs.Setup.{Setup}
use Rattle.datagram_port.specs.declared.port.Sender.TheVariants.{Peer}
use Rattle.named_wire.specs.declared.head.Head.{Head}
use Rattle.named_wire.specs.declared.head.Kind.{Kind}
use Rattle.named_wire.specs.declared.head.Kind.TheVariants.{Floor}
use Rattle.vote_wire.specs.Examples.{eight_bytes}
use Rattle.gatekeeping.specs.Members.{nobody}
use Rattle.gatekeeping.specs.declared.gatekeeper.Fell.{Fell}
use Rattle.floor_port.specs.Claims.{ClaimsRecord, no_claim}
use Rattle.floor_port.specs.Pace.{PaceRecord}
use Rattle.floor_port.specs.Packer.{PackerRecord, PendingRecord, StartRecord, new_packer}
use Rattle.floor_port.specs.Rows.{RowsRecord}
use Rattle.floor_port.specs.declared.claims.Claim.{Claim}
use Rattle.floor_port.specs.declared.floor.NamedFloor.{NamedFloor}

-- a key of 32 zeros
abbrev pub zeros : List ℕ
zeros = replicate 32 0

-- the name of a token: sixteen times the byte
abbrev pub name_with : ℕ → List ℕ
name_with byte = replicate 16 byte

-- a floor of the token with this name
abbrev pub floor_of : ℕ → ℕ → NamedFloor
floor_of byte next = record { name = name_with byte; next = next }

-- the names of the book
abbrev pub book : List (List ℕ)
book = name_with 0xaa ∷ name_with 0xbb ∷ name_with 0xcc ∷ []

-- a start with floors, at which no member is known to have gone back, and no boot of a member is known
abbrev pub start_with : List ℕ → StartRecord
start_with floors = record { gone_back = nobody; known = replicate 10 0; floors = floors }

-- node 2 of three in its boot 5, whose store has the floor 5 of each token
abbrev pub node_2 : PackerRecord
node_2 = new_packer zeros book 2 5 3 (start_with (replicate 3 5))

-- member 1 is known to have gone back
abbrev pub gone_1 : List Bool
gone_1 = false ∷ true ∷ replicate 8 false

-- node 2, which knows from its start that member 1 went back
abbrev pub node_2_knowing : PackerRecord
node_2_knowing = new_packer zeros book 2 5 3 (record (start_with (replicate 3 5)) { gone_back = gone_1 })

-- a row of the book, with floors of its tokens that the node bears witness to and that it knows
abbrev pub rows_with : List ℕ → List ℕ → ℕ → RowsRecord
rows_with told known turn = record { names = book; told = told; known = known; turn = turn; fresh = [] }

-- the rows of the book with the floors 5, 6 and 7, of which some are fresh
abbrev pub fresh_rows : List ℕ → RowsRecord
fresh_rows fresh = record (rows_with (5 ∷ 6 ∷ 7 ∷ []) (8 ∷ 8 ∷ 8 ∷ []) 0) { fresh = fresh }

-- node 2 with rows
abbrev pub node_2_over : RowsRecord → PackerRecord
node_2_over rows = record node_2 { rows = rows }

-- a boot and a floor that a member told last
abbrev pub claim : ℕ → ℕ → Claim
claim boot next = record { boot = boot; next = next }

-- the claims of member 1 about the three rows, whose greatest boot is the given one
abbrev pub claims_of_1 : ℕ → Claim → Claim → Claim → ClaimsRecord
claims_of_1 boot first second third = record {
  boots = 0 ∷ boot ∷ replicate 8 0;
  fallen = nobody;
  kept = first ∷ replicate 8 no_claim ++ second ∷ replicate 8 no_claim ++ third ∷ replicate 8 no_claim;
}

-- member 1 told two floors in its boot 4
abbrev pub told_in_4 : ClaimsRecord
told_in_4 = claims_of_1 4 (claim 4 6) no_claim (claim 4 9)

-- claims of member 1, after a floor of it fell
abbrev pub fallen_1 : ℕ → Claim → Claim → Claim → ClaimsRecord
fallen_1 boot first second third =
    record (claims_of_1 boot first second third) { fallen = false ∷ true ∷ replicate 8 false }

-- the floor of a token with this name fell at member 1
abbrev pub fell_1 : ℕ → Fell
fell_1 byte = record { member = 1; name = name_with byte }

-- node 2 with claims
abbrev pub node_2_told : ClaimsRecord → PackerRecord
node_2_told claims = record node_2 { claims = claims }

-- node 2, after a floor of member 1 fell
abbrev pub fallen_node : PackerRecord
fallen_node = node_2_told (fallen_1 4 (claim 3 7) no_claim no_claim)

-- the greatest boots of the members, of whom only member 1 was heard
abbrev pub heard_1 : ℕ → List ℕ
heard_1 boot = 0 ∷ boot ∷ replicate 8 0

-- a node that heard member 1 in a boot
abbrev pub hears_1 : ℕ → PackerRecord → PackerRecord
hears_1 boot node = record node { heard = heard_1 boot }

-- a pace with a number of quiet turns until member 1 is silent, and of a fast round
abbrev pub pace_with : ℕ → ℕ → PaceRecord
pace_with until fast = record { until_silent = 0 ∷ until ∷ replicate 8 0; fast = fast }

-- the head of a datagram of a kind from node 1 in its boot 4 to node 2
abbrev pub head_with : Kind → Head
head_with kind = record { kind = kind; from = 1; to = 2; boot = 4 }

-- floors that are left of a datagram of node 1
abbrev pub left_of_1 : List NamedFloor → PendingRecord
left_of_1 floors = record { head = head_with Floor; floors = floors }

-- node 2 with a floor that is left
abbrev pub node_2_with : NamedFloor → PackerRecord
node_2_with floor = record node_2 { pending = left_of_1 (floor ∷ []) }

-- a body of two floors
abbrev pub body_of_two : List ℕ
body_of_two = 2 ∷ name_with 0xaa ++ eight_bytes 6 ++ name_with 0xcc ++ eight_bytes 9

-- the head of a datagram of node 1 for node 2, of a kind, as bytes
abbrev pub head_bytes_of : ℕ → List ℕ
head_bytes_of kind = 0x4f ∷ 0x56 ∷ 3 ∷ kind ∷ 1 ∷ 2 ∷ eight_bytes 4

-- the tag of the datagram of two floors
abbrev pub two_tag : List ℕ
two_tag =
    0x55 ∷ 0x8e ∷ 0xa3 ∷ 0xe9 ∷ 0x51 ∷ 0x57 ∷ 0xde ∷ 0x7b ∷ 0x53 ∷ 0x4e ∷ 0x09 ∷ 0xe8 ∷ 0xbd ∷ 0xeb ∷ 0xec ∷ 0x1d ∷ []

-- the datagram of two floors
abbrev pub two_floors : List ℕ
two_floors = head_bytes_of 5 ++ body_of_two ++ two_tag

-- the tag of the datagram of the first of them
abbrev pub one_tag : List ℕ
one_tag =
    0x8f ∷ 0xb4 ∷ 0x9e ∷ 0x0b ∷ 0x03 ∷ 0x30 ∷ 0xa5 ∷ 0x4e ∷ 0x2b ∷ 0x76 ∷ 0x3a ∷ 0x00 ∷ 0xf2 ∷ 0x78 ∷ 0xde ∷ 0xa8 ∷ []

-- the datagram of the first of them
abbrev pub one_floor : List ℕ
one_floor = head_bytes_of 4 ++ name_with 0xaa ++ eight_bytes 6 ++ one_tag

-- the tag of a datagram of a lower floor of the first token, of boot 5
abbrev pub lower_tag : List ℕ
lower_tag =
    0x57 ∷ 0xd2 ∷ 0x22 ∷ 0x21 ∷ 0xc6 ∷ 0x89 ∷ 0x81 ∷ 0x26 ∷ 0xf6 ∷ 0xf4 ∷ 0x9b ∷ 0xb3 ∷ 0x5d ∷ 0xcc ∷ 0x58 ∷ 0xbe ∷ []

-- the datagram of this floor
abbrev pub lower_floor : List ℕ
lower_floor =
    0x4f ∷ 0x56 ∷ 3 ∷ 4 ∷ 1 ∷ 2 ∷ eight_bytes 5 ++ name_with 0xaa ++ eight_bytes 5 ++ lower_tag

-- the tag of a datagram of the same floor, of boot 4
abbrev pub equal_tag : List ℕ
equal_tag =
    0xf3 ∷ 0x6e ∷ 0x20 ∷ 0x53 ∷ 0xd3 ∷ 0x15 ∷ 0x57 ∷ 0x51 ∷ 0x7a ∷ 0xe0 ∷ 0x3a ∷ 0x38 ∷ 0x80 ∷ 0x6c ∷ 0xf4 ∷ 0x55 ∷ []

-- the datagram of this floor
abbrev pub equal_floor : List ℕ
equal_floor = head_bytes_of 4 ++ name_with 0xaa ++ eight_bytes 5 ++ equal_tag

-- a Deny with the floor 9 of the first token
abbrev pub deny_of_9 : List ℕ
deny_of_9 = head_bytes_of 3 ++ name_with 0xaa ++ replicate 17 0 ++ eight_bytes 9 ++ replicate 16 0

-- the tag of a Deny of boot 5
abbrev pub later_tag : List ℕ
later_tag =
    0x76 ∷ 0xb7 ∷ 0x61 ∷ 0x53 ∷ 0xbc ∷ 0x42 ∷ 0x54 ∷ 0xb6 ∷ 0x16 ∷ 0x03 ∷ 0x1a ∷ 0x5c ∷ 0xc9 ∷ 0xc9 ∷ 0xd7 ∷ 0x87 ∷ []

-- the Deny, with the floor 9 of the first token
abbrev pub later_deny : List ℕ
later_deny =
    0x4f ∷ 0x56 ∷ 3 ∷ 3 ∷ 1 ∷ 2 ∷ eight_bytes 5 ++ name_with 0xaa ++ replicate 17 0 ++ eight_bytes 9 ++ later_tag

-- an Ask of the first token, with the first factor of its span and the low byte of the last one
abbrev pub ask_of : List ℕ → ℕ → List ℕ
ask_of first low = head_bytes_of 1 ++ name_with 0xaa ++ replicate 16 0 ++ first ++ low ∷ replicate 16 0

-- a datagram comes from member 1
abbrev pub from_1 : List ℕ → PortEvent
from_1 bytes = Received (Peer 1) bytes

-- the setup of a port without members, a gate and names
abbrev pub bare_setup : Setup
bare_setup =
    record { members = []; skips_answers = true; takes_loopback_alone = false; gate = None; namings = [] }
