-- Worked cases: datagrams of peers.
use Rattle.std.specs.Prelude.{ℕ, List, [], ◌∷◌, ◌++◌, replicate, Option, slice_set}
use Rattle.floor_store.specs.Records.{span_of}
use Rattle.vote_core.specs.declared.message.Message.{Message}
use Rattle.vote_core.specs.declared.message.Message.TheVariants.{Ask, Grant, Deny, Floor}
use Rattle.vote_wire.specs.Body.{body_at, body_bytes}

-- node 1 asks for factor 1 of token 0, by its first proposal of boot 2
abbrev pub ask : Message
ask = Ask (record { node = 1; boot = 2; seq = 0 }) 0 (span_of 1 1)

-- a grant to node 1: the factors 1 and 2 of token 0, for its second proposal of boot 2
abbrev pub grant : Message
grant = Grant (record { node = 1; boot = 2; seq = 1 }) 0 (span_of 1 2)

-- a denial to node 2: its first proposal of boot 1 for token 0, whose floor (the first free factor) is 1
abbrev pub deny : Message
deny = Deny (record { node = 2; boot = 1; seq = 0 }) 0 1

-- token 0 has the floor 4
abbrev pub floor : Message
floor = Floor 0 4

-- a small number as eight bytes
abbrev pub eight_bytes : ℕ → List ℕ
eight_bytes number = replicate 7 0 ++ number ∷ []

-- the ask from node 1 to node 2
abbrev pub ask_body : List ℕ
ask_body =
    0x4f ∷ 0x56 ∷ 2 ∷ 1 ∷ 1 ∷ 2 ∷ 0 ∷ 0 ∷ 0 ∷ 0 ∷ 1 ∷ eight_bytes 2 ++ eight_bytes 0 ++ eight_bytes 1 ++ eight_bytes 1

-- the grant from node 2 to node 1
abbrev pub grant_body : List ℕ
grant_body =
    0x4f ∷ 0x56 ∷ 2 ∷ 2 ∷ 2 ∷ 1 ∷ 0 ∷ 0 ∷ 0 ∷ 0 ∷ 1 ∷ eight_bytes 2 ++ eight_bytes 1 ++ eight_bytes 1 ++ eight_bytes 2

-- the denial from node 3 to node 2
abbrev pub deny_body : List ℕ
deny_body =
    0x4f ∷ 0x56 ∷ 2 ∷ 3 ∷ 3 ∷ 2 ∷ 0 ∷ 0 ∷ 0 ∷ 0 ∷ 2 ∷ eight_bytes 1 ++ eight_bytes 0 ++ eight_bytes 1

-- the floor from node 1 to node 3
abbrev pub floor_body : List ℕ
floor_body = 0x4f ∷ 0x56 ∷ 2 ∷ 4 ∷ 1 ∷ 3 ∷ 0 ∷ 0 ∷ 0 ∷ 0 ∷ eight_bytes 4

-- the tag of `ask_body` under a key of 32 zeros
abbrev pub ask_tag : List ℕ
ask_tag =
    0xc2 ∷ 0x16 ∷ 0x72 ∷ 0x14 ∷ 0xab ∷ 0x2f ∷ 0x54 ∷ 0x75 ∷ 0x82 ∷ 0xf0 ∷ 0x53 ∷ 0xde ∷ 0xc2 ∷ 0x7d ∷ 0xf8 ∷ 0x9a ∷ []

-- the first 16 bytes of the SHA-256 MAC of RFC 4231, test case 1
abbrev pub tag_of_the_standard : List ℕ
tag_of_the_standard =
    0xb0 ∷ 0x34 ∷ 0x4c ∷ 0x61 ∷ 0xd8 ∷ 0xdb ∷ 0x38 ∷ 0x53 ∷ 0x5c ∷ 0xa8 ∷ 0xaf ∷ 0xce ∷ 0xaf ∷ 0x0b ∷ 0xf1 ∷ 0x2b ∷ []

-- the reading of the ask's body with another byte at a place
abbrev pub ask_with : ℕ → ℕ → Option (ℕ × ℕ × Message)
ask_with place byte = body_at (slice_set ask_body place byte)

-- the reading of a message's bytes
abbrev pub read_again : ℕ → ℕ → Message → Option (ℕ × ℕ × Message)
read_again from to message = body_at (body_bytes from to message)

-- an Ask of node 1 with the given numbers
abbrev pub ask_of : ℕ → ℕ → ℕ → ℕ → ℕ → Message
ask_of boot seq token lo hi = Ask (record { node = 1; boot = boot; seq = seq }) token (span_of lo hi)
