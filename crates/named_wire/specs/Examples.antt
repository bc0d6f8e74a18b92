-- A worked datagram. Its tag is by Python's hmac.
use Rattle.std.specs.Prelude.{ℕ, List, [], ◌∷◌, ◌++◌, codes}
use Rattle.named_wire.specs.declared.head.Head.{Head}
use Rattle.named_wire.specs.declared.head.Kind.TheVariants.{Ask}

-- an Ask of node 1 in its boot 258, for node 2
abbrev pub ask_head : Head
ask_head = record { kind = Ask; from = 1; to = 2; boot = 258 }

-- the head as bytes
abbrev pub ask_head_bytes : List ℕ
ask_head_bytes =
    0x4f ∷ 0x56 ∷ 0x03 ∷ 0x01 ∷ 0x01 ∷ 0x02 ∷ 0x00 ∷ 0x00 ∷ 0x00 ∷ 0x00 ∷ 0x00 ∷ 0x00 ∷ 0x01 ∷ 0x02 ∷ []

-- the tag of the head and the body `ask` under a key of 32 zeros
abbrev pub ask_tag : List ℕ
ask_tag =
    0x17 ∷ 0x70 ∷ 0xc4 ∷ 0xd8 ∷ 0x8c ∷ 0x22 ∷ 0x4b ∷ 0x43 ∷ 0x67 ∷ 0x77 ∷ 0x89 ∷ 0x37 ∷ 0x00 ∷ 0x31 ∷ 0xcd ∷ 0x5c ∷ []

-- the datagram
abbrev pub ask_bytes : List ℕ
ask_bytes = ask_head_bytes ++ codes "ask" ++ ask_tag
