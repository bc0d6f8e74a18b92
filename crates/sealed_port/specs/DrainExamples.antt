-- Worked cases: a gate before node 2 that drains, with client 258 under a key of 32 zeros.
use Rattle.std.specs.Prelude.{List, ℕ, [], ◌∷◌, ◌++◌, true, codes}
use Rattle.sealed_wire.specs.Examples.{answer_head_bytes}
use Rattle.sealed_port.specs.Asked.{AskedRecord}
use Rattle.sealed_port.specs.Examples.{asked_at, first_gate, gate_at, window_at}
use Rattle.sealed_port.specs.Gate.{GateRecord}

-- the gate before it opened anything
abbrev pub draining_gate : GateRecord
draining_gate = record first_gate { drains = true }

-- the gate that drains, with lines without an answer
abbrev pub waiting_gate : List AskedRecord → GateRecord
waiting_gate asked = record (gate_at (window_at 0 []) asked) { drains = true }

-- the gate after it answered the line, with lines without an answer
abbrev pub answered_gate : List AskedRecord → GateRecord
answered_gate asked = record (gate_at (window_at 0 (1000000 ∷ [])) asked) { drains = true }

-- the tag of the answer `NO k1 BUSY` to the line `CHECK k1 ann 755224 -` under a key of 32 zeros, by Python's hmac
abbrev pub busy_tag : List ℕ
busy_tag =
    0x83 ∷ 0xba ∷ 0x85 ∷ 0x1d ∷ 0xe1 ∷ 0x60 ∷ 0x19 ∷ 0x95 ∷ 0xd7 ∷ 0xef ∷ 0x55 ∷ 0x38 ∷ 0x71 ∷ 0xaa ∷ 0x11 ∷ 0xa0 ∷
    0x64 ∷ 0x44 ∷ 0x03 ∷ 0xb2 ∷ 0x8c ∷ 0x26 ∷ 0x1b ∷ 0xf6 ∷ 0xd9 ∷ 0xab ∷ 0x4c ∷ 0xf6 ∷ 0x8f ∷ 0xdc ∷ 0x72 ∷ 0xf4 ∷ []

-- the answer, sealed
abbrev pub sealed_busy : List ℕ
sealed_busy = answer_head_bytes ++ codes "NO k1 BUSY" ++ busy_tag

-- another line of client 258 that waits for its answer
abbrev pub other_line : AskedRecord
other_line = asked_at 258 (codes "k2") (codes "CHECK k2 bob 123456 -")
