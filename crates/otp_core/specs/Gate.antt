-- The gate of a token at one node: two numbers that stand for all results of the token at the node.
use Rattle.std.specs.Prelude.{ℕ, ◌+◌, ◌*◌, ◌^◌, ◌≤◌, min}

-- the number of failures that count, and the moment from which the token is open
pub record GateRecord : Type 0 where
  pub fails : ℕ
  pub until : ℕ

-- the ranges of the two numbers: at most 10,000 failures count, with 5 seconds for each
abbrev pub IsGate : ℕ → ℕ → Type 0
IsGate fails until = (fails ≤ 10000) × (until ≤ 2 ^ 40 + 50000)

-- the gate without failures
abbrev pub clear_gate : GateRecord
clear_gate = record { fails = 0; until = 0 }

-- the gate after one more failure, at a moment
abbrev pub with_failure : GateRecord → ℕ → GateRecord
with_failure gate moment =
    let fails = min (gate.fails + 1) 10000 in
    record { fails = fails; until = moment + 5 * fails }
