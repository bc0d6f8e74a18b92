-- Worked cases: a gate before node 2, with client 258 under a key of 32 zeros.
use Rattle.std.specs.Prelude.{ℕ, false, List, [], ◌∷◌, Some, None, codes, replicate}
use Rattle.sealed_wire.specs.Examples.{answer_head, line_head, line_tag}
use Rattle.sealed_wire.specs.Making.{Making}
use Rattle.replay_window.specs.Window.{WindowRecord}
use Rattle.sealed_port.specs.Asked.{AskedRecord}
use Rattle.sealed_port.specs.Failures.{FailuresRecord}
use Rattle.sealed_port.specs.Gate.{GateRecord, SealedLine}
use Rattle.sealed_port.specs.Port.{Passed}
use Rattle.sealed_port.specs.Runs.{GateLife, Comes}
use Rattle.sealed_port.specs.declared.client.Client.{Client}
use Rattle.sealed_port.specs.declared.failures.Failed.{Failed}

-- the line `CHECK k1 ann 755224 -`
abbrev pub check_line : List ℕ
check_line = codes "CHECK k1 ann 755224 -"

-- the line of client 258, sealed at 1,000,000 microseconds
abbrev pub opened_line : SealedLine
opened_line = record { client = 258; moment = 1000000; tag = line_tag; line = check_line }

-- a window with a lead of 2 seconds, with a mark and seen moments
abbrev pub window_at : ℕ → List ℕ → WindowRecord
window_at low seen = record { ahead = 2; low = low; seen = seen }

-- a client with a number
abbrev pub client_at : ℕ → WindowRecord → Client
client_at number window = record { number = number; key = replicate 32 0; window = window }

-- a line of a client without an answer, from address 7
abbrev pub asked_at : ℕ → List ℕ → List ℕ → AskedRecord
asked_at client nonce line =
    record { client = client; nonce = nonce; line = line; address = 7; moment = 1000000; tag = line_tag }

-- the line of client 258 from address 7
abbrev pub asked_line : AskedRecord
asked_line = asked_at 258 (codes "k1") check_line

-- no limit of failures, in the first minute of the clock
abbrev pub no_limit : FailuresRecord
no_limit = record { most = None; minute = 0; failed = [] }

-- the failures of clients in a minute of the clock, of which the second is the last
abbrev pub failures_in : ℕ → List Failed → FailuresRecord
failures_in minute failed = record { most = Some 2; minute = minute; failed = failed }

-- a client that failed a number of times
abbrev pub failed_at : ℕ → ℕ → Failed
failed_at client number = record { client = client; number = number }

-- a gate whose one client is 258, with lines without an answer; clients at 127.0.0.1 may speak plainly
abbrev pub gate_at : WindowRecord → List AskedRecord → GateRecord
gate_at window asked = record {
  node = 2;
  clients = client_at 258 window ∷ [];
  plain = 2130706433 ∷ [];
  asked = asked;
  failures = no_limit;
  operators = [];
  aside = [];
  drains = false;
}

-- the gate before it opened anything
abbrev pub first_gate : GateRecord
first_gate = gate_at (window_at 0 []) []

-- the gate after it opened the line
abbrev pub later_gate : GateRecord
later_gate = gate_at (window_at 0 (1000000 ∷ [])) (asked_line ∷ [])

-- the address 127.0.0.1 with port 5
abbrev pub plain_address : ℕ
plain_address = 139637976793093

-- a datagram without bytes from an address, when the clock failed
abbrev pub passed_at : ℕ → Passed
passed_at address = record { now = None; address = address; bytes = [] }

-- an incarnation whose client's window began with a mark, and whose clock told second 10
abbrev pub life_at : ℕ → GateLife
life_at low = record { gate = gate_at (window_at low []) []; steps = Comes (Some 10) 7 [] ∷ [] }

-- an incarnation without a step, so that its clock told nothing
abbrev pub silent_life : GateLife
silent_life = record { gate = first_gate; steps = [] }

-- an incarnation whose client's window began with a mark, without a step
abbrev pub still_life : ℕ → GateLife
still_life low = record { gate = gate_at (window_at low []) []; steps = [] }

-- the making of the client's line
abbrev pub line_making : Making
line_making = record { bound = []; head = line_head; text = check_line }

-- the making of node 2's answer to the line
abbrev pub answer_making : Making
answer_making = record { bound = line_tag; head = answer_head; text = codes "OK k1 0" }

-- both, the line first
abbrev pub two_makings : List Making
two_makings = line_making ∷ answer_making ∷ []

-- the key of client 258
abbrev pub zeros : List ℕ
zeros = replicate 32 0
