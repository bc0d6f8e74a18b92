-- A gate that drains: which lines it turns away, and its own answers to them.
use Rattle.std.specs.Prelude.{◌≡◌, ℕ, ◌<◌, ◌&&◌, not, Bool, true, if◌then◌else◌, List, length, Option, Some, None}
use Rattle.client_lines.specs.Answer.{answer_bytes, reply_bytes}
use Rattle.client_lines.specs.Request.{Request, request_at}
use Rattle.client_lines.specs.declared.answer.Answer.TheVariants.{BadLine}
use Rattle.client_lines.specs.declared.answer.Outcome.TheVariants.{Refused}
use Rattle.client_lines.specs.declared.answer.Reason.TheVariants.{Busy}
use Rattle.sealed_wire.specs.Sealed.{sealed_bytes}
use Rattle.sealed_port.specs.Asked.{waits}
use Rattle.sealed_port.specs.Gate.{GateRecord, Sealed, SealedLine, answer_head, answered, asked_of, gate_answered, named, opened}
use Rattle.sealed_port.specs.Requests.{gate_came}
use Rattle.sealed_port.specs.declared.client.Client.{Client}

-- the gate, which drains from now on
abbrev pub gate_drained : GateRecord → GateRecord
gate_drained gate = record gate { drains = true }

-- the answer of a gate that drains to a line: BUSY, or BADLINE if the line is not in the grammar
abbrev pub busy_by : Option Request → List ℕ
busy_by None = answer_bytes BadLine
busy_by (Some request) = reply_bytes request.nonce (Refused Busy)

abbrev pub busy_answer : List ℕ → List ℕ
busy_answer line = busy_by (request_at line)

-- Whether a gate turns an opened line away: while it drains, and unless the line waits for its answer already.
abbrev pub turns_away : GateRecord → SealedLine → Bool
turns_away gate line = gate.drains && not (waits line.client line.line gate.asked)

-- the line that a gate turns away, or None
abbrev pub turned_away : GateRecord → Option SealedLine → Option SealedLine
turned_away gate None = None
turned_away gate (Some line) = if turns_away gate line then Some line else None

-- a gate's own answer to a line that it turned away
abbrev pub busied : GateRecord → Option SealedLine → Option Sealed
busied gate None = None
busied gate (Some line) = answered gate line.client (busy_answer line.line)

-- the gate after its own answer
abbrev pub gate_busied : GateRecord → Option SealedLine → GateRecord
gate_busied gate None = gate
gate_busied gate (Some line) = gate_answered gate line.client (busy_answer line.line)

-- A gate's own answer for a datagram from an address, with what the clock told. The line comes first, as any other.
abbrev pub own_answer : GateRecord → Option ℕ → ℕ → List ℕ → Option Sealed
own_answer gate now address bytes =
    busied (gate_came gate now address bytes) (turned_away gate (opened gate now bytes))

-- the gate after a datagram from an address and its own answer
abbrev pub gate_handled : GateRecord → Option ℕ → ℕ → List ℕ → GateRecord
gate_handled gate now address bytes =
    gate_busied (gate_came gate now address bytes) (turned_away gate (opened gate now bytes))

-- A gate's own answer to a line in a datagram from an address. The answer is sealed under the key of the line's client
-- and bound to the line's tag. It goes to the address. The lines that wait stay, if there is room for one more.
pub record IsTurnedAway (gate : GateRecord) (now : Option ℕ) (address : ℕ) (bytes : List ℕ) (line : SealedLine)
    : Type 0 where
  pub owner : Client
  pub is_owner : named line.client gate.clients ≡ Some owner
  pub answer_is : own_answer gate now address bytes ≡ Some (record {
    address = address;
    bytes = sealed_bytes owner.key line.tag (answer_head gate.node (asked_of address line)) (busy_answer line.line);
  })
  pub others_wait : length gate.asked < 96 → (gate_handled gate now address bytes).asked ≡ gate.asked
