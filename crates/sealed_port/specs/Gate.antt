-- The datagrams that a gate opens, and the answers that it seals.
use Rattle.std.specs.Prelude.{ℕ, ◌/◌, ◌==◌, ◌&&◌, not, nat_le, Bool, true, false, if◌then◌else◌, List, [], length, map, find, Option, Some, None, Result, Ok, Err}
use Rattle.std.specs.List.{list_any}
use Rattle.std.specs.Result.{result_err, result_ok}
use Rattle.sealed_wire.specs.Sealed.{head_of, sealed_at, sealed_bytes, tag_at}
use Rattle.sealed_wire.specs.declared.head.Head.{Head}
use Rattle.sealed_wire.specs.declared.head.Kind.{Kind}
use Rattle.sealed_wire.specs.declared.head.Kind.TheVariants.{Line, Answer, Request, Report}
use Rattle.replay_window.specs.Window.{is_fresh, refusal_of, with_seen}
use Rattle.replay_window.specs.declared.refusal.Refusal.{Refusal}
use Rattle.sealed_port.specs.Causes.{cause_by}
use Rattle.sealed_port.specs.declared.cause.Cause.{Cause}
use Rattle.sealed_port.specs.declared.cause.Cause.TheVariants.{Form, Tag, Early, Limited}
use Rattle.sealed_port.specs.Failures.{FailuresRecord, failures_after, failures_at, is_limited}
use Rattle.sealed_port.specs.Asked.{AskedRecord, clashes, line_at, nonce_in, nonce_of, place_of, remembered, without}
use Rattle.sealed_port.specs.Aside.{AsideRecord}
use Rattle.sealed_port.specs.declared.client.Client.{Client}
use Rattle.sealed_port.specs.declared.operator.Operator.{Operator}

-- A gate: its node, the clients that share a key with it, the plain IPv4 addresses, the lines without an answer, the
-- failures of clients, the operators, their requests that were not taken, and whether it drains. Clients at a plain
-- address may speak plainly.
pub record GateRecord : Type 0 where
  pub node : ℕ
  pub clients : List Client
  pub plain : List ℕ
  pub asked : List AskedRecord
  pub failures : FailuresRecord
  pub operators : List Operator
  pub aside : List AsideRecord
  pub drains : Bool

-- a client's line with the values of its seal
pub record SealedLine : Type 0 where
  pub client : ℕ
  pub moment : ℕ
  pub tag : List ℕ
  pub line : List ℕ

-- ---- opening

-- the client with a number
abbrev pub named : ℕ → List Client → Option Client
named number clients = find (λ client. client.number == number) clients

-- whether a datagram is a client's line
abbrev pub is_line : Kind → Bool
is_line Line = true
is_line Answer = false
is_line Request = false
is_line Report = false

-- The client whose key the tag of a datagram with the given head must be under. The datagram must be a line for the
-- gate's node, from a client that the gate knows.
abbrev pub keeper_of : GateRecord → Option Head → Option Client
keeper_of gate None = None
keeper_of gate (Some head) =
    if is_line head.kind && (head.node == gate.node) then named head.client gate.clients else None

-- the line of an opened datagram with the given tag
abbrev pub line_of : List ℕ → Option (Head × List ℕ) → Result SealedLine Cause
line_of tag None = Err Tag
line_of tag (Some (head, text)) =
    Ok (record { client = head.client; moment = head.moment; tag = tag; line = text })

-- the line of a datagram under a client's key
abbrev pub line_under : List ℕ → Option Client → Result SealedLine Cause
line_under bytes None = Err Form
line_under bytes (Some client) = line_of (tag_at bytes) (sealed_at client.key [] bytes)

-- the line for a gate's node in a datagram, under the key of the client that the datagram names
abbrev pub sealed_line : GateRecord → List ℕ → Result SealedLine Cause
sealed_line gate bytes = line_under bytes (keeper_of gate (head_of bytes))

-- whether a client's window admits a moment
abbrev pub admits : Option Client → ℕ → ℕ → Bool
admits None now moment = false
admits (Some client) now moment = is_fresh client.window now moment

-- whether a gate admits a line at a second of the clock
abbrev pub is_admitted : GateRecord → ℕ → SealedLine → Bool
is_admitted gate now line =
    admits (named line.client gate.clients) now line.moment && not (clashes line.client line.line gate.asked)

-- the reason why a client's window refuses a moment, or None
abbrev pub refusal_in : Option Client → ℕ → ℕ → Option Refusal
refusal_in None now moment = None
refusal_in (Some client) now moment = refusal_of client.window now moment

-- the cause of a line that the gate doesn't admit at a second of the clock
abbrev pub cause_at : GateRecord → ℕ → SealedLine → Cause
cause_at gate now line = cause_by (refusal_in (named line.client gate.clients) now line.moment)

-- the ruling on a line: the line if the gate admits it, else the cause; a clock that fails is before all moments
abbrev pub ruling_on : GateRecord → Option ℕ → Result SealedLine Cause → Result SealedLine Cause
ruling_on gate now (Err cause) = Err cause
ruling_on gate None (Ok line) = Err Early
ruling_on gate (Some now) (Ok line) =
    if is_limited gate.failures now line.client then Err Limited
    else if is_admitted gate now line then Ok line
    else Err (cause_at gate now line)

-- The ruling of a gate on a datagram, with what the clock tells. The gate opens a line that is sealed under the key of
-- the client that it names, and for the gate's node. The window of the client admits its moment, and the failures of
-- the client are below the limit.
abbrev pub ruling : GateRecord → Option ℕ → List ℕ → Result SealedLine Cause
ruling gate now bytes = ruling_on gate now (sealed_line gate bytes)

-- the line that a gate opens, or None
abbrev pub opened : GateRecord → Option ℕ → List ℕ → Option SealedLine
opened gate now bytes = result_ok (ruling gate now bytes)

-- why a gate doesn't open a datagram, or None if it opens it
abbrev pub cause_of : GateRecord → Option ℕ → List ℕ → Option Cause
cause_of gate now bytes = result_err (ruling gate now bytes)

-- the client, whose window has seen the moment if the client has the number
abbrev pub with_moment : ℕ → ℕ → Client → Client
with_moment number moment client =
    if client.number == number then record client { window = with_seen client.window moment } else client

-- the remembered values of a line from an address
abbrev pub asked_of : ℕ → SealedLine → AskedRecord
asked_of address line = record {
  client = line.client;
  nonce = nonce_in line.line;
  line = line.line;
  address = address;
  moment = line.moment;
  tag = line.tag;
}

-- the failures at what the clock tells
abbrev pub failures_told : Option ℕ → FailuresRecord → FailuresRecord
failures_told None failures = failures
failures_told (Some now) failures = failures_at now failures

-- the gate after it opened a line from an address, or nothing, with what the clock told
abbrev pub gate_with : GateRecord → Option ℕ → ℕ → Option SealedLine → GateRecord
gate_with gate now address None = gate
gate_with gate now address (Some line) = record gate {
  clients = map (with_moment line.client line.moment) gate.clients;
  asked = remembered gate.asked (asked_of address line);
  failures = failures_told now gate.failures;
}

-- whether a client at an address may speak plainly; the IPv4 address is the number without its last 16 bits
abbrev pub is_plain : GateRecord → ℕ → Bool
is_plain gate address = list_any (λ plain. plain == address / 65536) gate.plain

-- ---- sealing

-- the head of an answer
abbrev pub answer_head : ℕ → AskedRecord → Head
answer_head node asked = record { kind = Answer; client = asked.client; node = node; moment = asked.moment }

-- a datagram and its address
pub record Sealed : Type 0 where
  pub address : ℕ
  pub bytes : List ℕ

-- the answer to a line, sealed under a client's key and bound to the line's tag
abbrev pub answer_under : ℕ → List ℕ → AskedRecord → Option Client → Option Sealed
answer_under node answer asked None = None
answer_under node answer asked (Some client) =
    Some (record { address = asked.address; bytes = sealed_bytes client.key asked.tag (answer_head node asked) answer })

-- the sealed answer to a line, if there is one
abbrev pub answer_to : GateRecord → List ℕ → Option AskedRecord → Option Sealed
answer_to gate answer None = None
answer_to gate answer (Some asked) = answer_under gate.node answer asked (named asked.client gate.clients)

-- the place of the line that an answer to a client answers, or None
abbrev pub answered_place : GateRecord → ℕ → List ℕ → Option ℕ
answered_place gate client answer = place_of client (nonce_of answer) gate.asked

-- the sealed answer of the node to a client
abbrev pub answered : GateRecord → ℕ → List ℕ → Option Sealed
answered gate client answer =
    if nat_le (length answer) 256
    then answer_to gate answer (line_at (answered_place gate client answer) gate.asked)
    else None

-- the gate after an answer to a client
abbrev pub gate_answered : GateRecord → ℕ → List ℕ → GateRecord
gate_answered gate client answer = record gate {
  asked = without (answered_place gate client answer) gate.asked;
  failures = failures_after client answer gate.failures;
}
