-- The requests that a gate sets aside, and the reports on them that it seals.
use Rattle.std.specs.Prelude.{ℕ, ◌==◌, ◌&&◌, nat_le, Bool, true, false, if◌then◌else◌, List, [], ◌∷◌, ◌++◌, length, map, find, Option, Some, None, Result, Ok, Err}
use Rattle.std.specs.Result.{result_err, result_ok}
use Rattle.sealed_wire.specs.Report.{report_head}
use Rattle.sealed_wire.specs.Sealed.{head_of, sealed_at, sealed_bytes, tag_at}
use Rattle.sealed_wire.specs.declared.head.Head.{Head}
use Rattle.sealed_wire.specs.declared.head.Kind.{Kind}
use Rattle.sealed_wire.specs.declared.head.Kind.TheVariants.{Line, Answer, Request, Report}
use Rattle.sealed_wire.specs.declared.right.Right.{Right}
use Rattle.replay_window.specs.Window.{is_fresh, refusal_of}
use Rattle.sealed_port.specs.Aside.{AsideRecord, has_room, others}
use Rattle.sealed_port.specs.Causes.{cause_by}
use Rattle.sealed_port.specs.Gate.{GateRecord, Sealed, cause_of, gate_with, opened, with_moment}
use Rattle.sealed_port.specs.declared.cause.Cause.{Cause}
use Rattle.sealed_port.specs.declared.cause.Cause.TheVariants.{Form, Tag, Early}
use Rattle.sealed_port.specs.declared.operator.Operator.{Operator}

-- ---- opening

-- whether a datagram is an operator's request
abbrev pub is_request : Kind → Bool
is_request Line = false
is_request Answer = false
is_request Request = true
is_request Report = false

-- whether a datagram with the given head is a request
abbrev pub asks_by : Option Head → Bool
asks_by None = false
asks_by (Some head) = is_request head.kind

-- whether a datagram is in the format of a request, whatever its tag
abbrev pub asks : List ℕ → Bool
asks bytes = asks_by (head_of bytes)

-- the operator with a number
abbrev pub operator_named : ℕ → List Operator → Option Operator
operator_named number operators = find (λ operator. operator.holder.number == number) operators

-- The operator whose key the tag of a datagram with the given head must be under. The datagram must be a request for
-- the gate's node, from an operator that the gate knows.
abbrev pub operator_of : GateRecord → Option Head → Option Operator
operator_of gate None = None
operator_of gate (Some head) =
    if is_request head.kind && (head.node == gate.node) then operator_named head.client gate.operators else None

-- the request of an operator with a right, from an address, with a tag, a head and a text
abbrev pub request_with : Right → ℕ → List ℕ → Head → List ℕ → AsideRecord
request_with right address tag head text = record {
  number = head.client;
  right = right;
  address = address;
  moment = head.moment;
  tag = tag;
  text = text;
}

-- The ruling on an operator's request at a second of the clock. The operator's window must admit the moment, and there
-- must be room.
abbrev pub ruling_at : GateRecord → Operator → ℕ → AsideRecord → Result AsideRecord Cause
ruling_at gate operator now request =
    if is_fresh operator.holder.window now request.moment && has_room gate.aside then Ok request
    else Err (cause_by (refusal_of operator.holder.window now request.moment))

-- the ruling with what the clock tells; a clock that fails is before all moments
abbrev pub ruling_told : GateRecord → Operator → Option ℕ → AsideRecord → Result AsideRecord Cause
ruling_told gate operator None request = Err Early
ruling_told gate operator (Some now) request = ruling_at gate operator now request

-- the ruling on what was read under an operator's key, from an address and with a tag
abbrev pub ruling_read : GateRecord → Operator → Option ℕ → ℕ → List ℕ → Option (Head × List ℕ)
    → Result AsideRecord Cause
ruling_read gate operator now address tag None = Err Tag
ruling_read gate operator now address tag (Some (head, text)) =
    ruling_told gate operator now (request_with operator.right address tag head text)

-- the ruling on a datagram from an address, under an operator's key
abbrev pub ruling_under : GateRecord → Option ℕ → ℕ → List ℕ → Option Operator → Result AsideRecord Cause
ruling_under gate now address bytes None = Err Form
ruling_under gate now address bytes (Some operator) =
    ruling_read gate operator now address (tag_at bytes) (sealed_at operator.holder.key [] bytes)

-- The ruling of a gate on a request from an address, with what the clock tells. The gate opens a request that is sealed
-- under the key of the operator that it names, and for the gate's node. There is no limit of failures for operators.
abbrev pub request_ruling : GateRecord → Option ℕ → ℕ → List ℕ → Result AsideRecord Cause
request_ruling gate now address bytes = ruling_under gate now address bytes (operator_of gate (head_of bytes))

-- the request that a gate sets aside, or None
abbrev pub requested : GateRecord → Option ℕ → ℕ → List ℕ → Option AsideRecord
requested gate now address bytes = result_ok (request_ruling gate now address bytes)

-- why a gate doesn't set a request aside, or None if it does
abbrev pub request_cause : GateRecord → Option ℕ → ℕ → List ℕ → Option Cause
request_cause gate now address bytes = result_err (request_ruling gate now address bytes)

-- the operator, whose window has seen the moment if the operator has the number
abbrev pub operator_with : ℕ → ℕ → Operator → Operator
operator_with number moment operator = record operator { holder = with_moment number moment operator.holder }

-- the operators after a request was set aside, or nothing
abbrev pub operators_with : Option AsideRecord → List Operator → List Operator
operators_with None operators = operators
operators_with (Some request) operators = map (operator_with request.number request.moment) operators

-- the requests after one more was set aside, or nothing
abbrev pub aside_with : Option AsideRecord → List AsideRecord → List AsideRecord
aside_with None aside = aside
aside_with (Some request) aside = aside ++ request ∷ []

-- the gate after it set a request aside, or nothing
abbrev pub gate_aside : GateRecord → Option AsideRecord → GateRecord
gate_aside gate request = record gate {
  operators = operators_with request gate.operators;
  aside = aside_with request gate.aside;
}

-- the gate after its oldest request was taken
abbrev pub gate_taken : GateRecord → GateRecord
gate_taken gate = record gate { aside = others gate.aside }

-- ---- a datagram of a client or an operator

-- the gate after a datagram from an address, with what the clock told; it opens the line or the request in it
abbrev pub gate_came : GateRecord → Option ℕ → ℕ → List ℕ → GateRecord
gate_came gate now address bytes =
    gate_aside (gate_with gate now address (opened gate now bytes)) (requested gate now address bytes)

-- why a gate passes over a datagram, or None if it opens it
abbrev pub cause_came : GateRecord → Option ℕ → ℕ → List ℕ → Option Cause
cause_came gate now address bytes =
    if asks bytes then request_cause gate now address bytes else cause_of gate now bytes

-- ---- reports

-- the head of a request to a node
abbrev pub request_head : ℕ → AsideRecord → Head
request_head node request =
    record { kind = Request; client = request.number; node = node; moment = request.moment }

-- the report on a request, sealed under an operator's key and bound to the request's tag
abbrev pub report_under : ℕ → AsideRecord → List ℕ → Option Operator → Option Sealed
report_under node request page None = None
report_under node request page (Some operator) = Some (record {
  address = request.address;
  bytes = sealed_bytes operator.holder.key request.tag (report_head (request_head node request)) page;
})

-- the sealed report of a gate on a request, a page of at most 1,024 bytes
abbrev pub reported : GateRecord → AsideRecord → List ℕ → Option Sealed
reported gate request page =
    if nat_le (length page) 1024
    then report_under gate.node request page (operator_named request.number gate.operators)
    else None
