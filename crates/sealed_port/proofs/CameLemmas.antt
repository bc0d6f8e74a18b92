-- A datagram is a line or a request, and what a gate makes of it.
use Rattle.std.proofs.Common.{◌≡◌, ℕ, Bool, true, false, cond, eqb, List, [], Option, Some, None, refl, sym, ap, ◌∙◌}
use Rattle.std.specs.Prelude.{◌&&◌, ◌||◌, is_none, Result, Ok, Err}
use Rattle.std.specs.Option.{option_map}
use Rattle.std.specs.Result.{result_err, result_ok}
use Rattle.datagram_port.specs.Port.{PortEvent, event_of_receive}
use Rattle.datagram_port.specs.declared.port.Received.TheVariants.{Datagram}
use Rattle.datagram_port.specs.declared.port.Sender.TheVariants.{Peer}
use Rattle.sealed_wire.specs.Sealed.{head_of}
use Rattle.sealed_wire.specs.declared.head.Head.{Head}
use Rattle.sealed_wire.specs.declared.head.Kind.{Kind}
use Rattle.sealed_wire.specs.declared.head.Kind.TheVariants.{Line, Answer, Request, Report}
use Rattle.sealed_port.specs.Aside.{AsideRecord}
use Rattle.sealed_port.specs.Causes.{counted}
use Rattle.sealed_port.specs.Draining.{busied, gate_busied, gate_handled, own_answer, turned_away}
use Rattle.sealed_port.specs.Gate.{GateRecord, SealedLine, cause_of, gate_with, is_line, keeper_of, line_under, named, opened, ruling, ruling_on}
use Rattle.sealed_port.specs.Port.{handed_line, handed_request, handed_sealed, offer_of, stand_in}
use Rattle.sealed_port.specs.Requests.{asks, asks_by, cause_came, gate_aside, gate_came, is_request, operator_named, operator_of, request_cause, request_ruling, requested, ruling_under}
use Rattle.sealed_port.specs.declared.cause.Cause.{Cause}
use Rattle.sealed_port.specs.declared.cause.Cause.TheVariants.{Form}
use Rattle.sealed_port.specs.declared.cause.Unopened.{Unopened}
use Rattle.sealed_port.specs.declared.client.Client.{Client}
use Rattle.sealed_port.specs.declared.operator.Operator.{Operator}

first_of : {A : Type 0} (b : Bool) (x y : A) → b ≡ true → cond b x y ≡ x
first_of true x y e = refl
first_of false x y e = absurd cc

second_of : {A : Type 0} (b : Bool) (x y : A) → b ≡ false → cond b x y ≡ y
second_of false x y e = refl
second_of true x y e = absurd cc

-- ---- a request is no line, and no line is a request

kinds_differ : (kind : Kind) → is_request kind ≡ true → is_line kind ≡ false
kinds_differ Request e = refl
kinds_differ Line e = absurd cc
kinds_differ Answer e = absurd cc
kinds_differ Report e = absurd cc

no_keeper : (gate : GateRecord) (o : Option Head) → asks_by o ≡ true → keeper_of gate o ≡ None
no_keeper gate None e = absurd cc
no_keeper gate (Some head) e = rw (kinds_differ head.kind e) refl

no_operator : (gate : GateRecord) (o : Option Head) → asks_by o ≡ false → operator_of gate o ≡ None
no_operator gate None e = refl
no_operator gate (Some head) e = let no : is_request head.kind ≡ false = e in rw no refl

either_none : {A : Type 0} (b : Bool) (o : Option A) → o ≡ None → cond b o None ≡ None
either_none true o e = e
either_none false o e = refl

told_form : (gate : GateRecord) (now : Option ℕ) (bytes : List ℕ) → ruling_on gate now (line_under bytes None) ≡ Err Form
told_form gate None bytes = refl
told_form gate (Some now) bytes = refl

-- a request is not opened as a line
pub unlined : (gate : GateRecord) (now : Option ℕ) (bytes : List ℕ) → asks bytes ≡ true → opened gate now bytes ≡ None
unlined gate now bytes e =
    ap (λ (keeper : Option Client). result_ok (ruling_on gate now (line_under bytes keeper))) (no_keeper gate (head_of bytes) e) ∙ ap result_ok (told_form gate now bytes)

-- what is no request is not set aside
pub unasked : (gate : GateRecord) (now : Option ℕ) (address : ℕ) (bytes : List ℕ) → asks bytes ≡ false → requested gate now address bytes ≡ None
unasked gate now address bytes e = ap (λ (operator : Option Operator). result_ok (ruling_under gate now address bytes operator)) (no_operator gate (head_of bytes) e)

-- ---- the gate after a datagram

-- nothing is set aside
pub aside_nothing : (gate : GateRecord) → gate_aside gate None ≡ gate
aside_nothing gate = refl

-- after a line
pub came_line : (gate : GateRecord) (now : Option ℕ) (address : ℕ) (bytes : List ℕ) → asks bytes ≡ false
    → gate_with gate now address (opened gate now bytes) ≡ gate_came gate now address bytes
came_line gate now address bytes e =
    sym (ap (gate_aside (gate_with gate now address (opened gate now bytes))) (unasked gate now address bytes e)
    ∙ aside_nothing (gate_with gate now address (opened gate now bytes)))

-- after nothing
came_nothing : (gate : GateRecord) (now : Option ℕ) (address : ℕ) (bytes : List ℕ) → opened gate now bytes ≡ None → requested gate now address bytes ≡ None
    → gate_came gate now address bytes ≡ gate
came_nothing gate now address bytes none unasked_so =
    ap (λ (line : Option SealedLine). gate_aside (gate_with gate now address line) (requested gate now address bytes)) none
    ∙ ap (gate_aside gate) unasked_so ∙ aside_nothing gate

-- ---- the gate's own answer to a line that it turns away

-- the gate after a line and the answer
pub handled_line : (gate : GateRecord) (now : Option ℕ) (address : ℕ) (bytes : List ℕ) → asks bytes ≡ false
    → gate_busied (gate_with gate now address (opened gate now bytes)) (turned_away gate (opened gate now bytes)) ≡ gate_handled gate now address bytes
handled_line gate now address bytes e =
    ap (λ (came : GateRecord). gate_busied came (turned_away gate (opened gate now bytes))) (came_line gate now address bytes e)

pub answer_of_line : (gate : GateRecord) (now : Option ℕ) (address : ℕ) (bytes : List ℕ) → asks bytes ≡ false
    → busied (gate_with gate now address (opened gate now bytes)) (turned_away gate (opened gate now bytes)) ≡ own_answer gate now address bytes
answer_of_line gate now address bytes e =
    ap (λ (came : GateRecord). busied came (turned_away gate (opened gate now bytes))) (came_line gate now address bytes e)

-- what isn't opened as a line is not answered
unanswered : (gate : GateRecord) (now : Option ℕ) (address : ℕ) (bytes : List ℕ) → opened gate now bytes ≡ None → own_answer gate now address bytes ≡ None
unanswered gate now address bytes none = ap (λ (line : Option SealedLine). busied (gate_came gate now address bytes) (turned_away gate line)) none

handled_unanswered : (gate : GateRecord) (now : Option ℕ) (address : ℕ) (bytes : List ℕ) → opened gate now bytes ≡ None
    → gate_handled gate now address bytes ≡ gate_came gate now address bytes
handled_unanswered gate now address bytes none =
    ap (λ (line : Option SealedLine). gate_busied (gate_came gate now address bytes) (turned_away gate line)) none

-- what isn't opened at all leaves the gate
handled_nothing : (gate : GateRecord) (now : Option ℕ) (address : ℕ) (bytes : List ℕ) → opened gate now bytes ≡ None → requested gate now address bytes ≡ None
    → gate_handled gate now address bytes ≡ gate
handled_nothing gate now address bytes none unasked_so =
    handled_unanswered gate now address bytes none ∙ came_nothing gate now address bytes none unasked_so

-- ---- what is handed in for a datagram

pub handed_of_line : (gate : GateRecord) (now : Option ℕ) (address : ℕ) (bytes : List ℕ) → asks bytes ≡ false
    → handed_line gate (opened gate now bytes) ≡ handed_sealed gate now address bytes
handed_of_line gate now address bytes e = sym (second_of (asks bytes) (handed_request (requested gate now address bytes)) (handed_line gate (opened gate now bytes)) e)

pub cause_of_line : (gate : GateRecord) (now : Option ℕ) (address : ℕ) (bytes : List ℕ) → asks bytes ≡ false
    → cause_of gate now bytes ≡ cause_came gate now address bytes
cause_of_line gate now address bytes e = sym (second_of (asks bytes) (request_cause gate now address bytes) (cause_of gate now bytes) e)

-- an empty datagram of member 0 stands in for a request
stand_in_event : (o : Option AsideRecord) (buffer : List ℕ) → option_map (λ received. event_of_receive received buffer) (stand_in o) ≡ handed_request o
stand_in_event None buffer = refl
stand_in_event (Some request) buffer = refl

pub handed_of_request : (gate : GateRecord) (now : Option ℕ) (address : ℕ) (bytes buffer : List ℕ) → asks bytes ≡ true
    → option_map (λ received. event_of_receive received buffer) (stand_in (requested gate now address bytes)) ≡ handed_sealed gate now address bytes
handed_of_request gate now address bytes buffer e =
    stand_in_event (requested gate now address bytes) buffer
    ∙ sym (first_of (asks bytes) (handed_request (requested gate now address bytes)) (handed_line gate (opened gate now bytes)) e)

pub cause_of_request : (gate : GateRecord) (now : Option ℕ) (address : ℕ) (bytes : List ℕ) → asks bytes ≡ true
    → request_cause gate now address bytes ≡ cause_came gate now address bytes
cause_of_request gate now address bytes e = sym (first_of (asks bytes) (request_cause gate now address bytes) (cause_of gate now bytes) e)

-- a request without a cause is set aside
uncaused : (r : Result AsideRecord Cause) → result_err r ≡ None → stand_in (result_ok r) ≡ Some (Datagram (Peer 0) 0)
uncaused (Ok request) e = refl
uncaused (Err cause) e = absurd cc

pub stands_in : (gate : GateRecord) (now : Option ℕ) (address : ℕ) (bytes : List ℕ) → request_cause gate now address bytes ≡ None
    → stand_in (requested gate now address bytes) ≡ Some (Datagram (Peer 0) 0)
stands_in gate now address bytes e = uncaused (request_ruling gate now address bytes) e

caused : (r : Result AsideRecord Cause) (cause : Cause) → result_err r ≡ Some cause → stand_in (result_ok r) ≡ None
caused (Ok request) cause e = absurd cc
caused (Err other) cause e = refl

pub stands_not_in : (gate : GateRecord) (now : Option ℕ) (address : ℕ) (bytes : List ℕ) (cause : Cause) → request_cause gate now address bytes ≡ Some cause
    → stand_in (requested gate now address bytes) ≡ None
stands_not_in gate now address bytes cause e = caused (request_ruling gate now address bytes) cause e

-- ---- what is passed over

line_is_none : (gate : GateRecord) (o : Option SealedLine) → handed_line gate o ≡ None → o ≡ None
line_is_none gate None e = refl
line_is_none gate (Some line) e = absurd cc

request_is_none : (o : Option AsideRecord) → handed_request o ≡ None → o ≡ None
request_is_none None e = refl
request_is_none (Some request) e = absurd cc

-- a gate that hands in nothing opened nothing
unhanded : (gate : GateRecord) (now : Option ℕ) (address : ℕ) (bytes : List ℕ) → handed_sealed gate now address bytes ≡ None
    → (opened gate now bytes ≡ None) × (requested gate now address bytes ≡ None)
unhanded gate now address bytes e = go (asks bytes) refl e
  where
    go : (b : Bool) → asks bytes ≡ b → cond b (handed_request (requested gate now address bytes)) (handed_line gate (opened gate now bytes)) ≡ None
        → (opened gate now bytes ≡ None) × (requested gate now address bytes ≡ None)
    go true is none = (unlined gate now bytes is, request_is_none (requested gate now address bytes) none)
    go false is none = (line_is_none gate (opened gate now bytes) none, unasked gate now address bytes is)

-- it stays as it is
pub unhanded_stays : (gate : GateRecord) (now : Option ℕ) (address : ℕ) (bytes : List ℕ) → handed_sealed gate now address bytes ≡ None
    → gate_handled gate now address bytes ≡ gate
unhanded_stays gate now address bytes e = let u = unhanded gate now address bytes e in handled_nothing gate now address bytes u.0 u.1

-- it offers nothing
pub unhanded_unanswered : (gate : GateRecord) (now : Option ℕ) (address : ℕ) (bytes : List ℕ) → handed_sealed gate now address bytes ≡ None
    → offer_of (own_answer gate now address bytes) ≡ []
unhanded_unanswered gate now address bytes e = ap offer_of (unanswered gate now address bytes (unhanded gate now address bytes e).0)

line_uncounted : (gate : GateRecord) (r : Result SealedLine Cause) (handed : PortEvent) (unopened : Unopened) → handed_line gate (result_ok r) ≡ Some handed
    → counted unopened (result_err r) ≡ unopened
line_uncounted gate (Ok line) handed unopened e = refl
line_uncounted gate (Err cause) handed unopened e = absurd cc

request_uncounted : (r : Result AsideRecord Cause) (handed : PortEvent) (unopened : Unopened) → handed_request (result_ok r) ≡ Some handed
    → counted unopened (result_err r) ≡ unopened
request_uncounted (Ok request) handed unopened e = refl
request_uncounted (Err cause) handed unopened e = absurd cc

-- what is handed in changes no numbers
pub handed_uncounted : (gate : GateRecord) (now : Option ℕ) (address : ℕ) (bytes : List ℕ) (handed : PortEvent) (unopened : Unopened)
    → handed_sealed gate now address bytes ≡ Some handed → counted unopened (cause_came gate now address bytes) ≡ unopened
handed_uncounted gate now address bytes handed unopened e = go (asks bytes) e
  where
    go : (b : Bool) → cond b (handed_request (requested gate now address bytes)) (handed_line gate (opened gate now bytes)) ≡ Some handed
        → counted unopened (cond b (request_cause gate now address bytes) (cause_of gate now bytes)) ≡ unopened
    go true some = request_uncounted (request_ruling gate now address bytes) handed unopened some
    go false some = line_uncounted gate (ruling gate now bytes) handed unopened some

-- ---- apart

pub line_law : (gate : GateRecord) (now : Option ℕ) (bytes : List ℕ) (head : Head) → head_of bytes ≡ Some head → named head.client gate.clients ≡ None → opened gate now bytes ≡ None
line_law gate now bytes head is none =
    ap (λ (o : Option Head). result_ok (ruling_on gate now (line_under bytes (keeper_of gate o)))) is
    ∙ ap (λ (keeper : Option Client). result_ok (ruling_on gate now (line_under bytes keeper))) (either_none (is_line head.kind && eqb head.node gate.node) (named head.client gate.clients) none)
    ∙ ap result_ok (told_form gate now bytes)

pub no_request_law : (gate : GateRecord) (now : Option ℕ) (address : ℕ) (bytes : List ℕ) (head : Head) → head_of bytes ≡ Some head → operator_named head.client gate.operators ≡ None
    → requested gate now address bytes ≡ None
no_request_law gate now address bytes head is none =
    ap (λ (o : Option Head). result_ok (ruling_under gate now address bytes (operator_of gate o))) is
    ∙ ap (λ (operator : Option Operator). result_ok (ruling_under gate now address bytes operator))
    (either_none (is_request head.kind && eqb head.node gate.node) (operator_named head.client gate.operators) none)

pub both_law : (gate : GateRecord) (now : Option ℕ) (address : ℕ) (bytes : List ℕ) → (is_none (opened gate now bytes) || is_none (requested gate now address bytes)) ≡ true
both_law gate now address bytes = go (asks bytes) refl
  where
    second : (b : Bool) → (b || true) ≡ true
    second true = refl
    second false = refl

    go : (b : Bool) → asks bytes ≡ b → (is_none (opened gate now bytes) || is_none (requested gate now address bytes)) ≡ true
    go true is = rw (unlined gate now bytes is) refl
    go false is = rw (unasked gate now address bytes is) (second (is_none (opened gate now bytes)))
