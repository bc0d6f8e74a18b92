-- The use of an operator's key by the operator and by the gates that have it.
use Rattle.std.specs.Prelude.{◌≡◌, ◌⊎◌, ℕ, List, [], ◌∷◌, Some}
use Rattle.sealed_wire.specs.Making.{IsMade, Making}
use Rattle.sealed_wire.specs.Report.{report_head}
use Rattle.sealed_wire.specs.Sealed.{sealed_bytes}
use Rattle.sealed_wire.specs.declared.head.Head.{Head}
use Rattle.sealed_wire.specs.declared.head.Kind.TheVariants.{Report}
use Rattle.sealed_port.specs.Aside.{AsideRecord}
use Rattle.sealed_port.specs.Gate.{GateRecord, Sealed}
use Rattle.sealed_port.specs.RequestRuns.{taken_in}
use Rattle.sealed_port.specs.Requests.{operator_named, request_head}
use Rattle.sealed_port.specs.Runs.{Step}
use Rattle.sealed_port.specs.World.{ComeUnforged}
use Rattle.sealed_port.specs.declared.operator.Operator.{Operator}

-- A gate's seal of a page for a request. It is sealed under the key of the operator that the request names, and bound
-- to the request's tag. It goes to the request's address.
pub record IsReportFor (gate : GateRecord) (request : AsideRecord) (page : List ℕ) (sealed : Sealed) : Type 0 where
  pub operator : Operator
  pub is_operator : operator_named request.number gate.operators ≡ Some operator
  pub bytes_are : sealed.bytes
      ≡ sealed_bytes operator.holder.key request.tag (report_head (request_head gate.node request)) page
  pub address_is : sealed.address ≡ request.address

-- the request is in the list
abbrev pub IsAmongRequests : List AsideRecord → AsideRecord → Type 0
IsAmongRequests [] one = ⊥
IsAmongRequests (other ∷ others) one = (other ≡ one) ⊎ IsAmongRequests others one

-- the operator with the number has the key at a gate, if the gate knows the operator
abbrev pub HasOperatorKey : List ℕ → ℕ → GateRecord → Type 0
HasOperatorKey key number gate =
    (operator : Operator) → operator_named number gate.operators ≡ Some operator → operator.holder.key ≡ key

-- the making of a node's report on a request
abbrev pub report_making : ℕ → AsideRecord → List ℕ → Making
report_making node request page =
    record { bound = request.tag; head = report_head (request_head node request); text = page }

-- The gate of a node sealed the report for an operator. At its start no request waited. The operator has the key at the
-- gate, and no datagram was forged. The request was taken in the steps, and the report is on it.
pub record WasReported (key : List ℕ) (made : List Making) (number : ℕ) (making : Making) : Type 0 where
  pub gate : GateRecord
  pub steps : List Step
  pub request : AsideRecord
  pub fresh : gate.aside ≡ []
  pub has_key : HasOperatorKey key number gate
  pub unforged : ComeUnforged key made steps
  pub is_taken : IsAmongRequests (taken_in gate steps) request
  pub of_operator : request.number ≡ number
  pub making_is : making ≡ report_making gate.node request making.text

-- gates sealed all reports that were made under the key
abbrev pub GatesReport : List ℕ → List Making → ℕ → Type 0
GatesReport key made number =
    (making : Making) → IsMade made making → making.head.kind ≡ Report → WasReported key made number making

-- A datagram is a node's report on an operator's request. In one run, which began without a request, the gate of the
-- request's node opened exactly the request at its moment, and the request was taken. The report's head repeats the
-- request's.
pub record IsReported (request : Making) (head : Head) : Type 0 where
  pub gate : GateRecord
  pub steps : List Step
  pub taken : AsideRecord
  pub fresh : gate.aside ≡ []
  pub of_node : gate.node ≡ request.head.node
  pub is_taken : IsAmongRequests (taken_in gate steps) taken
  pub of_operator : taken.number ≡ request.head.client
  pub text_is : taken.text ≡ request.text
  pub moment_is : taken.moment ≡ request.head.moment
  pub head_is : head ≡ report_head request.head
