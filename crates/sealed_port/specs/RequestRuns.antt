-- The requests that a gate sets aside in an execution, and those that are taken.
use Rattle.std.specs.Prelude.{◌≡◌, ◌≤◌, true, ℕ, ◌==◌, ◌&&◌, Bool, List, [], ◌∷◌, ◌++◌, Option, Some, None}
use Rattle.std.specs.List.{AllByRecursion}
use Rattle.replay_window.specs.Window.{is_fresh, last_at}
use Rattle.sealed_wire.specs.Sealed.{sealed_at, tag_at}
use Rattle.sealed_port.specs.Aside.{AsideRecord, has_room, oldest}
use Rattle.sealed_port.specs.Gate.{GateRecord}
use Rattle.sealed_port.specs.Requests.{operator_named, request_head, requested}
use Rattle.sealed_port.specs.Runs.{GateLife, Step, Comes, Answers, Drains, Takes, WasTold, gate_step}
use Rattle.sealed_port.specs.declared.operator.Operator.{Operator}

-- the request alone, or nothing
abbrev pub listed : Option AsideRecord → List AsideRecord
listed None = []
listed (Some request) = request ∷ []

-- the requests that a step sets aside
abbrev pub aside_by : GateRecord → Step → List AsideRecord
aside_by gate (Comes now address bytes) = listed (requested gate now address bytes)
aside_by gate (Answers client answer) = []
aside_by gate Takes = []
aside_by gate Drains = []

-- the requests that the steps set aside, in order
abbrev pub aside_in : GateRecord → List Step → List AsideRecord
aside_in gate [] = []
aside_in gate (step ∷ steps) = aside_by gate step ++ aside_in (gate_step gate step) steps

-- the requests that are taken at a step
abbrev pub taken_by : GateRecord → Step → List AsideRecord
taken_by gate (Comes now address bytes) = []
taken_by gate (Answers client answer) = []
taken_by gate Takes = listed (oldest gate.aside)
taken_by gate Drains = []

-- the requests that are taken at the steps, in order
abbrev pub taken_in : GateRecord → List Step → List AsideRecord
taken_in gate [] = []
taken_in gate (step ∷ steps) = taken_by gate step ++ taken_in (gate_step gate step) steps

-- the requests that the incarnations of a gate's process set aside, in order
abbrev pub aside_over : List GateLife → List AsideRecord
aside_over [] = []
aside_over (life ∷ lives) = aside_in life.gate life.steps ++ aside_over lives

-- two requests of the same operator and moment
abbrev pub is_same_request : AsideRecord → AsideRecord → Bool
is_same_request one other = (one.number == other.number) && (one.moment == other.moment)

-- An incarnation of a gate is before a later one. For each operator of both, the later window's first mark is at or
-- above every moment that the earlier window could admit.
abbrev pub AreOperatorsBefore : GateLife → GateLife → Type 0
AreOperatorsBefore life later =
    (number second : ℕ) (operator next : Operator) → WasTold second life.steps →
    operator_named number life.gate.operators ≡ Some operator →
    operator_named number later.gate.operators ≡ Some next →
    last_at second operator.holder.window.ahead ≤ next.holder.window.low

-- every incarnation is before all later ones
abbrev pub AreOperatorsInOrder : List GateLife → Type 0
AreOperatorsInOrder [] = Unit {0}
AreOperatorsInOrder (life ∷ lives) = AllByRecursion (AreOperatorsBefore life) lives × AreOperatorsInOrder lives

-- A gate's opening of a request in a datagram from an address. The operator that the request names shares a key with
-- the gate. The datagram is the request, sealed under the key for the gate's node at the request's moment, with its
-- tag. The operator's window admits the moment at the second that the clock told, and there is room.
pub record IsRequestOf (gate : GateRecord) (now : Option ℕ) (address : ℕ) (bytes : List ℕ) (request : AsideRecord)
    : Type 0 where
  pub operator : Operator
  pub is_operator : operator_named request.number gate.operators ≡ Some operator
  pub reads : sealed_at operator.holder.key [] bytes ≡ Some (request_head gate.node request, request.text)
  pub right_is : request.right ≡ operator.right
  pub address_is : request.address ≡ address
  pub tag_is : request.tag ≡ tag_at bytes
  pub second : ℕ
  pub told : now ≡ Some second
  pub fresh : is_fresh operator.holder.window second request.moment ≡ true
  pub room : has_room gate.aside ≡ true
