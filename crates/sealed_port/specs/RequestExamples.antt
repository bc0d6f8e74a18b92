-- Worked cases: a gate before node 2, with operator 258 under a key of 32 zeros.
use Rattle.std.specs.Prelude.{ℕ, List, [], ◌∷◌, Some, codes}
use Rattle.sealed_wire.specs.Examples.{report_of_request, report_text, request_head as head_of_request, request_tag}
use Rattle.sealed_wire.specs.Making.{Making}
use Rattle.sealed_wire.specs.declared.right.Right.TheVariants.{Operator as FullRight}
use Rattle.replay_window.specs.Window.{WindowRecord}
use Rattle.sealed_port.specs.Aside.{AsideRecord}
use Rattle.sealed_port.specs.Examples.{client_at, first_gate, window_at}
use Rattle.sealed_port.specs.Gate.{GateRecord}
use Rattle.sealed_port.specs.Runs.{GateLife, Comes}
use Rattle.sealed_port.specs.declared.operator.Operator.{Operator}

-- an operator with a number
abbrev pub operator_at : ℕ → WindowRecord → Operator
operator_at number window = record { holder = client_at number window; right = FullRight }

-- a gate without clients whose one operator is 258, with requests that wait
abbrev pub gate_of_operator : WindowRecord → List AsideRecord → GateRecord
gate_of_operator window aside =
    record first_gate { clients = []; operators = operator_at 258 window ∷ []; aside = aside }

-- the gate before it opened anything
abbrev pub operator_gate : GateRecord
operator_gate = gate_of_operator (window_at 0 []) []

-- the request `STATUS` of operator 258 from address 7, sealed at 1,000,000 microseconds
abbrev pub status_request : AsideRecord
status_request = record {
  number = 258;
  right = FullRight;
  address = 7;
  moment = 1000000;
  tag = request_tag;
  text = codes "STATUS";
}

-- another request of an operator
abbrev pub request_at : ℕ → ℕ → AsideRecord
request_at number moment =
    record { number = number; right = FullRight; address = 7; moment = moment; tag = []; text = [] }

-- the gate after it set the request aside
abbrev pub asked_gate : GateRecord
asked_gate = gate_of_operator (window_at 0 (1000000 ∷ [])) (status_request ∷ [])

-- an incarnation whose operator's window began with a mark, and whose clock told second 10
abbrev pub operator_life : ℕ → GateLife
operator_life low = record { gate = gate_of_operator (window_at low []) []; steps = Comes (Some 10) 7 [] ∷ [] }

-- an incarnation of it without a step, so that its clock told nothing
abbrev pub silent_operator_life : GateLife
silent_operator_life = record { gate = operator_gate; steps = [] }

-- an incarnation whose operator's window began with a mark, without a step
abbrev pub still_operator_life : ℕ → GateLife
still_operator_life low = record { gate = gate_of_operator (window_at low []) []; steps = [] }

-- the making of the operator's request
abbrev pub request_making : Making
request_making = record { bound = []; head = head_of_request; text = codes "STATUS" }

-- the making of node 2's report on it
abbrev pub making_of_report : Making
making_of_report = record { bound = request_tag; head = report_of_request; text = report_text }

-- both, the request first
abbrev pub request_and_report : List Making
request_and_report = request_making ∷ making_of_report ∷ []
