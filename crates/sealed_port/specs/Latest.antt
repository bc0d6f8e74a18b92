-- The latest moment that the windows of a gate keep, and incarnations that begin at it.
use Rattle.std.specs.Prelude.{◌≡◌, ◌≤◌, ℕ, max, List, [], ◌∷◌, Some}
use Rattle.std.specs.List.{AllByRecursion, fold}
use Rattle.replay_window.specs.Window.{latest_of}
use Rattle.sealed_port.specs.Gate.{GateRecord, named}
use Rattle.sealed_port.specs.Requests.{operator_named}
use Rattle.sealed_port.specs.Runs.{GateLife, gate_run}
use Rattle.sealed_port.specs.declared.client.Client.{Client}
use Rattle.sealed_port.specs.declared.operator.Operator.{Operator}

-- the greatest of a moment and the latest moments of the clients' windows
abbrev pub latest_of_clients : ℕ → List Client → ℕ
latest_of_clients least clients = fold (λ latest client. max latest (latest_of client.window)) least clients

-- the greatest of a moment and the latest moments of the operators' windows
abbrev pub latest_of_operators : ℕ → List Operator → ℕ
latest_of_operators least operators =
    fold (λ latest operator. max latest (latest_of operator.holder.window)) least operators

-- the greatest of the latest moments of all windows of a gate, or 0 if it has none
abbrev pub latest_in : GateRecord → ℕ
latest_in gate = latest_of_operators (latest_of_clients 0 gate.clients) gate.operators

-- the first mark of each client in the later incarnation is at or above the latest moment at the end of the first one
abbrev pub IsMarkedFor : GateLife → GateLife → Type 0
IsMarkedFor life later =
    (number : ℕ) (next : Client) → named number later.gate.clients ≡ Some next →
    latest_in (gate_run life.gate life.steps) ≤ next.window.low

-- every incarnation is marked for all later ones
abbrev pub AreGatesMarked : List GateLife → Type 0
AreGatesMarked [] = Unit {0}
AreGatesMarked (life ∷ lives) = AllByRecursion (IsMarkedFor life) lives × AreGatesMarked lives

-- the same of the operators of the later incarnation
abbrev pub AreOperatorsMarkedFor : GateLife → GateLife → Type 0
AreOperatorsMarkedFor life later =
    (number : ℕ) (next : Operator) → operator_named number later.gate.operators ≡ Some next →
    latest_in (gate_run life.gate life.steps) ≤ next.holder.window.low

-- every incarnation is marked for the operators of all later ones
abbrev pub AreOperatorsMarked : List GateLife → Type 0
AreOperatorsMarked [] = Unit {0}
AreOperatorsMarked (life ∷ lives) = AllByRecursion (AreOperatorsMarkedFor life) lives × AreOperatorsMarked lives
