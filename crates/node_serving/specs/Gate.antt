-- The gate that a clients file says.
use Rattle.std.specs.Prelude.{false, ◌≤◌, ℕ, List, [], map}
use Rattle.clients_file.specs.declared.clients.ClientEntry.{ClientEntry}
use Rattle.clients_file.specs.declared.clients.Clients.{Clients}
use Rattle.clients_file.specs.declared.clients.OperatorEntry.{OperatorEntry}
use Rattle.replay_window.specs.Window.{window_above}
use Rattle.node_serving.specs.declared.gate.ClientLines.{ClientLines}
use Rattle.node_serving.specs.declared.gate.ClientLines.TheVariants.{Anybody, ThisMachine, Of}
use Rattle.sealed_port.specs.Gate.{GateRecord}
use Rattle.sealed_port.specs.declared.client.Client.{Client}
use Rattle.sealed_port.specs.declared.operator.Operator.{Operator}

-- a client of the file, with a window that begins at a mark
abbrev pub client_from : ℕ → ℕ → ClientEntry → Client
client_from ahead mark entry =
    record { number = entry.number; key = entry.key; window = window_above mark ahead }

-- the clients of the file
abbrev pub clients_from : ℕ → ℕ → List ClientEntry → List Client
clients_from ahead mark entries = map (client_from ahead mark) entries

-- an operator of the file, with a window that begins at a mark
abbrev pub operator_from : ℕ → ℕ → OperatorEntry → Operator
operator_from ahead mark entry = record {
  holder = record { number = entry.number; key = entry.key; window = window_above mark ahead };
  right = entry.right;
}

-- the operators of the file
abbrev pub operators_from : ℕ → ℕ → List OperatorEntry → List Operator
operators_from ahead mark entries = map (operator_from ahead mark) entries

-- The gate before a node, which remembers no line, and in which no request waits. All its windows begin at a mark.
abbrev pub gate_from : ℕ → ℕ → Clients → GateRecord
gate_from node mark clients = record {
  node = node;
  clients = clients_from clients.ahead mark clients.clients.items;
  plain = clients.plain.items;
  asked = [];
  failures = record { most = clients.failures; minute = 0; failed = [] };
  operators = operators_from clients.ahead mark clients.operators.items;
  aside = [];
  drains = false;
}

-- how many seconds a client may be ahead of the clock, 2 without a clients file
abbrev pub ahead_of : ClientLines → ℕ
ahead_of Anybody = 2
ahead_of ThisMachine = 2
ahead_of (Of clients) = clients.ahead

-- the lead over the clock is in its range
abbrev pub IsSaid : ClientLines → Type 0
IsSaid lines = (1 ≤ ahead_of lines) × (ahead_of lines ≤ 60)
