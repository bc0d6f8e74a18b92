-- What stays of a gate and its port, and what the port hands to the node.
use Rattle.std.specs.Prelude.{◌≡◌, ℕ, List, ◌∷◌, ◌++◌, map, Option, Some}
use Rattle.std.specs.List.{AllByRecursion}
use Rattle.std.specs.Option.{option_map}
use Rattle.datagram_port.specs.Port.{PortEvent, Received, Quiet, Faulted, Offered}
use Rattle.datagram_port.specs.Setup.{GateSetup, Keyed, Setup, behind_gate}
use Rattle.sealed_port.specs.Gate.{GateRecord}
use Rattle.sealed_port.specs.Port.{handed_in}
use Rattle.sealed_port.specs.declared.client.Client.{Client}

-- a client of a gate without its admitted moments
abbrev pub keyed_of : Client → Keyed
keyed_of client = record { number = client.number; key = client.key; ahead = client.window.ahead }

-- what stays of a gate: all but the admitted moments, the lines without an answer, the failures so far, the rights of
-- operators and their requests, and whether it drains
abbrev pub gate_setup : GateRecord → GateSetup
gate_setup gate = record {
  node = gate.node;
  clients = map keyed_of gate.clients;
  operators = map (λ operator. keyed_of operator.holder) gate.operators;
  plain = gate.plain;
  most = gate.failures.most;
}

-- what stays of a gate's port, over a port with the given setup
abbrev pub sealed_setup : GateRecord → Option Setup → Option Setup
sealed_setup gate below = option_map (behind_gate (gate_setup gate)) below

-- A gate with the setup handed in the event for one that the port below received.
pub record IsHandedFor (setup : GateSetup) (below : List PortEvent) (event : PortEvent) : Type 0 where
  pub before : List PortEvent
  pub received : PortEvent
  pub after : List PortEvent
  pub is_received : below ≡ before ++ received ∷ after
  pub gate : GateRecord
  pub of_setup : gate_setup gate ≡ setup
  pub now : Option ℕ
  pub handed : handed_in gate now received ≡ Some event

-- the event is no datagram that came, or a gate with the setup handed it in
abbrev pub IsHeard : GateSetup → List PortEvent → PortEvent → Type 0
IsHeard setup below (Received sender bytes) = IsHandedFor setup below (Received sender bytes)
IsHeard setup below Quiet = Unit {0}
IsHeard setup below Faulted = Unit {0}
IsHeard setup below (Offered to bytes) = Unit {0}

-- each datagram that came in the events was handed in by a gate with the setup
abbrev pub AreHeard : GateSetup → List PortEvent → List PortEvent → Type 0
AreHeard setup below events = AllByRecursion (IsHeard setup below) events
