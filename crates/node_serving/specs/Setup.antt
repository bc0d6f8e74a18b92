-- The port of a served node: the members and the clients that it takes, and the events that it may have.
use Rattle.std.specs.Prelude.{◌≡◌, ℕ, true, false, List, map, Option, Some, None}
use Rattle.std.specs.declared.net.socket_addr.SocketAddrV4.{SocketAddrV4}
use Rattle.clients_file.specs.declared.clients.ClientEntry.{ClientEntry}
use Rattle.clients_file.specs.declared.clients.Clients.{Clients}
use Rattle.clients_file.specs.declared.clients.OperatorEntry.{OperatorEntry}
use Rattle.datagram_port.specs.Port.{PortEvent}
use Rattle.datagram_port.specs.Setup.{GateSetup, Keyed, Setup, behind_gate}
use Rattle.sealed_port.specs.Setup.{AreHeard, gate_setup}
use Rattle.udp_port.specs.Calls.{SocketCalls, events_of_calls}
use Rattle.udp_port.specs.Setup.{setup_of}
use Rattle.node_serving.specs.declared.gate.ClientLines.{ClientLines}
use Rattle.node_serving.specs.declared.gate.ClientLines.TheVariants as lines
use Rattle.node_serving.specs.declared.gate.Front.{Front}
use Rattle.node_serving.specs.declared.gate.Front.TheVariants.{Anybody, ThisMachine, Gate}

-- a client of a clients file whose lines may be `ahead` seconds ahead of the clock
abbrev pub keyed_from : ℕ → ClientEntry → Keyed
keyed_from ahead entry = record { number = entry.number; key = entry.key; ahead = ahead }

-- an operator of a clients file whose requests may be `ahead` seconds ahead of the clock
abbrev pub keyed_operator : ℕ → OperatorEntry → Keyed
keyed_operator ahead entry = record { number = entry.number; key = entry.key; ahead = ahead }

-- the gate of a clients file before a node
abbrev pub gate_setup_from : ℕ → Clients → GateSetup
gate_setup_from node clients = record {
  node = node;
  clients = map (keyed_from clients.ahead) clients.clients.items;
  operators = map (keyed_operator clients.ahead) clients.operators.items;
  plain = clients.plain.items;
  most = clients.failures;
}

-- The port of a node at the members' addresses, for the lines that the node takes: any client's, those of clients of
-- its host alone, or those that the gate of a clients file opens.
abbrev pub setup_for : ℕ → List SocketAddrV4 → ClientLines → Setup
setup_for node members lines.Anybody = setup_of true false members
setup_for node members lines.ThisMachine = setup_of true true members
setup_for node members (lines.Of clients) = behind_gate (gate_setup_from node clients) (setup_of true false members)

-- the port at the members' addresses behind what stands between it and the node
abbrev pub setup_behind : List SocketAddrV4 → Front → Setup
setup_behind members Anybody = setup_of true false members
setup_behind members ThisMachine = setup_of true true members
setup_behind members (Gate gate) = behind_gate (gate_setup gate) (setup_of true false members)

-- Without a gate the events are those of the socket. With a gate, it handed in each datagram that came for one that the
-- socket received.
abbrev pub ComeThrough : Option GateSetup → List PortEvent → List PortEvent → Type 0
ComeThrough None below events = events ≡ below
ComeThrough (Some gate) below events = ∥ AreHeard gate below events ∥₁

-- the events are those of a port with the setup, from the calls of its socket
abbrev pub AreEventsOf : Setup → SocketCalls → List PortEvent → Type 0
AreEventsOf setup calls events =
    ComeThrough setup.gate
    (events_of_calls setup.skips_answers setup.takes_loopback_alone setup.members calls) events
