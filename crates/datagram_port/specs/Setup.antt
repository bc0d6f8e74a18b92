-- What stays of a port while it is used.
use Rattle.std.specs.Prelude.{ℕ, Bool, List, ◌∷◌, Option, Some}
use Rattle.std.specs.declared.net.socket_addr.SocketAddrV4.{SocketAddrV4}

-- A client that shares a key with a node: its number and the key. Its lines may be `ahead` seconds ahead of the clock.
pub record Keyed : Type 0 where
  pub number : ℕ
  pub key : List ℕ
  pub ahead : ℕ

-- A gate before a node, which opens the sealed lines of its clients and the requests of its operators: the node, the
-- clients, the operators, the IPv4 addresses whose clients may speak plainly, and the most failures of a client in a
-- minute, if they are limited.
pub record GateSetup : Type 0 where
  pub node : ℕ
  pub clients : List Keyed
  pub operators : List Keyed
  pub plain : List ℕ
  pub most : Option ℕ

-- What a port by names translates by: the key of the tags, the names of the tokens in the order of the rows, and the
-- node with its boot.
pub record Naming : Type 0 where
  pub key : List ℕ
  pub names : List (List ℕ)
  pub me : ℕ
  pub boot : ℕ

-- A node's port over a socket: the members' addresses in the order of their numbers, whether it passes over a client's
-- datagram that is an answer, whether it takes the clients of its host alone, the gate between it and the node, and
-- what the ports by names between them translate by, the nearest to the node first.
pub record Setup : Type 0 where
  pub members : List SocketAddrV4
  pub skips_answers : Bool
  pub takes_loopback_alone : Bool
  pub gate : Option GateSetup
  pub namings : List Naming

-- a port with a gate before the node
abbrev pub behind_gate : GateSetup → Setup → Setup
behind_gate gate setup = record setup { gate = Some gate }

-- a port by names before the node
abbrev pub under_names : Naming → Setup → Setup
under_names naming setup = record setup { namings = naming ∷ setup.namings }
