-- Minimal members and clients files. No contract cites them.
use Rattle.std.specs.Prelude.{ℕ, List, [], ◌∷◌, None}
use Rattle.std.specs.declared.net.socket_addr.SocketAddrV4.{SocketAddrV4}
use Rattle.clients_file.specs.declared.clients.Clients.{Clients}
use Rattle.datagram_port.specs.Port.{PortEvent, Received}
use Rattle.datagram_port.specs.declared.port.Sender.{Sender}
use Rattle.udp_port.specs.Examples.{at_host}
use Rattle.sealed_wire.specs.declared.right.Right.TheVariants.{Reader}
use Rattle.oathd_database.specs.Broken.{no_items, one_item}

-- two members, outside 127.0.0.0/8
abbrev pub two_members : List SocketAddrV4
two_members = at_host 10 1 ∷ at_host 10 2 ∷ []

-- a clients file of client 7 with a key
abbrev pub clients_of : List ℕ → Clients
clients_of key =
    record {
      clients = one_item (record { number = 7; key = key });
      operators = no_items;
      plain = no_items;
      ahead = 2;
      failures = None;
    }

-- a clients file of client 7 and operator 8, who has a key
abbrev pub operators_of : List ℕ → Clients
operators_of key = record (clients_of []) { operators = one_item (record { number = 8; key = key; right = Reader }) }

-- the byte as the datagram of a sender
abbrev pub byte_of : Sender → List PortEvent
byte_of sender = Received sender (0 ∷ []) ∷ []
