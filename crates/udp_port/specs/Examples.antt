-- Worked cases: addresses and receives.
use Rattle.std.specs.Prelude.{ℕ, Bool, true, false, List, [], ◌∷◌, Option}
use Rattle.std.specs.declared.net.socket_addr.SocketAddrV4.{SocketAddrV4}
use Rattle.datagram_port.specs.declared.port.Received.{Received}
use Rattle.udp_port.specs.declared.calls.Heard.TheVariants.{Datagram as Came}
use Rattle.datagram_port.specs.Port.{PortEvent}
use Rattle.udp_port.specs.declared.calls.Call.{Call}
use Rattle.udp_port.specs.declared.calls.Call.TheVariants.{Hear}
use Rattle.udp_port.specs.Calls.{SocketCalls, events_of_calls}
use Rattle.udp_port.specs.Receipt.{receipt_of}

-- the address HOST.0.0.1 with a port
abbrev pub at_host : ℕ → ℕ → SocketAddrV4
at_host host port = record { ip = record { octets = host ∷ 0 ∷ 0 ∷ 1 ∷ [] }; port = port }

-- the address 127.0.0.1 with a port
abbrev pub at_local : ℕ → SocketAddrV4
at_local port = at_host 127 port

-- The receipt of the first `len` bytes of `buffer` from an address, at a port whose one member is 127.0.0.1 with port
-- 1. `skips` says whether the port skips answers.
abbrev pub received_by_one : Bool → ℕ → SocketAddrV4 → List ℕ → Option Received
received_by_one skips len address buffer = receipt_of skips false (at_local 1 ∷ []) (Came len address) buffer

-- The receipt of a byte from an address, at a port whose one member is 10.0.0.1 with port 1. `alone` says whether the
-- port takes clients of its host alone.
abbrev pub received_from : Bool → SocketAddrV4 → Option Received
received_from alone address = receipt_of false alone (at_host 10 1 ∷ []) (Came 1 address) (0 ∷ [])

-- a socket received a byte from an address
abbrev pub heard_from : SocketAddrV4 → SocketCalls
heard_from address = (Hear true (Came 1 address), 0 ∷ []) ∷ []

-- the events of calls, at a port that skips answers and whose one member is 127.0.0.1 with port 1
abbrev pub events_by_one : List (Call × List ℕ) → List PortEvent
events_by_one calls = events_of_calls true false (at_local 1 ∷ []) calls
