-- The result of a socket's receive.
use Rattle.std.specs.Prelude.{⊤, ℕ, ◌≤◌, ◌/◌, ◌^◌, ◌==◌, Bool, false, ◌&&◌, ◌||◌, not, if◌then◌else◌, List, take, Option, Some, None, Result, Ok, Err, codes, nat_eq}
use Rattle.std.specs.List.{starts_with}
use Rattle.std.specs.IoError.{error_kind}
use Rattle.std.specs.declared.io.Error.{Error}
use Rattle.std.specs.declared.io.ErrorKind.{ErrorKind}
use Rattle.std.specs.declared.io.ErrorKind.TheVariants.{WouldBlock, TimedOut, Interrupted, ConnectionRefused, ConnectionReset}
use Rattle.std.specs.declared.net.socket_addr.SocketAddrV4.{SocketAddrV4}
use Rattle.std.specs.declared.net.socket_addr.SocketAddr.{SocketAddr}
use Rattle.std.specs.declared.net.socket_addr.SocketAddr.TheVariants.{V4, V6}
use Rattle.datagram_port.specs.declared.port.Sender.{Sender}
use Rattle.datagram_port.specs.declared.port.Sender.TheVariants.{Client, Peer}
use Rattle.datagram_port.specs.declared.port.Received.{Received}
use Rattle.datagram_port.specs.declared.port.Received.TheVariants.{Datagram, Quiet, Fault}
use Rattle.udp_port.specs.declared.calls.Heard.{Heard}
use Rattle.udp_port.specs.declared.calls.Heard.TheVariants.{Datagram as Came, Other, Failed}
use Rattle.udp_port.specs.Address.{sender_of}

-- the bytes are an answer of a node: they begin with OK or NO and a space
abbrev pub is_answer : List ℕ → Bool
is_answer bytes = starts_with nat_eq bytes (codes "OK ") || starts_with nat_eq bytes (codes "NO ")

-- A port that skips answers passes over an answer from a client. Otherwise two nodes of different clusters, or a node
-- and an echo, would answer each other for ever.
abbrev pub is_passed_over : Bool → Sender → List ℕ → Bool
is_passed_over skips (Client number) bytes = skips && is_answer bytes
is_passed_over skips (Peer number) bytes = false

-- whether the address of a client is in 127.0.0.0/8
abbrev pub is_loopback : ℕ → Bool
is_loopback number = number / 2 ^ 40 == 127

-- A port that takes clients of its host alone passes over a client outside 127.0.0.0/8. It takes every member.
abbrev pub is_barred : Bool → Sender → Bool
is_barred alone (Client number) = alone && not (is_loopback number)
is_barred alone (Peer number) = false

-- The result of a receive that failed. It is quiet if no datagram came in time. The port passes over a signal, and over
-- the report that an earlier datagram found nobody at its address. Then the socket works and no time has passed, so
-- that lines from an address without a receiver make no tick. Any other failure is a fault of the port.
abbrev pub failure_of : ErrorKind → Option Received
failure_of WouldBlock = Some Quiet
failure_of TimedOut = Some Quiet
failure_of Interrupted = None
failure_of ConnectionRefused = None
failure_of ConnectionReset = None
failure_of kind = Some Fault

-- the result of a `recv_from`, as the port takes it
abbrev pub heard_of : Result (ℕ × SocketAddr) Error → Heard
heard_of (Ok (len, V4 address)) = Came len address
heard_of (Ok (len, V6 address)) = Other
heard_of (Err error) = Failed (error_kind error)

-- the datagram's length is at most the buffer's
abbrev pub IsHeard : Heard → Type 0
IsHeard (Came len address) = len ≤ 512
IsHeard Other = ⊤
IsHeard (Failed kind) = ⊤

-- The result of a socket's receive that left `buffer`, at a port with the given members, or None if the port passes
-- over it. `skips` says whether the port skips answers, and `alone` whether it takes clients of its host alone. An IPv6
-- address belongs to no client.
abbrev pub receipt_of : Bool → Bool → List SocketAddrV4 → Heard → List ℕ → Option Received
receipt_of skips alone members (Came len address) buffer =
    let sender = sender_of members address in
    if is_passed_over skips sender (take len buffer) || is_barred alone sender then None
    else Some (Datagram sender len)
receipt_of skips alone members Other buffer = Some Fault
receipt_of skips alone members (Failed kind) buffer = failure_of kind
