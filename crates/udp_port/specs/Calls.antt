-- The calls of a port's socket, and the events of the port that follow from them.
use Rattle.std.specs.Prelude.{◌≡◌, ℕ, Bool, true, false, List, [], ◌∷◌, ◌++◌, length, Option, Some, None}
use Rattle.std.specs.List.{flat_map}
use Rattle.std.specs.declared.net.socket_addr.SocketAddrV4.{SocketAddrV4}
use Rattle.datagram_port.specs.Port.{PortEvent, Quiet, Faulted, Offered, entries_of_poll}
use Rattle.datagram_port.specs.declared.port.Received.{Received}
use Rattle.datagram_port.specs.declared.port.Received.TheVariants.{Datagram, Quiet as QuietReceive, Fault}
use Rattle.udp_port.specs.declared.calls.Call.{Call}
use Rattle.udp_port.specs.declared.calls.Call.TheVariants.{Hear, Turn, GivenUp, Stuck, Send}
use Rattle.udp_port.specs.Receipt.{receipt_of}

-- the calls of a socket in order, each with the bytes of its buffer
abbrev pub SocketCalls : Type 0
SocketCalls = List (Call × List ℕ)

-- the result of a poll: None if the socket had no datagram
abbrev pub polled_of : Option Received → Option Received
polled_of None = None
polled_of (Some QuietReceive) = None
polled_of (Some Fault) = Some Fault
polled_of (Some (Datagram sender len)) = Some (Datagram sender len)

-- The events of a call with its buffer, at a port with the given members. A datagram that the port passes over has
-- none. A poll that found nothing has none.
abbrev pub events_of_call : Bool → Bool → List SocketAddrV4 → Call × List ℕ → List PortEvent
events_of_call skips alone members (Hear true heard, buffer) =
    entries_of_poll (receipt_of skips alone members heard buffer) buffer
events_of_call skips alone members (Hear false heard, buffer) =
    entries_of_poll (polled_of (receipt_of skips alone members heard buffer)) buffer
events_of_call skips alone members (Turn, bytes) = Quiet ∷ []
events_of_call skips alone members (GivenUp, bytes) = Quiet ∷ []
events_of_call skips alone members (Stuck, bytes) = Faulted ∷ []
events_of_call skips alone members (Send to is_taken, bytes) = Offered to bytes ∷ []

-- the events of a port's calls, in order
abbrev pub events_of_calls : Bool → Bool → List SocketAddrV4 → List (Call × List ℕ) → List PortEvent
events_of_calls skips alone members calls = flat_map (events_of_call skips alone members) calls

-- whether a call is the quiet turn of a receive that passed over its maximum of datagrams
abbrev pub is_given_up : Call → Bool
is_given_up GivenUp = true
is_given_up (Hear waits heard) = false
is_given_up Turn = false
is_given_up Stuck = false
is_given_up (Send to is_taken) = false

-- one more call, which isn't such a turn
pub record IsOneCall (old new : List (Call × List ℕ)) : Type 0 where
  pub call : Call × List ℕ
  pub calls : new ≡ old ++ call ∷ []
  pub goes_on : is_given_up call.0 ≡ false

-- The calls of a receive. It gives up only after `most` others.
pub record Perseveres (most : ℕ) (old new : List (Call × List ℕ)) : Type 0 where
  pub others : List (Call × List ℕ)
  pub last : Call × List ℕ
  pub calls : new ≡ old ++ others ++ last ∷ []
  pub gives_up : is_given_up last.0 ≡ true → length others ≡ most
