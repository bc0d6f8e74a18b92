-- The records of the calls of a port and a clock.
use Rattle.std.specs.Prelude.{◌≡◌, ℕ, ◌≤◌, ⊤, List, [], ◌∷◌, ◌++◌, take, Option, Some, None, IfSome}
use Rattle.std.specs.Option.{option_map}
use Rattle.datagram_port.specs.declared.port.Sender.{Sender}
use Rattle.datagram_port.specs.declared.port.Received.{Received as Receive}
use Rattle.datagram_port.specs.declared.port.Received.TheVariants.{Datagram, Quiet as QuietReceive, Fault}

-- an event in a port's record: the result of a receive, or an offered datagram, whether the port took it or not
pub data PortEvent : Type 0 where
  Received : (sender : Sender) (bytes : List ℕ) → PortEvent
  Quiet : PortEvent
  Faulted : PortEvent
  Offered : (to : Sender) (bytes : List ℕ) → PortEvent

-- the event of a receive that left `buffer`
abbrev pub event_of_receive : Receive → List ℕ → PortEvent
event_of_receive (Datagram sender len) buffer = Received sender (take len buffer)
event_of_receive QuietReceive buffer = Quiet
event_of_receive Fault buffer = Faulted

-- the datagram's length is at most the buffer's
abbrev pub IsWithin : Receive → Type 0
IsWithin (Datagram sender len) = len ≤ 512
IsWithin QuietReceive = ⊤
IsWithin Fault = ⊤

-- the events that a poll that left `buffer` adds to a port's record: none if the poll found nothing
abbrev pub entries_of_poll : Option Receive → List ℕ → List PortEvent
entries_of_poll None buffer = []
entries_of_poll (Some received) buffer = event_of_receive received buffer ∷ []

-- A record at the end is the earlier record followed by `added`.
abbrev pub Grows : {A : Type 0} → Option (List A) → Option (List A) → List A → Type 0
Grows old new added = IfSome new (λ now. option_map (λ before. before ++ added) old ≡ Some now)
