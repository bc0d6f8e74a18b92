-- The datagrams that a gate passes to the node and to its port, and those that it passes over.
use Rattle.std.specs.Prelude.{◌≡◌, ◌⊎◌, ◌≤◌, ℕ, ◌+◌, ◌-◌, ◌^◌, nat_lt, if◌then◌else◌, List, [], ◌∷◌, ◌++◌, map, length, Option, Some, None}
use Rattle.std.specs.List.{AllByRecursion}
use Rattle.datagram_port.specs.Port.{Grows, PortEvent, Received, Quiet, Faulted, Offered}
use Rattle.datagram_port.specs.declared.port.Received.{Received as Receive}
use Rattle.datagram_port.specs.declared.port.Received.TheVariants.{Datagram, Quiet as QuietReceive, Fault}
use Rattle.datagram_port.specs.declared.port.Sender.{Sender}
use Rattle.datagram_port.specs.declared.port.Sender.TheVariants.{Client, Peer}
use Rattle.sealed_port.specs.Aside.{AsideRecord}
use Rattle.sealed_port.specs.Causes.{counted}
use Rattle.sealed_port.specs.Draining.{busied, gate_busied, gate_handled, own_answer, turned_away, turns_away}
use Rattle.sealed_port.specs.Gate.{GateRecord, Sealed, SealedLine, answered, gate_answered, gate_with, is_plain, opened}
use Rattle.sealed_port.specs.Requests.{asks, cause_came, requested}
use Rattle.sealed_port.specs.declared.cause.Unopened.{Unopened}

-- the number of a client at the node
abbrev pub node_number : ℕ → ℕ
node_number client = 2 ^ 48 + client

-- the event in place of a line or a request that a gate keeps: an empty datagram of member 0, which no cluster has
abbrev pub nothing_handed : PortEvent
nothing_handed = Received (Peer 0) []

-- the event for an opened line, or None if nothing was opened; a gate that drains keeps a line that it turns away
abbrev pub handed_line : GateRecord → Option SealedLine → Option PortEvent
handed_line gate None = None
handed_line gate (Some line) =
    Some (if turns_away gate line then nothing_handed else Received (Client (node_number line.client)) line.line)

-- the event in place of a request that was set aside, or None
abbrev pub handed_request : Option AsideRecord → Option PortEvent
handed_request None = None
handed_request (Some request) = Some nothing_handed

-- the event for a datagram of a client or an operator
abbrev pub handed_sealed : GateRecord → Option ℕ → ℕ → List ℕ → Option PortEvent
handed_sealed gate now address bytes =
    if asks bytes then handed_request (requested gate now address bytes) else handed_line gate (opened gate now bytes)

-- the result of a receive in place of a request that was set aside, or None
abbrev pub stand_in : Option AsideRecord → Option Receive
stand_in None = None
stand_in (Some request) = Some (Datagram (Peer 0) 0)

-- the event for a client's datagram
abbrev pub handed_client : GateRecord → Option ℕ → ℕ → List ℕ → Option PortEvent
handed_client gate now address bytes =
    if is_plain gate address then Some (Received (Client address) bytes) else handed_sealed gate now address bytes

-- The event that a gate hands in for an event of the port below, with what the clock told. None: the gate passes over
-- it. That is so exactly for a datagram that it doesn't open, of a client that must not speak plainly.
abbrev pub handed_in : GateRecord → Option ℕ → PortEvent → Option PortEvent
handed_in gate now (Received (Client address) bytes) = handed_client gate now address bytes
handed_in gate now (Received (Peer number) bytes) = Some (Received (Peer number) bytes)
handed_in gate now Quiet = Some Quiet
handed_in gate now Faulted = Some Faulted
handed_in gate now (Offered to bytes) = Some (Offered to bytes)

-- the gate after an event of the port below
abbrev pub gate_after : GateRecord → Option ℕ → PortEvent → GateRecord
gate_after gate now (Received (Client address) bytes) =
    if is_plain gate address then gate else gate_handled gate now address bytes
gate_after gate now (Received (Peer number) bytes) = gate
gate_after gate now Quiet = gate
gate_after gate now Faulted = gate
gate_after gate now (Offered to bytes) = gate

-- what the clock tells for an event: the gate asks it once for a client that must not speak plainly, else not at all
abbrev pub told_for : GateRecord → Option ℕ → PortEvent → List (Option ℕ)
told_for gate now (Received (Client address) bytes) = if is_plain gate address then [] else now ∷ []
told_for gate now (Received (Peer number) bytes) = []
told_for gate now Quiet = []
told_for gate now Faulted = []
told_for gate now (Offered to bytes) = []

-- the numbers of unopened datagrams after an event; a datagram that the gate opens has no cause
abbrev pub counted_after : GateRecord → Unopened → Option ℕ → PortEvent → Unopened
counted_after gate unopened now (Received (Client address) bytes) =
    if is_plain gate address then unopened else counted unopened (cause_came gate now address bytes)
counted_after gate unopened now (Received (Peer number) bytes) = unopened
counted_after gate unopened now Quiet = unopened
counted_after gate unopened now Faulted = unopened
counted_after gate unopened now (Offered to bytes) = unopened

-- the offer of a sealed answer
abbrev pub offer_of : Option Sealed → List PortEvent
offer_of None = []
offer_of (Some sealed) = Offered (Client sealed.address) sealed.bytes ∷ []

-- a gate's own offers for an event of the port below: its answer to a line that it turns away
abbrev pub own_offers : GateRecord → Option ℕ → PortEvent → List PortEvent
own_offers gate now (Received (Client address) bytes) =
    if is_plain gate address then [] else offer_of (own_answer gate now address bytes)
own_offers gate now (Received (Peer number) bytes) = []
own_offers gate now Quiet = []
own_offers gate now Faulted = []
own_offers gate now (Offered to bytes) = []

-- The offers for an offer of the node. An answer to a client that speaks plainly passes unchanged.
abbrev pub offered : GateRecord → Sender → List ℕ → List PortEvent
offered gate (Peer number) bytes = Offered (Peer number) bytes ∷ []
offered gate (Client number) bytes =
    if nat_lt number (2 ^ 48) then Offered (Client number) bytes ∷ []
    else if nat_lt (number - 2 ^ 48) (2 ^ 16) then offer_of (answered gate (number - 2 ^ 48) bytes)
    else []

-- the gate after an offer of the node
abbrev pub gate_offered : GateRecord → Sender → List ℕ → GateRecord
gate_offered gate (Peer number) bytes = gate
gate_offered gate (Client number) bytes =
    if nat_lt number (2 ^ 48) then gate
    else if nat_lt (number - 2 ^ 48) (2 ^ 16) then gate_answered gate (number - 2 ^ 48) bytes
    else gate

-- the address and the length of a datagram from a client that must not speak plainly
abbrev pub sealed_from : GateRecord → Receive → Option (ℕ × ℕ)
sealed_from gate (Datagram (Client address) len) = if is_plain gate address then None else Some (address, len)
sealed_from gate (Datagram (Peer number) len) = None
sealed_from gate QuietReceive = None
sealed_from gate Fault = None

-- ---- what is passed over

-- a client's datagram that a gate passed over, with what the clock told when it came
pub record Passed : Type 0 where
  pub now : Option ℕ
  pub address : ℕ
  pub bytes : List ℕ

-- its event at the port below
abbrev pub event_of_passed : Passed → PortEvent
event_of_passed passed = Received (Client passed.address) passed.bytes

-- a gate passes over each of the datagrams
abbrev pub ArePassedOver : GateRecord → List Passed → Type 0
ArePassedOver gate passed = AllByRecursion (λ one. handed_in gate one.now (event_of_passed one) ≡ None) passed

-- the numbers of unopened datagrams after a gate passed over some
abbrev pub counted_over : GateRecord → Unopened → List Passed → Unopened
counted_over gate unopened [] = unopened
counted_over gate unopened (one ∷ passed) =
    counted_over gate (counted unopened (cause_came gate one.now one.address one.bytes)) passed

-- A gate's handling of a line that it opened. It hands in what `handed_line` says. It offers its own answer if it turns
-- the line away.
pub record TakesLine (old new : GateRecord) (now : Option ℕ) (address : ℕ) (line : SealedLine)
    (old_port new_port : Option (List PortEvent)) (handed : PortEvent) : Type 0 where
  pub handed_is : Some handed ≡ handed_line old (Some line)
  pub port : Grows old_port new_port
      (offer_of (busied (gate_with old now address (Some line)) (turned_away old (Some line))))
  pub gate_is : new ≡ gate_busied (gate_with old now address (Some line)) (turned_away old (Some line))

-- A gate's handling of a datagram from an address whose clients must not speak plainly. It asks the clock, hands in
-- what `handed_sealed` says, offers its own answer, and counts a datagram that it doesn't open.
pub record Handles (old_port new_port : Option (List PortEvent)) (old_clock new_clock : Option (List (Option ℕ)))
    (old new : GateRecord) (before after : Unopened) (address : ℕ) (bytes : List ℕ) (handed : Option PortEvent)
    : Type 0 where
  pub now : Option ℕ
  pub clock : Grows old_clock new_clock (now ∷ [])
  pub port : Grows old_port new_port (offer_of (own_answer old now address bytes))
  pub handed_is : handed ≡ handed_sealed old now address bytes
  pub gate_is : new ≡ gate_handled old now address bytes
  pub counts : after ≡ counted before (cause_came old now address bytes)

-- A gate's handling of one event of the port below. It asks the clock as `told_for` says, and offers what `own_offers`
-- says. It hands in what `handed_in` says, and is then the gate of `gate_after`. It counts a datagram that it passes
-- over.
pub record TakesIn (old_port new_port : Option (List PortEvent)) (old_clock new_clock : Option (List (Option ℕ)))
    (old new : GateRecord) (before after : Unopened) (received : PortEvent) (handed : Option PortEvent)
    : Type 0 where
  pub now : Option ℕ
  pub port : Grows old_port new_port (own_offers old now received)
  pub clock : Grows old_clock new_clock (told_for old now received)
  pub handed_is : handed ≡ handed_in old now received
  pub gate_is : new ≡ gate_after old now received
  pub counts : after ≡ counted_after old before now received

-- Datagrams that a gate passed over, a given number of them. The port below received them, and the clock told a moment
-- for each. The gate stays as it is.
pub record PassesOver (old_port new_port : Option (List PortEvent)) (old_clock new_clock : Option (List (Option ℕ)))
    (old new : GateRecord) (before after : Unopened) (number : ℕ) : Type 0 where
  pub passed : List Passed
  pub are_passed_over : ArePassedOver old passed
  pub many : length passed ≡ number
  pub port : Grows old_port new_port (map event_of_passed passed)
  pub clock : Grows old_clock new_clock (map (λ one. one.now) passed)
  pub gate_is : new ≡ old
  pub counts : after ≡ counted_over old before passed

-- A receive or a poll over a gate. The port below received the datagrams that the gate passed over, and then one event
-- that the gate handed in. The gate's own answer to that one follows, if it is a line that it turns away.
pub record Opens (old_port new_port : Option (List PortEvent)) (old_clock new_clock : Option (List (Option ℕ)))
    (old new : GateRecord) (before after : Unopened) (handed : PortEvent) : Type 0 where
  pub passed : List Passed
  pub are_passed_over : ArePassedOver old passed
  pub received : PortEvent
  pub now : Option ℕ
  pub port : Grows old_port new_port (map event_of_passed passed ++ received ∷ own_offers old now received)
  pub clock : Grows old_clock new_clock (map (λ one. one.now) passed ++ told_for old now received)
  pub handed_is : handed_in old now received ≡ Some handed
  pub gate_is : new ≡ gate_after old now received
  pub counts : after ≡ counted_over old before passed

-- A receive over a gate: it hands in an event, or it is quiet after it passed over its maximum of 2^64 - 1 datagrams.
abbrev pub Receives : Option (List PortEvent) → Option (List PortEvent) → Option (List (Option ℕ))
    → Option (List (Option ℕ)) → GateRecord → GateRecord → Unopened → Unopened → PortEvent → Type 0
Receives old_port new_port old_clock new_clock old new before after handed =
    Opens old_port new_port old_clock new_clock old new before after handed
    ⊎ (PassesOver old_port new_port old_clock new_clock old new before after (2 ^ 64 - 1) × (handed ≡ Quiet))

-- a poll over a gate: it hands in an event, or finds nothing after it passed over at most 64 datagrams
abbrev pub Polls : Option (List PortEvent) → Option (List PortEvent) → Option (List (Option ℕ))
    → Option (List (Option ℕ)) → GateRecord → GateRecord → Unopened → Unopened → Option PortEvent → Type 0
Polls old_port new_port old_clock new_clock old new before after None =
    (number : ℕ) × (number ≤ 64) × PassesOver old_port new_port old_clock new_clock old new before after number
Polls old_port new_port old_clock new_clock old new before after (Some handed) =
    Opens old_port new_port old_clock new_clock old new before after handed
