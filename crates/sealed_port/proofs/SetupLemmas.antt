-- What stays of a gate, and what it hands in.
use Rattle.std.proofs.Common.{◌≡◌, ℕ, ◌==◌, ◌-◌, ◌^◌, Bool, true, false, cond, List, [], ◌∷◌, ◌++◌, map, Option, Some, None, IfSome, refl, sym, ap, subst, ◌∙◌, inl, inr}
use Rattle.std.specs.Prelude.{nat_le, nat_lt, length}
use Rattle.std.specs.Option.{option_map}
use Rattle.std.proofs.Math.Logic.{∥∥₁_map}
use Rattle.std.proofs.lemmas.List.{append_assoc}
use Rattle.std.proofs.lemmas.Option.{same_Some}
use Rattle.datagram_port.specs.Port.{Grows, PortEvent, Received, Quiet, Faulted, Offered}
use Rattle.datagram_port.specs.Setup.{GateSetup, Keyed, Setup, behind_gate}
use Rattle.datagram_port.specs.declared.port.Sender.{Sender}
use Rattle.datagram_port.specs.declared.port.Sender.TheVariants.{Client as FromClient, Peer}
use Rattle.replay_window.specs.Window.{WindowRecord, with_moment as with_moment_in, with_seen}
use Rattle.sealed_wire.specs.Body.{head_at}
use Rattle.sealed_port.specs.Failures.{FailuresRecord, is_failure}
use Rattle.sealed_port.specs.Gate.{GateRecord, SealedLine, failures_told, gate_answered, gate_with, with_moment}
use Rattle.sealed_port.specs.Aside.{AsideRecord}
use Rattle.sealed_port.specs.Draining.{busy_answer, gate_busied}
use Rattle.sealed_port.specs.Requests.{gate_aside, operator_with, operators_with}
use Rattle.sealed_port.specs.Port.{Opens, PassesOver, Receives, event_of_passed, gate_offered, handed_in, own_offers}
use Rattle.sealed_port.specs.Setup.{AreHeard, IsHandedFor, IsHeard, gate_setup, keyed_of, sealed_setup}
use Rattle.sealed_port.specs.declared.client.Client.{Client}
use Rattle.sealed_port.specs.declared.operator.Operator.{Operator}
use Rattle.sealed_port.specs.declared.cause.Unopened.{Unopened}
use Rattle.sealed_port.proofs.PortLemmas.{all_and_one}

-- ---- what stays of a gate

either : {A B : Type 0} (f : A → B) (b : Bool) (x y : A) (z : B) → f x ≡ z → f y ≡ z → f (cond b x y) ≡ z
either f true x y z h k = h
either f false x y z h k = k

-- an admitted moment leaves the lead over the clock
seen_stays : (window : WindowRecord) (moment : ℕ) → (with_seen window moment).ahead ≡ window.ahead
seen_stays window moment =
    either (λ (w : WindowRecord). w.ahead) (nat_le (length (with_moment_in window.seen moment)) 64) _ _ window.ahead refl refl

abbrev keyed : ℕ → List ℕ → ℕ → Keyed
keyed number key ahead = record { number = number; key = key; ahead = ahead }

one_stays : (number moment : ℕ) (client : Client) → keyed_of (with_moment number moment client) ≡ keyed_of client
one_stays number moment client =
    either keyed_of (client.number == number) (record client { window = with_seen client.window moment }) client (keyed_of client)
    (ap (keyed client.number client.key) (seen_stays client.window moment)) refl

clients_stay : (number moment : ℕ) (clients : List Client) → map keyed_of (map (with_moment number moment) clients) ≡ map keyed_of clients
clients_stay number moment [] = refl
clients_stay number moment (client ∷ clients) =
    ap (λ (one : Keyed). one ∷ map keyed_of (map (with_moment number moment) clients)) (one_stays number moment client)
    ∙ ap (λ (all : List Keyed). keyed_of client ∷ all) (clients_stay number moment clients)

told_stays : (now : Option ℕ) (failures : FailuresRecord) → (failures_told now failures).most ≡ failures.most
told_stays None failures = refl
told_stays (Some now) failures = either (λ (f : FailuresRecord). f.most) _ failures _ failures.most refl refl

abbrev setup_with : ℕ → List Keyed → List Keyed → List ℕ → Option ℕ → GateSetup
setup_with node clients operators plain most = record { node = node; clients = clients; operators = operators; plain = plain; most = most }

setup_is : (node : ℕ) (operators : List Keyed) (plain : List ℕ) {clients same : List Keyed} {most limit : Option ℕ} → clients ≡ same → most ≡ limit
    → setup_with node clients operators plain most ≡ setup_with node same operators plain limit
setup_is node operators plain {clients} {same} {most} {limit} h k =
    ap (λ (all : List Keyed). setup_with node all operators plain most) h ∙ ap (setup_with node same operators plain) k

-- the operators of a gate without their rights and their admitted moments
abbrev holders : List Operator → List Keyed
holders operators = map (λ operator. keyed_of operator.holder) operators

-- a line, opened or not, leaves the setup
pub line_stays : (gate : GateRecord) (now : Option ℕ) (address : ℕ) (line : Option SealedLine) → gate_setup (gate_with gate now address line) ≡ gate_setup gate
line_stays gate now address None = refl
line_stays gate now address (Some line) =
    setup_is gate.node (holders gate.operators) gate.plain (clients_stay line.client line.moment gate.clients) (told_stays now gate.failures)

holders_stay : (number moment : ℕ) (operators : List Operator) → holders (map (operator_with number moment) operators) ≡ holders operators
holders_stay number moment [] = refl
holders_stay number moment (operator ∷ operators) =
    ap (λ (one : Keyed). one ∷ holders (map (operator_with number moment) operators)) (one_stays number moment operator.holder)
    ∙ ap (λ (all : List Keyed). keyed_of operator.holder ∷ all) (holders_stay number moment operators)

asked_stays : (request : Option AsideRecord) (operators : List Operator) → holders (operators_with request operators) ≡ holders operators
asked_stays None operators = refl
asked_stays (Some request) operators = holders_stay request.number request.moment operators

-- a request, set aside or not, leaves the setup
pub aside_stays : (gate : GateRecord) (request : Option AsideRecord) → gate_setup (gate_aside gate request) ≡ gate_setup gate
aside_stays gate request =
    ap (λ (all : List Keyed). setup_with gate.node (map keyed_of gate.clients) all gate.plain gate.failures.most) (asked_stays request gate.operators)

-- an answer leaves the setup
pub answer_stays : (gate : GateRecord) (client : ℕ) (answer : List ℕ) → gate_setup (gate_answered gate client answer) ≡ gate_setup gate
answer_stays gate client answer =
    ap (setup_with gate.node (map keyed_of gate.clients) (holders gate.operators) gate.plain) (either (λ (f : FailuresRecord). f.most) (is_failure answer) _ gate.failures gate.failures.most refl refl)

-- so does the gate's own answer
pub busied_stays : (gate : GateRecord) (line : Option SealedLine) → gate_setup (gate_busied gate line) ≡ gate_setup gate
busied_stays gate None = refl
busied_stays gate (Some line) = answer_stays gate line.client (busy_answer line.line)

-- an offer leaves the setup
pub offer_stays : (gate : GateRecord) (to : Sender) (bytes : List ℕ) → gate_setup (gate_offered gate to bytes) ≡ gate_setup gate
offer_stays gate (Peer number) bytes = refl
offer_stays gate (FromClient number) bytes =
    either gate_setup (nat_lt number (2 ^ 48)) gate _ (gate_setup gate) refl
    (either gate_setup (nat_lt (number - 2 ^ 48) (2 ^ 16)) (gate_answered gate (number - 2 ^ 48) bytes) gate (gate_setup gate) (answer_stays gate (number - 2 ^ 48) bytes) refl)

-- ---- what is handed in

heard_on : (setup : GateSetup) (below added : List PortEvent) (event : PortEvent) → IsHeard setup below event → IsHeard setup (below ++ added) event
heard_on setup below added (Received sender bytes) h = record {
  before = h.before;
  received = h.received;
  after = h.after ++ added;
  is_received = ap (λ (xs : List PortEvent). xs ++ added) h.is_received ∙ append_assoc h.before (h.received ∷ h.after) added;
  gate = h.gate;
  of_setup = h.of_setup;
  now = h.now;
  handed = h.handed;
}
heard_on setup below added Quiet h = tt
heard_on setup below added Faulted h = tt
heard_on setup below added (Offered to bytes) h = tt

all_on : (setup : GateSetup) (below added events : List PortEvent) → AreHeard setup below events → AreHeard setup (below ++ added) events
all_on setup below added [] h = tt
all_on setup below added (event ∷ events) h = (heard_on setup below added event h.0, all_on setup below added events h.1)

-- The record of the port below grows.
heard_more : (setup : GateSetup) (old new : Option (List PortEvent)) (added events : List PortEvent) → Grows old new added
    → IfSome old (λ below. AreHeard setup below events) → IfSome new (λ below. AreHeard setup below events)
heard_more setup old None added events grows h = tt
heard_more setup None (Some below) added events grows h = absurd cc
heard_more setup (Some before) (Some below) added events grows h =
    subst (λ (xs : List PortEvent). AreHeard setup xs events) (same_Some (before ++ added) below grows) (all_on setup before added events h)

one_heard : (setup : GateSetup) (below : Option (List PortEvent)) (events : List PortEvent) (event : PortEvent) → IfSome below (λ kept. AreHeard setup kept events)
    → IfSome below (λ kept. IsHeard setup kept event) → IfSome below (λ kept. AreHeard setup kept (events ++ event ∷ []))
one_heard setup None events event h k = tt
one_heard setup (Some below) events event h k = all_and_one (IsHeard setup below) events event h k

-- the gate handed in the last event that the port below received
last_heard : (setup : GateSetup) (old new : Option (List PortEvent)) (passed offers : List PortEvent) (gate : GateRecord) (now : Option ℕ) (received event : PortEvent)
    → Grows old new (passed ++ received ∷ offers) → gate_setup gate ≡ setup → handed_in gate now received ≡ Some event → IfSome new (λ kept. IsHeard setup kept event)
last_heard setup old None passed offers gate now received event grows is handed = tt
last_heard setup None (Some below) passed offers gate now received event grows is handed = absurd cc
last_heard setup (Some before) (Some below) passed offers gate now received (Received sender bytes) grows is handed = record {
  before = before ++ passed;
  received = received;
  after = offers;
  is_received =
      sym (same_Some (before ++ (passed ++ received ∷ offers)) below grows) ∙ sym (append_assoc before passed (received ∷ offers));
  gate = gate;
  of_setup = is;
  now = now;
  handed = handed;
}
last_heard setup (Some before) (Some below) passed offers gate now received Quiet grows is handed = tt
last_heard setup (Some before) (Some below) passed offers gate now received Faulted grows is handed = tt
last_heard setup (Some before) (Some below) passed offers gate now received (Offered to bytes) grows is handed = tt

quiet_heard : (setup : GateSetup) (below : Option (List PortEvent)) → IfSome below (λ kept. IsHeard setup kept Quiet)
quiet_heard setup None = tt
quiet_heard setup (Some below) = tt

offer_heard : (setup : GateSetup) (to : Sender) (bytes : List ℕ) (below : Option (List PortEvent)) → IfSome below (λ kept. IsHeard setup kept (Offered to bytes))
offer_heard setup to bytes None = tt
offer_heard setup to bytes (Some below) = tt

-- an offer
offers_heard : (setup : GateSetup) (old new : Option (List PortEvent)) (added events : List PortEvent) (to : Sender) (bytes : List ℕ) → Grows old new added
    → IfSome old (λ below. AreHeard setup below events) → IfSome new (λ below. AreHeard setup below (events ++ Offered to bytes ∷ []))
offers_heard setup old new added events to bytes grows h =
    one_heard setup new events (Offered to bytes) (heard_more setup old new added events grows h) (offer_heard setup to bytes new)

module _ {old_port new_port : Option (List PortEvent)} {old_clock new_clock : Option (List (Option ℕ))} {old new : GateRecord} {before after : Unopened}
    (events : List PortEvent) (stays : gate_setup new ≡ gate_setup old) (h : IfSome old_port (λ below. AreHeard (gate_setup old) below events)) where
  -- nothing that the gate passed over is heard
  passes_heard : (number : ℕ) → PassesOver old_port new_port old_clock new_clock old new before after number
      → IfSome new_port (λ below. AreHeard (gate_setup new) below events)
  passes_heard number p =
      subst (λ (setup : GateSetup). IfSome new_port (λ below. AreHeard setup below events)) (sym stays)
      (heard_more (gate_setup old) old_port new_port _ events p.port h)

  module _ {handed : PortEvent} where
    -- what the gate opened is heard
    opens_heard : Opens old_port new_port old_clock new_clock old new before after handed
        → IfSome new_port (λ below. AreHeard (gate_setup new) below (events ++ handed ∷ []))
    opens_heard o =
        subst (λ (setup : GateSetup). IfSome new_port (λ below. AreHeard setup below (events ++ handed ∷ []))) (sym stays)
        (one_heard (gate_setup old) new_port events handed (heard_more (gate_setup old) old_port new_port _ events o.port h)
        (last_heard (gate_setup old) old_port new_port (map event_of_passed o.passed) (own_offers old o.now o.received) old o.now o.received handed o.port refl o.handed_is))

    -- a receive over the gate
    receives_heard : Receives old_port new_port old_clock new_clock old new before after handed
        → IfSome new_port (λ below. AreHeard (gate_setup new) below (events ++ handed ∷ []))
    receives_heard (inl o) = opens_heard o
    receives_heard (inr p) =
        one_heard (gate_setup new) new_port events handed (passes_heard (2 ^ 64 - 1) p.0)
        (subst (λ (event : PortEvent). IfSome new_port (λ kept. IsHeard (gate_setup new) kept event)) (sym p.1) (quiet_heard (gate_setup new) new_port))

-- ---- the port's record

-- what the gate handed in, at a port below with a record
abbrev pub HasHeard : GateRecord → Option (List PortEvent) → List PortEvent → Type 0
HasHeard gate below events = ∥ IfSome below (λ kept. AreHeard (gate_setup gate) kept events) ∥₁

-- no event
pub none_heard : (gate : GateRecord) (below : Option (List PortEvent)) → HasHeard gate below []
none_heard gate None = ∣ tt ∣₁
none_heard gate (Some kept) = ∣ tt ∣₁

-- another state of the gate
pub heard_still : (old new : GateRecord) (below : Option (List PortEvent)) (events : List PortEvent) → gate_setup new ≡ gate_setup old → HasHeard old below events
    → HasHeard new below events
heard_still old new below events stays h = subst (λ (setup : GateSetup). ∥ IfSome below (λ kept. AreHeard setup kept events) ∥₁) (sym stays) h

-- more events of the port below
pub heard_below : (gate : GateRecord) (old new : Option (List PortEvent)) (added events : List PortEvent) → Grows old new added → HasHeard gate old events
    → HasHeard gate new events
heard_below gate old new added events grows h = ∥∥₁_map h (heard_more (gate_setup gate) old new added events grows)

-- an offer
pub heard_offer : (old new : GateRecord) (below more : Option (List PortEvent)) (added events : List PortEvent) (to : Sender) (bytes : List ℕ)
    → gate_setup new ≡ gate_setup old → Grows below more added → HasHeard old below events → HasHeard new more (events ++ Offered to bytes ∷ [])
heard_offer old new below more added events to bytes stays grows h =
    heard_still old new more (events ++ Offered to bytes ∷ []) stays (∥∥₁_map h (offers_heard (gate_setup old) below more added events to bytes grows))

module _ {old_port new_port : Option (List PortEvent)} {old_clock new_clock : Option (List (Option ℕ))} {old new : GateRecord} {before after : Unopened}
    (events : List PortEvent) (stays : gate_setup new ≡ gate_setup old) (h : HasHeard old old_port events) where
  -- a receive
  pub heard_receive : {handed : PortEvent} → Receives old_port new_port old_clock new_clock old new before after handed → HasHeard new new_port (events ++ handed ∷ [])
  heard_receive received = ∥∥₁_map h (λ k. receives_heard events stays k received)

  -- a poll that finds something
  pub heard_found : {handed : PortEvent} → Opens old_port new_port old_clock new_clock old new before after handed → HasHeard new new_port (events ++ handed ∷ [])
  heard_found opens = ∥∥₁_map h (λ k. opens_heard events stays k opens)

  -- a poll that finds nothing
  pub heard_nothing : (number : ℕ) → PassesOver old_port new_port old_clock new_clock old new before after number → HasHeard new new_port events
  heard_nothing number passes = ∥∥₁_map h (λ k. passes_heard events stays k number passes)

-- The setup of the gate's port stays, if the gate's and that of the port below do.
pub setup_stays : (old new : GateRecord) (old_setup new_setup : Option Setup) → gate_setup new ≡ gate_setup old → new_setup ≡ old_setup
    → sealed_setup new new_setup ≡ sealed_setup old old_setup
setup_stays old new old_setup new_setup h k =
    ap (λ (gate : GateSetup). option_map (behind_gate gate) new_setup) h ∙ ap (option_map (behind_gate (gate_setup old))) k

-- ---- one event of the port below

-- in no record nothing was received
pub none_received : (before after : List PortEvent) (received : PortEvent) → [] ≡ before ++ received ∷ after → ⊥
none_received [] after received e = absurd cc
none_received (event ∷ before) after received e = absurd cc

-- in a record of one event it was received
one_received : (event : PortEvent) (before after : List PortEvent) (received : PortEvent) → event ∷ [] ≡ before ++ received ∷ after → event ≡ received
one_received event [] after received e = cc
one_received event (other ∷ before) after received e =
    let rest : [] ≡ before ++ received ∷ after = cc in
    absurd (none_received before after received rest)

-- so the gate handed in that event
pub handed_for : (setup : GateSetup) (below event : PortEvent) (h : IsHandedFor setup (below ∷ []) event) → handed_in h.gate h.now below ≡ Some event
handed_for setup below event h =
    ap (λ (received : PortEvent). handed_in h.gate h.now received) (one_received below h.before h.after h.received h.is_received) ∙ h.handed

unsealed : (address byte : ℕ) (plain : List ℕ) (gate : GateRecord) (now : Option ℕ) → plain ≡ []
    → handed_in (record gate { plain = plain }) now (Received (FromClient address) (byte ∷ [])) ≡ None
unfolding head_at
unsealed address byte plain gate now is =
    ap (λ (p : List ℕ). handed_in (record gate { plain = p }) now (Received (FromClient address) (byte ∷ []))) is

-- a byte is no sealed line
pub byte_unsealed : (address byte : ℕ) (gate : GateRecord) (now : Option ℕ) → gate.plain ≡ []
    → handed_in gate now (Received (FromClient address) (byte ∷ [])) ≡ None
byte_unsealed address byte gate now is = unsealed address byte gate.plain gate now is
