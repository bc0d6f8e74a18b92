-- The lines that a gate opens and the answers that it seals in an execution.
use Rattle.std.specs.Prelude.{◌≡◌, ◌⊎◌, ◌≤◌, true, false, ℕ, ◌==◌, ◌&&◌, Bool, List, [], ◌∷◌, ◌++◌, Option, Some, None}
use Rattle.std.specs.List.{AllByRecursion}
use Rattle.replay_window.specs.Window.{last_at}
use Rattle.sealed_wire.specs.Sealed.{sealed_at, sealed_bytes, tag_at}
use Rattle.sealed_wire.specs.declared.head.Head.{Head}
use Rattle.sealed_wire.specs.declared.head.Kind.TheVariants.{Line}
use Rattle.sealed_port.specs.Asked.{AskedRecord, nonce_of}
use Rattle.sealed_port.specs.Draining.{busy_answer, gate_drained, turned_away}
use Rattle.sealed_port.specs.Failures.{is_limited}
use Rattle.sealed_port.specs.Gate.{GateRecord, Sealed, SealedLine, answer_head, asked_of, gate_answered, is_admitted, named, opened}
use Rattle.sealed_port.specs.Requests.{gate_came, gate_taken}
use Rattle.sealed_port.specs.declared.client.Client.{Client}

-- A step of a gate: a datagram comes from an address at a second of the clock, the node or the gate itself answers a
-- client, the oldest request is taken, or the gate drains from now on.
pub data Step : Type 0 where
  Comes : (now : Option ℕ) (address : ℕ) (bytes : List ℕ) → Step
  Answers : (client : ℕ) (answer : List ℕ) → Step
  Takes : Step
  Drains : Step

-- the gate after a step
abbrev pub gate_step : GateRecord → Step → GateRecord
gate_step gate (Comes now address bytes) = gate_came gate now address bytes
gate_step gate (Answers client answer) = gate_answered gate client answer
gate_step gate Takes = gate_taken gate
gate_step gate Drains = gate_drained gate

-- the gate after the steps, in order
abbrev pub gate_run : GateRecord → List Step → GateRecord
gate_run gate [] = gate
gate_run gate (step ∷ steps) = gate_run (gate_step gate step) steps

-- the opened line with its address, or nothing
abbrev pub opening_of : ℕ → Option SealedLine → List AskedRecord
opening_of address None = []
opening_of address (Some line) = asked_of address line ∷ []

-- the lines that a step opens
abbrev pub opened_by : GateRecord → Step → List AskedRecord
opened_by gate (Comes now address bytes) = opening_of address (opened gate now bytes)
opened_by gate (Answers client answer) = []
opened_by gate Takes = []
opened_by gate Drains = []

-- the lines that the steps open, in order
abbrev pub opened_in : GateRecord → List Step → List AskedRecord
opened_in gate [] = []
opened_in gate (step ∷ steps) = opened_by gate step ++ opened_in (gate_step gate step) steps

-- the step by which a gate answers a line that it turned away, if there is one
abbrev pub own_steps : Option SealedLine → List Step
own_steps None = []
own_steps (Some line) = Answers line.client (busy_answer line.line) ∷ []

-- the steps of a gate for a datagram from an address, with what the clock told
abbrev pub steps_for : GateRecord → Option ℕ → ℕ → List ℕ → List Step
steps_for gate now address bytes = Comes now address bytes ∷ own_steps (turned_away gate (opened gate now bytes))

-- an incarnation of a gate's process: the gate at its start, and the steps
pub record GateLife : Type 0 where
  pub gate : GateRecord
  pub steps : List Step

-- the lines that the incarnations open, in order
abbrev pub opened_over : List GateLife → List AskedRecord
opened_over [] = []
opened_over (life ∷ lives) = opened_in life.gate life.steps ++ opened_over lives

-- the clock told the second for a datagram of the steps
abbrev pub WasTold : ℕ → List Step → Type 0
WasTold second [] = ⊥
WasTold second (Comes now address bytes ∷ steps) = (now ≡ Some second) ⊎ WasTold second steps
WasTold second (Answers client answer ∷ steps) = WasTold second steps
WasTold second (Takes ∷ steps) = WasTold second steps
WasTold second (Drains ∷ steps) = WasTold second steps

-- An incarnation of a gate is before a later one. For each client of both, the later window's first mark is at or above
-- every moment that the earlier window could admit.
abbrev pub IsGateBefore : GateLife → GateLife → Type 0
IsGateBefore life later =
    (number second : ℕ) (client next : Client) → WasTold second life.steps →
    named number life.gate.clients ≡ Some client → named number later.gate.clients ≡ Some next →
    last_at second client.window.ahead ≤ next.window.low

-- every incarnation is before all later ones
abbrev pub AreGatesInOrder : List GateLife → Type 0
AreGatesInOrder [] = Unit {0}
AreGatesInOrder (life ∷ lives) = AllByRecursion (IsGateBefore life) lives × AreGatesInOrder lives

-- two lines of the same client and moment
abbrev pub is_same : AskedRecord → AskedRecord → Bool
is_same one other = (one.client == other.client) && (one.moment == other.moment)

-- the line is in the list
abbrev pub IsAmong : List AskedRecord → AskedRecord → Type 0
IsAmong [] one = ⊥
IsAmong (other ∷ others) one = (other ≡ one) ⊎ IsAmong others one

-- A gate's seal of its node's answer to a client. A line that the gate opened is the client's and has the answer's
-- nonce. The answer is sealed under the client's key and bound to the line's tag. It goes to the line's address.
pub record IsAnswerOf (gate : GateRecord) (openings : List AskedRecord) (client : ℕ) (answer : List ℕ)
    (sealed : Sealed) : Type 0 where
  pub line : AskedRecord
  pub is_opened : IsAmong openings line
  pub of_client : line.client ≡ client
  pub of_nonce : line.nonce ≡ nonce_of answer
  pub owner : Client
  pub is_owner : named line.client gate.clients ≡ Some owner
  pub bytes_are : sealed.bytes ≡ sealed_bytes owner.key line.tag (answer_head gate.node line) answer
  pub address_is : sealed.address ≡ line.address

-- the head of a line for a node
abbrev pub line_head : ℕ → SealedLine → Head
line_head node line = record { kind = Line; client = line.client; node = node; moment = line.moment }

-- A gate's opening of a datagram. The client that the line names shares a key with the gate. The datagram is the line,
-- sealed under the key for the gate's node at the line's moment, with its tag. The clock told a second, and the gate
-- admits the line. The client's failures are below the limit.
pub record IsOpenedOf (gate : GateRecord) (now : Option ℕ) (bytes : List ℕ) (line : SealedLine) : Type 0 where
  pub owner : Client
  pub is_owner : named line.client gate.clients ≡ Some owner
  pub reads : sealed_at owner.key [] bytes ≡ Some (line_head gate.node line, line.line)
  pub tag_is : line.tag ≡ tag_at bytes
  pub second : ℕ
  pub told : now ≡ Some second
  pub admitted : is_admitted gate second line ≡ true
  pub unlimited : is_limited gate.failures second line.client ≡ false
