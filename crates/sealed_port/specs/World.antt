-- The use of a key by a client and by the gates that have it.
use Rattle.std.specs.Prelude.{◌≡◌, ℕ, List, [], ◌∷◌, Option, Some}
use Rattle.sealed_wire.specs.Bytes.{AreBytes}
use Rattle.sealed_wire.specs.Making.{IsMade, IsUnforged, Making}
use Rattle.sealed_wire.specs.declared.head.Head.{Head}
use Rattle.sealed_wire.specs.declared.head.Kind.TheVariants.{Answer}
use Rattle.sealed_port.specs.Asked.{AskedRecord, line_at, nonce_in, nonce_of}
use Rattle.sealed_port.specs.Gate.{GateRecord, Sealed, answer_head, answered, answered_place, named}
use Rattle.sealed_port.specs.Runs.{IsAmong, Step, Comes, Answers, Drains, Takes, gate_run, opened_in}
use Rattle.sealed_port.specs.declared.client.Client.{Client}

-- the remembered line that an answer of the node answers
abbrev pub answered_line : GateRecord → ℕ → List ℕ → Option AskedRecord
answered_line gate client answer = line_at (answered_place gate client answer) gate.asked

-- the client has the key at a gate, if the gate knows the client
abbrev pub HasKey : List ℕ → ℕ → GateRecord → Type 0
HasKey key client gate = (owner : Client) → named client gate.clients ≡ Some owner → owner.key ≡ key

-- no line in the steps is forged under the key
abbrev pub ComeUnforged : List ℕ → List Making → List Step → Type 0
ComeUnforged key made [] = Unit {0}
ComeUnforged key made (Comes now address bytes ∷ steps) =
    AreBytes bytes × IsUnforged key made [] bytes × ComeUnforged key made steps
ComeUnforged key made (Answers client answer ∷ steps) = ComeUnforged key made steps
ComeUnforged key made (Takes ∷ steps) = ComeUnforged key made steps
ComeUnforged key made (Drains ∷ steps) = ComeUnforged key made steps

-- the making of a gate's sealed answer to a line
abbrev pub sealing : ℕ → AskedRecord → List ℕ → Making
sealing node line answer = record { bound = line.tag; head = answer_head node line; text = answer }

-- The gate of a node sealed the answer for a client. At its start it remembered no line. The client has the key at the
-- gate, and no datagram was forged. After the steps the gate sealed the node's answer to a remembered line.
pub record WasSealed (key : List ℕ) (made : List Making) (client : ℕ) (making : Making) : Type 0 where
  pub gate : GateRecord
  pub steps : List Step
  pub line : AskedRecord
  pub sealed : Sealed
  pub fresh : gate.asked ≡ []
  pub has_key : HasKey key client gate
  pub unforged : ComeUnforged key made steps
  pub answers : answered_line (gate_run gate steps) client making.text ≡ Some line
  pub is_sealed : answered (gate_run gate steps) client making.text ≡ Some sealed
  pub making_is : making ≡ sealing gate.node line making.text

-- gates sealed all answers that were made under the key
abbrev pub GatesAnswer : List ℕ → List Making → ℕ → Type 0
GatesAnswer key made client =
    (making : Making) → IsMade made making → making.head.kind ≡ Answer → WasSealed key made client making

-- A datagram is the node's answer to a client's line. In one run, which began without a remembered line, the gate of
-- the line's node opened exactly the line at its moment, and then sealed the datagram. The datagram is the node's
-- answer to the line's client, with the line's nonce. It goes to the address that the line came from. Its head repeats
-- the line's.
pub record IsAnswered (line : Making) (head : Head) (answer bytes : List ℕ) : Type 0 where
  pub gate : GateRecord
  pub steps : List Step
  pub opening : AskedRecord
  pub fresh : gate.asked ≡ []
  pub of_node : gate.node ≡ line.head.node
  pub is_opened : IsAmong (opened_in gate steps) opening
  pub of_client : opening.client ≡ line.head.client
  pub line_is : opening.line ≡ line.text
  pub moment_is : opening.moment ≡ line.head.moment
  pub of_nonce : nonce_in line.text ≡ nonce_of answer
  pub sealed_is : answered (gate_run gate steps) line.head.client answer
      ≡ Some (record { address = opening.address; bytes = bytes })
  pub head_is : head ≡ record line.head { kind = Answer }
