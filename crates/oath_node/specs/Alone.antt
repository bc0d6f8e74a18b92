-- A node that is alone, beside the reference server. Floor: the first free factor of a token.
use Rattle.std.specs.Prelude.{◌≡◌, ℕ, ℤ, ◌+◌, ◌≤◌, true, List, [], ◌∷◌, map}
use Rattle.std.specs.Option.{option_map}
use Rattle.otp_core.specs.Gate.{GateRecord}
use Rattle.admit_core.specs.Throttle.{Result, gate_after}
use Rattle.floor_store.specs.Content.{Content}
use Rattle.floor_store.specs.Records.{PassRecord}
use Rattle.vote_core.specs.NodeSet.{PlaceRecord}
use Rattle.oath_node.specs.Machine.{Made, NodeState}
use Rattle.oath_node.specs.ReferenceServer.{Line, Server, Service, TokenSpan}

-- the place of a single node
abbrev pub alone_place : PlaceRecord
alone_place = record { me = 1; n = 1 }

-- the floor of each row
abbrev pub floors_in : Content → List ℕ
floors_in content = map (λ row. row.next) content.rows

-- the gate of each row
abbrev pub gates_in : Content → List GateRecord
gates_in content = map (λ row. row.gate) content.rows

-- the drift of each row
abbrev pub drifts_in : Content → List ℤ
drifts_in content = map (λ row. row.drift) content.rows

-- the gates of the results of each token
abbrev pub gates_of : List (List Result) → List GateRecord
gates_of results = map gate_after results

-- A running node in the state of the reference server. Nothing waits, and it keeps the server's answers. Its rows have
-- the server's floors and drifts, and the gates of the server's results. It has begun at most `count` proposals.
pub record IsAlone (count : ℕ) (state : NodeState) (server : Server) : Type 0 where
  pub running : state.running ≡ true
  pub pending : state.voter.pending ≡ []
  pub owners : state.owners ≡ []
  pub answers : state.answers ≡ server.front.answers
  pub floors : floors_in state.content ≡ server.floors
  pub gates : gates_in state.content ≡ gates_of server.front.results
  pub drifts : drifts_in state.content ≡ server.front.drifts
  pub begun : state.voter.seq ≤ count

-- the factors that a pass uses up
abbrev pub token_span_of : PassRecord → TokenSpan
token_span_of pass = record { token = pass.token; lo = pass.lo; hi = pass.hi }

-- The result of a line is the reference server's service. Nothing is sent, the one reply is the server's, the pass is
-- the accepted span, and the next state is the server's next state.
pub record ServesAlone (count : ℕ) (made : Made) (line : Line) (service : Service) : Type 0 where
  pub sends : made.sends ≡ []
  pub replies : made.replies ≡ record { client = line.client; bytes = service.told.bytes } ∷ []
  pub pass : option_map token_span_of made.pass ≡ service.told.accepted
  pub state : IsAlone (count + 1) made.state service.server
