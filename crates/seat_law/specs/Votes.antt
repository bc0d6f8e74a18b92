-- The votes of an acceptance. Floor: the first free factor of a token at a node.
use Rattle.std.specs.Prelude.{◌≡◌, ◌≢◌, ℕ, suc, ◌≤◌, Bool, true, List, Some, slice_get, take, if◌then◌else◌}
use Rattle.floor_store.specs.Content.{opening_row}
use Rattle.floor_store.specs.Records.{ProposalRecord, RowRecord, span_of}
use Rattle.otp_core.specs.Acceptance.{Acceptance, LetsGo, majority_of, size}
use Rattle.vote_core.specs.Rows.{row}
use Rattle.vote_core.specs.Schedule.{Event, Opening, cluster_before}
use Rattle.seat_law.specs.Seats.{Course, Sites, go, stored_row}

-- the floors of the rows, which are by node, token and event
abbrev pub floors_of : (ℕ → ℕ → ℕ → RowRecord) → ℕ → ℕ → ℕ → ℕ
floors_of rows node token event = (rows node token event).next

-- The node votes for the acceptance in the event: it proposes the factors, or grants them to another node. Its row of
-- the token gets a grant of just these factors, and gives them up for good. All its other rows stay as they are.
-- `rows node token event` is the node's row of the token before the event.
pub record IsVote (rows : ℕ → ℕ → ℕ → RowRecord) (a : Acceptance) (node event : ℕ) : Type 0 where
  pub lets : LetsGo (floors_of rows) a node event
  pub proposal : ProposalRecord
  pub is_new : (rows node a.token event).grant ≢ Some (proposal, span_of a.lo a.hi)
  pub granted : (rows node a.token (suc event)).grant ≡ Some (proposal, span_of a.lo a.hi)
  pub alone : (other : ℕ) → other ≢ a.token → rows node other (suc event) ≡ rows node other event

-- a majority of the nodes 1 to n voted for the acceptance
pub record HasVotes (n : ℕ) (rows : ℕ → ℕ → ℕ → RowRecord) (a : Acceptance) : Type 0 where
  pub nodes : ℕ → Bool
  pub many : majority_of n ≤ size n nodes
  pub each : (node : ℕ) → nodes node ≡ true → (event : ℕ) × IsVote rows a node event

-- a majority of votes for each acceptance
abbrev pub HaveVotes : ℕ → (ℕ → ℕ → ℕ → RowRecord) → List Acceptance → Type 0
HaveVotes n rows accepted = (i : ℕ) (a : Acceptance) → slice_get accepted i ≡ Some a → HasVotes n rows a

-- the node's row of the token before the event of a schedule
abbrev pub row_before : ℕ → ℕ → Opening → List Event → ℕ → ℕ → ℕ → RowRecord
row_before n tokens opening events node token event =
    row ((cluster_before n tokens opening events event).nodes node).content token

-- the row that the node's store has of the token, or an opening row with the floor 0
abbrev pub kept_row : Sites → ℕ → ℕ → RowRecord
kept_row sites node token = if sites.enrolled node token then stored_row sites node token else opening_row 0

-- the same before the event of the given number
abbrev pub row_in : Sites → List Course → ℕ → ℕ → ℕ → RowRecord
row_in sites courses node token event = kept_row (go 0 (take event courses) sites) node token
