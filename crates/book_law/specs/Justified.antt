-- The justification of an acceptance by the line with which it began, in terms of the history. The book and the limits
-- are those of the process that took the line. Floor: the first free factor of a token at a node.
use Rattle.std.specs.Prelude.{◌≡◌, ℕ, ℤ, pos, true, List, take, Option, Some, None, slice_get}
use Rattle.otp_core.specs.Acceptance.{Acceptance}
use Rattle.admit_core.specs.Throttle.{Result}
use Rattle.floor_store.specs.Content.{Content}
use Rattle.vote_core.specs.Rows.{row}
use Rattle.oath_node.specs.Machine.{NodeEvent, Client}
use Rattle.cluster_sim.specs.Justified.{IsGround}
use Rattle.book_law.specs.Lives.{Action, Takes, StopsIn, Process, Setting, State, Store, Terms, Up, floor_in, row_of, state_of, store_at}
use Rattle.book_law.specs.Results.{results_in}

-- the drift in the row, 0 without a row
abbrev pub drift_in_row : Content → Option ℕ → ℤ
drift_in_row content None = pos 0
drift_in_row content (Some number) = (row content number).drift

-- the drift of the token in the store, 0 if it has no row for it
abbrev pub drift_of : Store → ℕ → ℤ
drift_of store token = drift_in_row store.content (row_of store token)

-- the drift of a token in the node's store before the action of the given number
abbrev pub drift_in : Setting → List Action → ℕ → ℕ → ℕ → ℤ
drift_in setting history node token event =
    drift_of (store_at ((state_of setting (take event history)).processes node)) token

-- The line at the moment justifies the acceptance under the terms. It is for the user of the number whose seat has the
-- acceptance's token.
pub record IsGroundUnder (terms : Terms) (moment : ℕ) (line : List ℕ) (next : ℕ) (drift : ℤ) (results : List Result)
    (accepted : Acceptance) : Type 0 where
  pub number : ℕ
  pub seat : slice_get terms.seats number ≡ Some accepted.token
  pub ground : IsGround terms.config moment line number next drift results accepted.lo accepted.hi

-- the input at a node's process is a client's line that justifies the acceptance
abbrev pub IsGroundOfInput : Process → ℕ → ℤ → List Result → Acceptance → ℕ → NodeEvent → Type 0
IsGroundOfInput (Up terms below state waiting) next drift results accepted node (Client client moment line) =
    (node ≡ accepted.node) × IsGroundUnder terms moment line next drift results accepted
IsGroundOfInput process next drift results accepted node input = ⊥

-- the action takes an input that justifies the acceptance, or a process ended inside that step and the change was kept
abbrev pub IsGroundInAction : State → ℕ → ℤ → List Result → Acceptance → Option Action → Type 0
IsGroundInAction state next drift results accepted (Some (Takes node input)) =
    IsGroundOfInput (state.processes node) next drift results accepted node input
IsGroundInAction state next drift results accepted (Some (StopsIn node true input)) =
    IsGroundOfInput (state.processes node) next drift results accepted node input
IsGroundInAction state next drift results accepted _ = ⊥

-- the action in which the acceptance began justifies it, by the floor, the drift and the results there before it
abbrev pub IsJustifiedInAction : Setting → List Action → Acceptance → Type 0
IsJustifiedInAction setting history accepted =
    let before = take accepted.began history in
    let next = floor_in setting history accepted.node accepted.token accepted.began in
    let drift = drift_in setting history accepted.node accepted.token accepted.began in
    let results = results_in setting before accepted.node accepted.token in
    IsGroundInAction (state_of setting before) next drift results accepted (slice_get history accepted.began)

-- the history justifies each of the acceptances
abbrev pub JustifiesAll : Setting → List Action → List Acceptance → Type 0
JustifiesAll setting history passes =
    (i : ℕ) (pass : Acceptance) → slice_get passes i ≡ Some pass → IsJustifiedInAction setting history pass
