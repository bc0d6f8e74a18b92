-- A node that is served over a store by place, and how the command ends.
use Rattle.std.specs.Prelude.{◌≡◌, ◌⊎◌, ℕ, Bool, false, List, length, Some, Result, Err}
use Rattle.sqlite.specs.Store.{Ghosts}
use Rattle.sqlite.specs.Held as sql
use Rattle.floor_sql.specs.Held.{SqlHeld, sql_held}
use Rattle.floor_store.specs.Held.{Held}
use Rattle.node_reports.specs.Responder.{ResponderAnswers}
use Rattle.oath_node.specs.Calls.{IsOpened}
use Rattle.oath_node.specs.Hosted.{Hosted}
use Rattle.oath_node.specs.declared.turns.Served.{Served}
use Rattle.seated_store.specs.Places.{own_seats}
use Rattle.seated_store.specs.Seated.{SeatedRecord, seated_held}
use Rattle.token_file.specs.Credential.{Credential}
use Rattle.oathd_database.specs.Commands.{HasImport, HasOpened}
use Rattle.oathd_database.specs.declared.fault.Fault.{Fault}
use Rattle.node_serving.specs.NodeKey.{tag_key}
use Rattle.node_serving.specs.Setup.{setup_for}
use Rattle.node_serving.specs.Stretches.{operator_acts, unasked}
use Rattle.node_serving.specs.declared.serving.Serving.{Serving}
use Rattle.store_serving.specs.Ends.{IsNotServed}
use Rattle.store_serving.specs.Through.{IsServed}

-- a store of some number of tokens that is seen by its own rows
abbrev pub placed : {S : Type 0} → ℕ → SqlHeld S → SeatedRecord (SqlHeld S)
placed tokens store = record { inner = store; seats = own_seats tokens; is_unusable = false }

-- the answer of what never ends the turns
abbrev pub never : ℕ → Bool → Bool → Type 0
never left is_waiting ends = ends ≡ false

-- A node was opened over a store for the tokens of a book, and served by their places, or until an answer or a fault
-- ended the turns. Between two batches it was acted on for operators.
pub record IsServedPlaced {S : Type 0} (held : S → Held) (serving : Serving) (book : List Credential) (store : S)
    (answers : ℕ → Bool → Bool → Type 0) (result : Result Served Fault) : Type 0 where
  pub first : Hosted S
  pub in_boot : IsOpened held store first
  pub of_book : first.book ≡ book
  pub of_limits : first.limits ≡ serving.settings
  pub of_key : first.key ≡ tag_key serving.key book
  pub of_place : first.voter.place ≡ serving.place
  pub last : Hosted S
  -- the port is at the members of `serving`, and takes its lines
  pub served_is :
      let setup = setup_for serving.place.me serving.members.items serving.lines in
      IsServed held (operator_acts held) first last setup serving.turns answers result

module _ {S : Type 0} (g : Ghosts S) (finds : sql.Held S → Type 0) (serving : Serving)
    (answers : ℕ → Bool → Bool → Type 0) where
  -- A node was opened over its store and served for the given turns, or until an operator or a fault ended them. The
  -- store is in some database and has the tokens of the users file, each in the row of its place.
  pub record HasServed (result : Result Served Fault) (text : List ℕ) : Type 0 where
    pub import : HasImport serving.settings 0 16777216 text
    pub found : SqlHeld S
    pub opened : HasOpened g finds (Some serving.place.me) (length import.book) found
    pub rows : length found.mirror.rows ≡ length import.book
    pub over : IsServedPlaced (seated_held (sql_held g)) serving import.book (placed (length import.book) found)
        (ResponderAnswers answers) result

-- A command that serves a node ends with the fault: before the first turn, or in a turn, with all that was served until
-- then.
abbrev pub EndsServing : {S : Type 0} → Ghosts S → (sql.Held S → Type 0) → Serving → Fault → List ℕ → Type 0
EndsServing g finds serving fault text =
    IsNotServed serving.settings 0 16777216 fault text ⊎ HasServed g finds serving unasked (Err fault) text
