-- The runs of commands that serve nodes by place, as uses of their stores in a history and as steps. A token is its
-- place in the users file.
use Rattle.std.specs.Prelude.{◌≡◌, ℕ, Bool, List, [], ◌∷◌, ◌++◌, length, Result, Ok, Err}
use Rattle.sqlite.specs.Store.{Ghosts}
use Rattle.sqlite.specs.Held as sql
use Rattle.floor_store.specs.Content.{Content}
use Rattle.floor_store.specs.Range.{IsCount}
use Rattle.oath_node.specs.declared.turns.Served.{Served}
use Rattle.seated_store.specs.Places.{own_seats}
use Rattle.token_file.specs.Credential.{Credential}
use Rattle.node_serving.specs.NodeKey.{tag_key}
use Rattle.node_serving.specs.Stretches.{unasked}
use Rattle.node_serving.specs.declared.serving.Serving.{Serving}
use Rattle.oathd_database.specs.declared.fault.Fault.{Fault}
use Rattle.store_serving.specs.Placed.{HasServed, never}
use Rattle.book_law.specs.Lives.{Setting, Store, Terms, store_under}
use Rattle.order_law.specs.Interleavings.{AreCaused, Item, first_place, said_before}
use Rattle.order_law.specs.Steps.{Ends, Starts, Step}
use Rattle.served_law.specs.Orders.{IsInOrder}
use Rattle.served_law.specs.Processes.{IsUse, StaysClean}
use Rattle.served_law.specs.Runs.{view_of}
use Rattle.served_law.specs.Uses.{AreAllStores, IsStepOrder, RunKind, Stores}

-- the terms of a process that a command serves by place for the tokens of a book
abbrev pub placed_terms : Serving → List Credential → Terms
placed_terms serving book = record {
  config = record { book = book; limits = serving.settings };
  key = tag_key serving.key book;
  seats = own_seats (length book);
}

-- a store with the content, as a store of a history
abbrev pub placed_store : Content → Store
placed_store content = record { names = own_seats (length content.rows); content = content }

-- ---- One run

module _ {S : Type 0} {g : Ghosts S} {finds : sql.Held S → Type 0} {serving : Serving}
    {answers : ℕ → Bool → Bool → Type 0} {result : Result Served Fault} {text : List ℕ}
    (run : HasServed g finds serving answers result text) where
  -- What a history asks of the run. Its members are the setting's. The database's disk was clean at the start of each
  -- stretch of turns and at the end, and its boot is in range.
  pub record IsSoundPlaced (setting : Setting) : Type 0 where
    pub members : setting.n ≡ serving.place.n
    pub stays : StaysClean (view_of g) run.over.served_is.serves
    pub boot : IsCount (view_of g run.over.first.store).content.boot

  -- the run is one use of the store that it found, and a stop left `left` of its tokens
  abbrev pub IsPlacedUse : Setting → Content → Type 0
  IsPlacedUse setting left =
      IsUse (view_of g) run.over.served_is.serves setting serving.place.me (placed_terms serving run.import.book)
      (tag_key serving.key run.import.book) (placed_store run.found.mirror) run.over.served_is.events left

  -- the run has made steps over the store that it found, and its port recorded all that it received and offered
  abbrev pub IsPlacedInOrder : Setting → Content → Type 0
  IsPlacedInOrder setting left =
      IsInOrder (view_of g) run.over.served_is.serves setting serving.place.me (placed_terms serving run.import.book)
      (tag_key serving.key run.import.book) (placed_store run.found.mirror) run.over.served_is.events left

-- ---- All runs

-- A run of a command, and what a stop left of its tokens.
pub record PlacedRun : Type 0 where
  pub serving : Serving
  pub result : Result Served Fault
  pub text : List ℕ
  pub left : Content

-- What is known of the answers of a run with the result. Nothing ends its turns, unless the command ended with a fault.
abbrev pub placed_answers : Result Served Fault → ℕ → Bool → Bool → Type 0
placed_answers (Ok served) = never
placed_answers (Err fault) = unasked

module _ {S : Type 0} (g : Ghosts S) (finds : sql.Held S → Type 0) (setting : Setting) (node : ℕ) where
  -- the node made the run, which found the store of a history
  pub record IsPlacedRunOver (store : Store) (run : PlacedRun) : Type 0 where
    pub served : HasServed g finds run.serving (placed_answers run.result) run.result run.text
    pub of_node : run.serving.place.me ≡ node
    pub sound : IsSoundPlaced served setting
    pub holds : placed_store served.found.mirror ≡ store
    pub leaves : (view_of g served.over.last.store).leaves run.left

  module _ (store : Store) (run : PlacedRun) (is : IsPlacedRunOver store run) where
    -- the store of a history after the run
    abbrev pub placed_left : Store
    placed_left = store_under (placed_terms run.serving is.served.import.book).seats run.left store

    -- The steps are the run's process, which speaks to its port under the node's key. The port recorded what the run
    -- received and offered, in the order of the steps.
    pub record AreStepsOfPlaced (steps : List Step) : Type 0 where
      pub in_order : IsPlacedInOrder is.served setting run.left
      pub are : steps ≡ Starts (placed_terms run.serving is.served.import.book)
          (tag_key run.serving.key is.served.import.book) ∷ in_order.has.steps ++ Ends in_order.has.kept ∷ []

-- runs by place, as a kind of runs
abbrev pub placed_runs : {S : Type 0} → Ghosts S → (sql.Held S → Type 0) → (setting : Setting)
    → RunKind setting PlacedRun
placed_runs g finds setting = record {
  is_over = λ node store run. IsPlacedRunOver g finds setting node store run;
  left = λ node store run is. placed_left g finds setting node store run is;
  are_steps = λ node store run is steps. AreStepsOfPlaced g finds setting node store run is steps;
}

-- The items are an order of the members' steps up to some moment, in which lost stores are replaced by the rule of the
-- votes. Each vote that a node reads in bytes from a member, under its key, was said before in the order.
abbrev pub IsPlacedOrder : {S : Type 0} (g : Ghosts S) (finds : sql.Held S → Type 0) (setting : Setting)
    (stores : ℕ → Stores PlacedRun) → AreAllStores (placed_runs g finds setting) stores → List Item → Type 0
IsPlacedOrder g finds setting stores are items = IsStepOrder (placed_runs g finds setting)
    (AreCaused setting (first_place setting) (said_before setting)) stores are items
