-- The seeds of users files in a history. The seed of a token is the number of its device. A device has a token for each
-- name, type and number of digits that it ever had in a users file. Floor: the first free factor of a token at a node.
use Rattle.std.specs.Prelude.{◌≡◌, ℕ, ◌≤◌, true, List, [], ◌∷◌, Option, Some, None, slice_get, take}
use Rattle.floor_store.specs.Content.{Content, opening_row}
use Rattle.floor_store.specs.Records.{RowRecord}
use Rattle.vote_core.specs.Rows.{row}
use Rattle.book_law.specs.Lives.{Action, Down, Opens, Setting, Store, Terms, do_fit, floor_of, has_store, row_of, state_of, store_at, store_under}
use Rattle.book_law.specs.Uses.{Serves, ServesInParts, StoreUse, Writes, written_store}

-- the row of the given number, or an opening row with the floor 0 for a missing one
abbrev pub row_or_opening : Content → Option ℕ → RowRecord
row_or_opening content None = opening_row 0
row_or_opening content (Some number) = row content number

-- the row that the store has of the token
abbrev pub row_for : Store → ℕ → RowRecord
row_for store token = row_or_opening store.content (row_of store token)

-- the row that the node's store has of the token before the action of the given number
abbrev pub rows_in : Setting → List Action → ℕ → ℕ → ℕ → RowRecord
rows_in setting history node token event =
    row_for (store_at ((state_of setting (take event history)).processes node)) token

-- no two of the seats have one seed
abbrev pub HaveSeedsOnce : (ℕ → ℕ) → List ℕ → Type 0
HaveSeedsOnce seed seats = (i j one other : ℕ) → slice_get seats i ≡ Some one → slice_get seats j ≡ Some other
    → seed one ≡ seed other → i ≡ j

-- the row of each seat has the greatest floor of its seed in the store
abbrev pub AreGreatest : (ℕ → ℕ) → List ℕ → Store → Type 0
AreGreatest seed seats store = (i token other : ℕ) → slice_get seats i ≡ Some token → seed other ≡ seed token
    → floor_of store other ≤ floor_of store token

-- In the action of the given number a process opens the store of the node under the terms.
pub record IsOpenedIn (setting : Setting) (history : List Action) (event node : ℕ) (terms : Terms) (store : Store)
    : Type 0 where
  pub opens : slice_get history event ≡ Some (Opens node terms)
  pub has : has_store setting (state_of setting (take event history)) node ≡ true
  pub down : (state_of setting (take event history)).processes node ≡ Down store
  pub fits : do_fit terms store ≡ true

-- The rule of openings. The users file of a process that opens a store has no seed twice. The row of each of its seats
-- has the greatest floor of its seed in the store.
pub record OpensGreatest (seed : ℕ → ℕ) (setting : Setting) (history : List Action) : Type 0 where
  pub once : (event node : ℕ) (terms : Terms) (store : Store) → IsOpenedIn setting history event node terms store
      → HaveSeedsOnce seed terms.seats
  pub greatest : (event node : ℕ) (terms : Terms) (store : Store) → IsOpenedIn setting history event node terms store
      → AreGreatest seed terms.seats store

-- each process among the uses of a node's store, from the given store on, keeps the rule of openings
abbrev pub UsesGreatest : (ℕ → ℕ) → Setting → Store → List StoreUse → Type 0
UsesGreatest seed setting store [] = Unit {0}
UsesGreatest seed setting store (Serves terms port taken entries left ∷ uses) =
    HaveSeedsOnce seed terms.seats × AreGreatest seed terms.seats store
    × UsesGreatest seed setting (store_under terms.seats left store) uses
UsesGreatest seed setting store (ServesInParts terms port parts left ∷ uses) =
    HaveSeedsOnce seed terms.seats × AreGreatest seed terms.seats store
    × UsesGreatest seed setting (store_under terms.seats left store) uses
UsesGreatest seed setting store (Writes action ∷ uses) =
    UsesGreatest seed setting (written_store setting action store) uses
