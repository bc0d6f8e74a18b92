-- The seats of processes by device, from start to start. Floor: the first free factor of a token at a node.
use Rattle.std.specs.Prelude.{◌≡◌, ℕ, suc, ◌<◌, ◌≤◌, List, Some, slice_get, take}
use Rattle.vote_core.specs.Books.{Adds, rows_of}
use Rattle.seat_law.specs.Seats.{Breaks, Course, Runs, Sites, Starts, free_of, go}

-- No two seats of the node's process have one seed. The row of each seat has the greatest floor of its seed in the
-- store.
pub record AreSeatsGreatest (seed : ℕ → ℕ) (sites : Sites) (node : ℕ) : Type 0 where
  pub once : (one other : ℕ) → one < rows_of sites.seen node → other < rows_of sites.seen node
      → seed (sites.seen.name node one) ≡ seed (sites.seen.name node other) → one ≡ other
  pub greatest : (seat token : ℕ) → seat < rows_of sites.seen node
      → seed token ≡ seed (sites.seen.name node seat)
      → free_of sites node token ≤ free_of sites node (sites.seen.name node seat)

-- the event starts the node's process, or gives its store a row
abbrev pub IsOpening : ℕ → Course → Type 0
IsOpening node (Starts other seats) = other ≡ node
IsOpening node (Runs (Adds other token floor)) = other ≡ node
IsOpening node (Breaks kept (Adds other token floor)) = other ≡ node
IsOpening node course = ⊥

-- after each such event the seats of the node's process have the greatest floors of their seeds, and no two have one
abbrev pub SeatsGreatest : (ℕ → ℕ) → Sites → List Course → Type 0
SeatsGreatest seed sites courses = (event node : ℕ) (course : Course) → slice_get courses event ≡ Some course
    → IsOpening node course → AreSeatsGreatest seed (go 0 (take (suc event) courses) sites) node
