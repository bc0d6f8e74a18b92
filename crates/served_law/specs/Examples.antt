-- A store with a row for maple, for a user who is gone and for silver, whose canonical tokens are 1, 2 and 0. Silver
-- and maple are users of book_law's examples.
use Rattle.std.specs.Prelude.{◌≡◌, ℕ, List, [], ◌∷◌, None}
use Rattle.floor_store.specs.Broken.{small_held}
use Rattle.floor_store.specs.Content.{Content}
use Rattle.floor_store.specs.Examples.{content_at, free_row}
use Rattle.floor_sql.specs.declared.put.Put.{Put}
use Rattle.roster_sql.specs.Examples.{entry_of}
use Rattle.roster_sql.specs.declared.entry.Entry.{Entry}
use Rattle.named_port.specs.Examples.{name_with}
use Rattle.book_law.specs.Examples.{three}
use Rattle.book_law.specs.Lives.{Setting, Store, Terms}
use Rattle.book_law.specs.Uses.{store_after}
use Rattle.name_law.specs.Examples.{seated_over}
use Rattle.served_law.specs.Enrolled.{enrolments, opening_uses}
use Rattle.served_law.specs.Seated.{IsSeatedStore, store_by_names}

-- the names of silver, of maple and of the user who is gone
abbrev pub three_names : List (List ℕ)
three_names = name_with 0xaa ∷ name_with 0xbb ∷ name_with 0xcc ∷ []

-- the rows with names of these bytes
abbrev pub rows_of : ℕ → ℕ → ℕ → List Entry
rows_of first second third = entry_of first 1 ∷ entry_of second 2 ∷ entry_of third 3 ∷ []

-- three rows with the floors 5, 6 and the given one
abbrev pub floors : ℕ → Content
floors third = content_at 4 (free_row 5 ∷ free_row 6 ∷ free_row third ∷ [])

-- the store of a history with names of these bytes in its rows
abbrev pub three_rows : ℕ → ℕ → ℕ → Store
three_rows first second third = store_by_names three_names (rows_of first second third) (floors 7)

-- the terms fit the store with the names, and the seats of the small one with the third floor
abbrev pub Seats : Terms → ℕ → ℕ → ℕ → ℕ → List ℕ → Type 0
Seats terms first second third floor seats =
    IsSeatedStore small_held terms (three_rows first second third) (seated_over (floors floor) seats)

-- three nodes, with the canonical tokens of all three users
abbrev pub three_tokens : Setting
three_tokens = record three { tokens = 3 }

-- the store of node 1 after the enrolments of the rows with the floors
abbrev pub after_rows : List Entry → List ℕ → Store → Store
after_rows new floors store = store_after three_tokens (enrolments 1 three_names new floors) store

-- a store of a history without a row
abbrev pub no_rows : Store
no_rows = store_by_names three_names [] (content_at 4 [])

-- the rows of maple and of the user who is gone
abbrev pub former_rows : List Entry
former_rows = entry_of 0xbb 1 ∷ entry_of 0xcc 2 ∷ []

-- the put of a row with the floor
abbrev pub put_of : ℕ → ℕ → Put
put_of row floor = record { token = row; row = free_row floor; pass = None }

-- the store of node 1 after an opening that raises two rows with the floors 5 and 6, and enrols silver with the floor 7
abbrev pub after_opening : List Put → Store
after_opening puts = store_after three_tokens
    (opening_uses 1 three_names former_rows puts (entry_of 0xaa 3 ∷ []) (7 ∷ []))
    (store_by_names three_names former_rows (content_at 4 (free_row 5 ∷ free_row 6 ∷ [])))

-- such an opening leaves three rows with the floors 5, 8 and 7
abbrev pub RaisesSecond : List Put → Type 0
RaisesSecond puts = after_opening puts ≡ store_by_names three_names (rows_of 0xbb 0xcc 0xaa)
    (content_at 4 (free_row 5 ∷ free_row 8 ∷ free_row 7 ∷ []))
