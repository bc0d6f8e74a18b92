-- The floors of the rows of a book: those that the node bears witness to, and those that it was told.
use Rattle.std.specs.Prelude.{◌≡◌, ℕ, zero, suc, ◌+◌, ◌≤◌, ◌==◌, ◌||◌, Bool, false, nat_lt, nat_le, if◌then◌else◌, List, [], ◌∷◌, ◌++◌, length, map, take, drop, slice_index, slice_set, Option, Some, None}
use Rattle.std.specs.Int.{div_ceil}
use Rattle.std.specs.List.{list_any}
use Rattle.named_port.specs.Names.{number_of}
use Rattle.floor_port.specs.declared.floor.NamedFloor.{NamedFloor}

-- ---- floors that rise

-- whether a floor is above that of a row, if there is the row
abbrev pub is_above : List ℕ → Option ℕ → ℕ → Bool
is_above floors None next = false
is_above floors (Some number) next = nat_lt (slice_index floors number) next

-- the floors with that of a row raised to a greater one
abbrev pub raised : List ℕ → Option ℕ → ℕ → List ℕ
raised floors None next = floors
raised floors (Some number) next =
    if nat_lt (slice_index floors number) next then slice_set floors number next else floors

-- the rows of the names of floors
abbrev pub rows_of : List (List ℕ) → List NamedFloor → List (Option ℕ)
rows_of names floors = map (λ floor. number_of names floor.name) floors

-- whether a floor is news: it is of a name of the book, and above that of the row
abbrev pub is_news : List (List ℕ) → List ℕ → NamedFloor → Bool
is_news names floors floor = is_above floors (number_of names floor.name) floor.next

-- the floors of the rows after one was told
abbrev pub after_floor : List (List ℕ) → List ℕ → NamedFloor → List ℕ
after_floor names floors floor = raised floors (number_of names floor.name) floor.next

-- the floors of the rows after some were told, in order
abbrev pub after_floors : List (List ℕ) → List ℕ → List NamedFloor → List ℕ
after_floors names floors [] = floors
after_floors names floors (floor ∷ others) = after_floors names (after_floor names floors floor) others

-- the news among some floors, each held against the floors of the rows and those before it
abbrev pub news : List (List ℕ) → List ℕ → List NamedFloor → List NamedFloor
news names floors [] = []
news names floors (floor ∷ others) =
    if is_news names floors floor then floor ∷ news names (after_floor names floors floor) others
    else news names (after_floor names floors floor) others

-- ---- fresh rows

-- whether a row is fresh
abbrev pub is_fresh : List ℕ → ℕ → Bool
is_fresh fresh row = list_any (λ one. one == row) fresh

-- The fresh rows with one more, if there is the row and it isn't fresh. At most 64 are remembered.
abbrev pub with_fresh : List ℕ → Option ℕ → List ℕ
with_fresh fresh None = fresh
with_fresh fresh (Some row) =
    if is_fresh fresh row || nat_le 64 (length fresh) then fresh else fresh ++ row ∷ []

-- ---- rows

-- The rows of a book: the names of their tokens, the floors that the node bears witness to, the greatest floors that
-- the node bears witness to or was told, the row whose floor is told next, and the fresh rows. A row is fresh if the
-- node raised its floor by a witness since the last quiet turn.
pub record RowsRecord : Type 0 where
  pub names : List (List ℕ)
  pub told : List ℕ
  pub known : List ℕ
  pub turn : ℕ
  pub fresh : List ℕ

-- there is a floor for each name, and a row for the turn if there are rows
pub record AreRows (rows : RowsRecord) : Type 0 where
  pub few : length rows.told ≤ 10000
  pub told_each : length rows.told ≡ length rows.names
  pub known_each : length rows.known ≡ length rows.names
  pub turn_within : rows.turn ≤ length rows.told

-- the rows of a store with the given floors
abbrev pub new_rows : List (List ℕ) → List ℕ → RowsRecord
new_rows names floors = record { names = names; told = floors; known = floors; turn = 0; fresh = [] }

-- the rows after the node bore witness to a floor, if it did
abbrev pub after_witness : RowsRecord → Option NamedFloor → RowsRecord
after_witness rows None = rows
after_witness rows (Some floor) = record rows {
  told = after_floor rows.names rows.told floor;
  known = after_floor rows.names rows.known floor;
  fresh = if is_news rows.names rows.told floor then with_fresh rows.fresh (number_of rows.names floor.name)
      else rows.fresh;
}

-- the rows after the node was told floors
abbrev pub after_news : RowsRecord → List NamedFloor → RowsRecord
after_news rows floors = record rows { known = after_floors rows.names rows.known floors }

-- ---- rows in turn

-- the names with their floors
abbrev pub named_floors : List (List ℕ) → List ℕ → List NamedFloor
named_floors [] floors = []
named_floors (name ∷ names) [] = []
named_floors (name ∷ names) (next ∷ floors) = record { name = name; next = next } ∷ named_floors names floors

-- the floors of the rows from a first one on that aren't fresh
abbrev pub not_fresh : List ℕ → ℕ → List NamedFloor → List NamedFloor
not_fresh fresh row [] = []
not_fresh fresh row (floor ∷ floors) =
    if is_fresh fresh row then not_fresh fresh (row + 1) floors else floor ∷ not_fresh fresh (row + 1) floors

-- the floors that are told next: those of the next 20 rows that aren't fresh
abbrev pub next_floors : RowsRecord → List NamedFloor
next_floors rows =
    not_fresh rows.fresh rows.turn (take 20 (drop rows.turn (named_floors rows.names rows.told)))

-- the rows after these floors were told
abbrev pub after_turn : RowsRecord → RowsRecord
after_turn rows =
    record rows { turn = if nat_le (length rows.told) (rows.turn + 20) then 0 else rows.turn + 20 }

-- the rows after a number of turns
abbrev pub after_turns : RowsRecord → ℕ → RowsRecord
after_turns rows zero = rows
after_turns rows (suc turns) = after_turns (after_turn rows) turns

-- the number of turns that all rows take
abbrev pub turns_of : RowsRecord → ℕ
turns_of rows = div_ceil (length rows.told) 20

-- the rows after the telling of a quiet turn
abbrev pub after_telling : RowsRecord → RowsRecord
after_telling rows = record rows { fresh = [] }
