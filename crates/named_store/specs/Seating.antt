-- The seats of tokens in a store, by their names. The seat of a token is its row in the store.
use Rattle.std.specs.Prelude.{◌≡◌, ◌≢◌, ℕ, ◌+◌, Bool, not, false, if◌then◌else◌, List, [], ◌∷◌, ◌++◌, length, map, filter, slice_get, Option, Some, None, option_map, AllPairs}
use Rattle.std.specs.List.{list_any}
use Rattle.std.specs.Ordering.{nat_cmp}
use Rattle.std.specs.Cmp.Lexicographic.{slice_cmp}
use Rattle.std.specs.Str.{bytes_eq}
use Rattle.std.specs.BTreeMap as tree
use Rattle.std.specs.BTreeMap.{BTreeMap}
use Rattle.roster_sql.specs.declared.entry.Entry.{Entry}
use Rattle.seated_store.specs.Seats.{AreSeats}

-- no two entries have the same name
abbrev pub AreDistinct : List Entry → Type 0
AreDistinct entries = AllPairs (λ a b. a.name ≢ b.name) entries

-- the name in a row, or None past the last one
abbrev pub name_at : List Entry → ℕ → Option (List ℕ)
name_at rows seat = option_map (λ e. e.name) (slice_get rows seat)

-- a row has the name
abbrev pub has_name : List Entry → List ℕ → Bool
has_name roster name = list_any (λ row. bytes_eq row.name name) roster

-- the places, counted from `place`, of the entries whose names no row has
abbrev pub new_from : ℕ → List Entry → List Entry → List ℕ
new_from place roster [] = []
new_from place roster (e ∷ names) =
    if has_name roster e.name then new_from (place + 1) roster names else place ∷ new_from (place + 1) roster names

-- the places from 0 of the entries whose names no row has, in order
abbrev pub new_places : List Entry → List Entry → List ℕ
new_places roster names = new_from 0 roster names

-- the entries whose names no row has, in order
abbrev pub new_entries : List Entry → List Entry → List Entry
new_entries roster names = filter (λ e. not (has_name roster e.name)) names

-- the rows of the store after the new entries were enrolled
abbrev pub rows_after : List Entry → List Entry → List Entry
rows_after roster names = roster ++ new_entries roster names

-- The row of each seat, in order, has the name of the token there. No two seats are the same.
pub record AreSeatsOf (roster names : List Entry) (seats : List ℕ) : Type 0 where
  pub named : map (name_at (rows_after roster names)) seats ≡ map (λ e. Some e.name) names
  pub apart : AreSeats (length (rows_after roster names)) seats

-- these are the new tokens: their places, and their entries
pub record AreNew (roster names : List Entry) (places : List ℕ) (entries : List Entry) : Type 0 where
  pub all_places : places ≡ new_places roster names
  pub all_entries : entries ≡ new_entries roster names

-- a row of the name, or None if no row has it
abbrev pub IsRowOf : List Entry → List ℕ → Option ℕ → Type 0
IsRowOf roster name None = has_name roster name ≡ false
IsRowOf roster name (Some row) = name_at roster row ≡ Some name

-- the index has a row of each name, and no other name
abbrev pub HasRowsOf : List Entry → BTreeMap (List ℕ) ℕ → Type 0
HasRowsOf roster index = (name : List ℕ) → IsRowOf roster name (tree.get (slice_cmp nat_cmp) index name)

-- the name of an entry is added to an index with its row; `former` is the row that it had there
pub record AddsName (entry : Entry) (row : ℕ) (former : Option ℕ) (old new : BTreeMap (List ℕ) ℕ) : Type 0 where
  pub was : former ≡ tree.get (slice_cmp nat_cmp) old entry.name
  pub updates : tree.Updates (slice_cmp nat_cmp) old new entry.name (Some row)
