-- Rows of names, and the index of their places.
use Rattle.std.specs.Prelude.{◌≡◌, ℕ, zero, suc, ◌+◌, Bool, List, [], ◌∷◌, Option, Some, None, is_some, if◌then◌else◌}
use Rattle.std.specs.Ordering.{nat_cmp}
use Rattle.std.specs.Cmp.Lexicographic.{slice_cmp}
use Rattle.std.specs.Str.{bytes_eq}
use Rattle.std.specs.BTreeMap as tree
use Rattle.std.specs.BTreeMap.{BTreeMap}
use Rattle.floors_file.specs.declared.named.NamedFloor.{NamedFloor}
use Rattle.floors_file.specs.Gathered.{greater}

-- the place of the first row with a name, in rows whose first is at `place`
abbrev pub place_from : ℕ → List ℕ → List NamedFloor → Option ℕ
place_from place name [] = None
place_from place name (row ∷ rows) =
    if bytes_eq row.name name then Some place else place_from (place + 1) name rows

-- the place of the first row with a name, from 0, or None
abbrev pub place_of_name : List ℕ → List NamedFloor → Option ℕ
place_of_name name rows = place_from 0 name rows

-- whether one of the rows has a name
abbrev pub has_name : List ℕ → List NamedFloor → Bool
has_name name rows = is_some (place_of_name name rows)

-- the index has the place of each name, and no other
abbrev pub HasPlaces : List NamedFloor → BTreeMap (List ℕ) ℕ → Type 0
HasPlaces rows index = (name : List ℕ) → tree.get (slice_cmp nat_cmp) index name ≡ place_of_name name rows

-- a row with a floor of at least `next`
abbrev pub raised : NamedFloor → ℕ → NamedFloor
raised row next = record row { next = greater row.next next }

-- the rows, with a floor of at least `next` at a place
abbrev pub raised_at : ℕ → ℕ → List NamedFloor → List NamedFloor
raised_at place next [] = []
raised_at zero next (row ∷ rows) = raised row next ∷ rows
raised_at (suc place) next (row ∷ rows) = row ∷ raised_at place next rows

-- one more row: the floor of its name is the greater one, and a new name is at the end
abbrev pub with_row : List NamedFloor → NamedFloor → List NamedFloor
with_row [] row = row ∷ []
with_row (other ∷ rows) row =
    if bytes_eq other.name row.name then raised other row.next ∷ rows else other ∷ with_row rows row
