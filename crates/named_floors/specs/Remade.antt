-- The rows of a store that is made from floors files by names. Floor: the first free factor of a token at a node.
use Rattle.std.specs.Prelude.{◌≡◌, ℕ, ◌≤◌, List, [], ◌∷◌, ◌++◌, false, map, slice_get, Option, Some, None, if◌then◌else◌}
use Rattle.std.specs.Option.{unwrap_or}
use Rattle.std.specs.Ordering.{nat_cmp}
use Rattle.std.specs.Cmp.Lexicographic.{slice_cmp}
use Rattle.std.specs.Str.{bytes_eq}
use Rattle.std.specs.BTreeMap as tree
use Rattle.std.specs.BTreeMap.{BTreeMap}
use Rattle.floors_file.specs.declared.named.NamedFloor.{NamedFloor}
use Rattle.named_store.specs.Floors.{seeded_floors}
use Rattle.named_store.specs.Seating.{has_name, name_at, new_places, rows_after}
use Rattle.roster_sql.specs.declared.entry.Entry.{Entry}

-- ---- the seeds

-- the seed of the first entry with a name, or None
abbrev pub seed_in : List ℕ → List Entry → Option (List ℕ)
seed_in name [] = None
seed_in name (entry ∷ names) = if bytes_eq entry.name name then Some entry.seed else seed_in name names

-- the entry of a gathered row, with a seed in place of its own if there is one
abbrev pub entry_with : Option (List ℕ) → NamedFloor → Entry
entry_with seed row = record { name = row.name; seed = unwrap_or seed row.seed }

-- the index has the seed of each name, and no other
abbrev pub HasSeeds : List Entry → BTreeMap (List ℕ) (List ℕ) → Type 0
HasSeeds names index = (name : List ℕ) → tree.get (slice_cmp nat_cmp) index name ≡ seed_in name names

-- the seed of an entry is added to an index, under its name
pub record AddsSeed (entry : Entry) (old new : BTreeMap (List ℕ) (List ℕ)) : Type 0 where
  pub updates : tree.Updates (slice_cmp nat_cmp) old new entry.name (Some entry.seed)

-- ---- the rows

-- the entry of a gathered row, with the seed of the token with its name, or its own if no token has the name
abbrev pub gathered_entry : List Entry → NamedFloor → Entry
gathered_entry names row = entry_with (seed_in row.name names) row

-- the entries of the gathered rows in order
abbrev pub gathered_entries : List Entry → List NamedFloor → List Entry
gathered_entries names gathered = map (gathered_entry names) gathered

-- the floors of the gathered rows in order
abbrev pub gathered_floors : List NamedFloor → List ℕ
gathered_floors gathered = map (λ row. row.next) gathered

-- the entries of the gathered rows, followed by the entries whose names no gathered row has
abbrev pub remade_entries : List NamedFloor → List Entry → List Entry
remade_entries gathered names = rows_after (gathered_entries names gathered) names

-- the floors of the tokens whose names no gathered row has, each raised to the gathered floors of its seed
abbrev pub raised_floors : List NamedFloor → List Entry → List ℕ → List ℕ
raised_floors gathered names floors =
    seeded_floors (gathered_entries names gathered) (gathered_floors gathered) names floors
    (new_places (gathered_entries names gathered) names)

-- the floors of the gathered rows, followed by the floors of the other tokens
abbrev pub remade_floors : List NamedFloor → List Entry → List ℕ → List ℕ
remade_floors gathered names floors = gathered_floors gathered ++ raised_floors gathered names floors

-- ---- the result

-- The row at a place has the name and the floor of a gathered row. It has the seed of the gathered row if no token has
-- the name.
pub record HasRemade (gathered : List NamedFloor) (names : List Entry) (floors : List ℕ) (place : ℕ) (row : NamedFloor)
    : Type 0 where
  pub named : name_at (remade_entries gathered names) place ≡ Some row.name
  pub own_seed : has_name names row.name ≡ false
      → slice_get (remade_entries gathered names) place ≡ Some (record { name = row.name; seed = row.seed })
  pub floor : slice_get (remade_floors gathered names floors) place ≡ Some row.next

-- A token with the floor `floor` has a row. The row's floor is at least `floor`, and at least the floor of each
-- gathered row with the token's seed.
pub record IsTaken (gathered : List NamedFloor) (names : List Entry) (floors : List ℕ) (e : Entry) (floor : ℕ)
    : Type 0 where
  pub place : ℕ
  pub next : ℕ
  pub entry : slice_get (remade_entries gathered names) place ≡ Some e
  pub is_floor : slice_get (remade_floors gathered names floors) place ≡ Some next
  pub own : floor ≤ next
  pub seeded : (row held : ℕ) (other : Entry) → slice_get (gathered_entries names gathered) row ≡ Some other
      → slice_get (gathered_floors gathered) row ≡ Some held → other.seed ≡ e.seed → held ≤ next
