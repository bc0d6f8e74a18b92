-- The floors of tokens that a store hasn't. A floor is the first free factor of a token at a node.
use Rattle.std.specs.Prelude.{◌≡◌, ℕ, ◌&&◌, nat_lt, if◌then◌else◌, List, [], ◌∷◌, map, slice_index_or, Option, Some, None}
use Rattle.std.specs.Str.{bytes_eq}
use Rattle.std.specs.Ordering.{nat_cmp}
use Rattle.std.specs.Cmp.Lexicographic.{slice_cmp}
use Rattle.std.specs.BTreeMap as tree
use Rattle.std.specs.BTreeMap.{BTreeMap}
use Rattle.floor_store.specs.Records.{RowRecord}
use Rattle.floor_sql.specs.declared.put.Put.{Put}
use Rattle.roster_sql.specs.declared.entry.Entry.{Entry}

-- the greatest of a floor and of the floors `held` of all rows with the seed
abbrev pub raised_floor : List Entry → List ℕ → List ℕ → ℕ → ℕ
raised_floor [] held seed floor = floor
raised_floor (row ∷ roster) [] seed floor = floor
raised_floor (row ∷ roster) (next ∷ held) seed floor =
    raised_floor roster held seed (if bytes_eq row.seed seed && nat_lt floor next then next else floor)

-- an entry in the place of one that is missing
abbrev pub no_entry : Entry
no_entry = record { name = []; seed = [] }

-- the floor of the token at a place
abbrev pub seeded_floor : List Entry → List ℕ → List Entry → List ℕ → ℕ → ℕ
seeded_floor roster held names floors place =
    raised_floor roster held (slice_index_or names place no_entry).seed (slice_index_or floors place 0)

-- the floors of the tokens at these places
abbrev pub seeded_floors : List Entry → List ℕ → List Entry → List ℕ → List ℕ → List ℕ
seeded_floors roster held names floors places = map (seeded_floor roster held names floors) places

-- ---- the greatest floors of seeds

-- a floor, or the floor of an index if it is greater
abbrev pub lifted_by : Option ℕ → ℕ → ℕ
lifted_by None floor = floor
lifted_by (Some next) floor = if nat_lt floor next then next else floor

-- the index lifts each floor as all rows do
abbrev pub HasGreatest : List Entry → List ℕ → BTreeMap (List ℕ) ℕ → Type 0
HasGreatest roster held index = (seed : List ℕ) (floor : ℕ)
    → lifted_by (tree.get (slice_cmp nat_cmp) index seed) floor ≡ raised_floor roster held seed floor

-- the floor of one more row is in the index
pub record AddsFloor (entry : Entry) (next : ℕ) (old new : BTreeMap (List ℕ) ℕ) : Type 0 where
  pub updates : tree.Updates (slice_cmp nat_cmp) old new entry.seed
      (Some (lifted_by (tree.get (slice_cmp nat_cmp) old entry.seed) next))

-- the put that raises a row of a token to a floor, or None if it isn't lower
abbrev pub rise : ℕ → RowRecord → ℕ → Option Put
rise token row floor =
    if nat_lt row.next floor then Some (record { token = token; row = record row { next = floor }; pass = None }) else None
