-- The rows of a store by names that can be dropped. A row is retired if the users file has no token with its name.
use Rattle.std.specs.Prelude.{◌≡◌, ℕ, Bool, false, not, ◌&&◌, ◌||◌, nat_lt, nat_le, if◌then◌else◌, List, [], ◌∷◌, filter, map, Option, Some, None}
use Rattle.std.specs.Str.{bytes_eq}
use Rattle.std.specs.Ordering.{nat_cmp}
use Rattle.std.specs.Cmp.Lexicographic.{slice_cmp}
use Rattle.std.specs.BTreeMap as tree
use Rattle.std.specs.BTreeMap.{BTreeMap}
use Rattle.roster_sql.specs.declared.entry.Entry.{Entry}
use Rattle.named_store.specs.Floors.{lifted_by}
use Rattle.retired_rows.specs.declared.row.NumberedRow.{NumberedRow}

-- the greatest floor of the rows with the seed, or None if no row has it
abbrev pub greatest : List NumberedRow → List ℕ → Option ℕ
greatest [] seed = None
greatest (row ∷ rows) seed =
    if bytes_eq row.entry.seed seed then Some (lifted_by (greatest rows seed) row.row.next) else greatest rows seed

-- the rows that the users file has
abbrev pub named_rows : List NumberedRow → List NumberedRow
named_rows rows = filter (λ row. row.is_named) rows

-- there is a floor, and it is greater than `floor`
abbrev pub is_above : Option ℕ → ℕ → Bool
is_above None floor = false
is_above (Some top) floor = nat_lt floor top

-- there is a floor, and it is at least `floor`
abbrev pub reaches : Option ℕ → ℕ → Bool
reaches None floor = false
reaches (Some top) floor = nat_le floor top

-- the row goes, by the greatest floor of its seed in all rows and in those that the users file has
abbrev pub can_go : Option ℕ → Option ℕ → NumberedRow → Bool
can_go all named row = not row.is_named && (is_above all row.row.next || reaches named row.row.next)

-- A row that the users file has stays. A retired row goes if a row with its seed has a greater floor, or if the users
-- file has a row with its seed and a floor that is at least as great.
abbrev pub goes : List NumberedRow → NumberedRow → Bool
goes rows row = can_go (greatest rows row.entry.seed) (greatest (named_rows rows) row.entry.seed) row

-- the rows that stay, in order
abbrev pub staying : List NumberedRow → List NumberedRow
staying rows = filter (λ row. not (goes rows row)) rows

-- ---- parts

abbrev pub entries_in : List NumberedRow → List Entry
entries_in rows = map (λ row. row.entry) rows

abbrev pub floors_in : List NumberedRow → List ℕ
floors_in rows = map (λ row. row.row.next) rows

-- ---- indexes by seed

-- the index has the greatest floor of each seed
abbrev pub HasGreatestOf : List NumberedRow → BTreeMap (List ℕ) ℕ → Type 0
HasGreatestOf rows index = (seed : List ℕ) → tree.get (slice_cmp nat_cmp) index seed ≡ greatest rows seed

-- the floor of one more row is in the index
pub record AddsRow (row : NumberedRow) (old new : BTreeMap (List ℕ) ℕ) : Type 0 where
  pub updates : tree.Updates (slice_cmp nat_cmp) old new row.entry.seed
      (Some (lifted_by (tree.get (slice_cmp nat_cmp) old row.entry.seed) row.row.next))
