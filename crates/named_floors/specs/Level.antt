-- The floors of a store are raised to the gathered floors of their names. Floor: the first free factor of a token at a
-- node.
use Rattle.std.specs.Prelude.{◌≡◌, ◌⊎◌, ℕ, ◌≤◌, nat_lt, List, [], ◌∷◌, length, map, take, slice_index_or, Option, None, Some, IsSome, Result, OnErr, OnOk, if◌then◌else◌}
use Rattle.std.specs.Ordering.{nat_cmp}
use Rattle.std.specs.Cmp.Lexicographic.{slice_cmp}
use Rattle.std.specs.BTreeMap as tree
use Rattle.std.specs.BTreeMap.{BTreeMap}
use Rattle.floor_store.specs.Content.{Content, opening_row, with_row}
use Rattle.floor_store.specs.Held.{Held, IsSettled}
use Rattle.floor_store.specs.Records.{RowRecord}
use Rattle.floors_file.specs.declared.named.NamedFloor.{NamedFloor}
use Rattle.floors_file.specs.Gathered.{greater}
use Rattle.floors_file.specs.NamedGathered.{floor_of_name}
use Rattle.roster_sql.specs.declared.entry.Entry.{Entry}

-- the index has the floor of each name, and no other
abbrev pub HasFloors : List NamedFloor → BTreeMap (List ℕ) ℕ → Type 0
HasFloors gathered index =
    (name : List ℕ) → tree.get (slice_cmp nat_cmp) index name ≡ floor_of_name name gathered

-- the gathered floor of each entry's name, or None if no gathered row has it
abbrev pub told_by : List NamedFloor → List Entry → List (Option ℕ)
told_by gathered roster = map (λ entry. floor_of_name entry.name gathered) roster

-- ---- one row

-- the row of a token
abbrev pub row_of : Content → ℕ → RowRecord
row_of content token = slice_index_or content.rows token (opening_row 0)

-- the content with a floor of at least `floor` for a token; the rest of its row stays
unfoldable pub raised : ℕ → ℕ → Content → Content
raised token floor content =
    if nat_lt (row_of content token).next floor
    then with_row content token (record (row_of content token) { next = floor }) None
    else content

-- the content with the told floor of a token, if there is one and it is greater
abbrev pub told_at : ℕ → Option ℕ → Content → Content
told_at token None content = content
told_at token (Some floor) content = raised token floor content

-- ---- all rows

-- a row with the greater of its own floor and the told one, if there is one; the rest stays
abbrev pub levelled_row : Option ℕ → RowRecord → RowRecord
levelled_row None row = row
levelled_row (Some floor) row = record row { next = greater row.next floor }

-- rows in order, each with its told floor; rows beyond the floors stay
abbrev pub levelled_rows : List (Option ℕ) → List RowRecord → List RowRecord
levelled_rows [] rows = rows
levelled_rows (told ∷ floors) [] = []
levelled_rows (told ∷ floors) (row ∷ rows) = levelled_row told row ∷ levelled_rows floors rows

-- the content of a store with raised floors; the boot and the last pass stay
abbrev pub levelled : List (Option ℕ) → Content → Content
levelled floors content = record content { rows = levelled_rows floors content.rows }

-- a prefix of the rows is raised, and the others are unchanged
pub record IsPartLevelled (floors : List (Option ℕ)) (old now : Content) : Type 0 where
  pub count : ℕ
  pub is : now ≡ levelled (take count floors) old

-- A call that raises floors, and commits at its end. After a stop during the call, or an Err, a prefix of the rows is
-- raised. Raising is harmless, and a repeated call raises the rest.
pub record Levels {S A E : Type 0} (held : S → Held) (old new : S) (floors : List (Option ℕ))
    (result : Result A E) : Type 0 where
  pub ok : (held new).is_clean → OnOk result ((held new).content ≡ levelled floors (held old).content)
  pub err : (held new).is_clean → OnErr result (IsPartLevelled floors (held old).content (held new).content)
  pub left : (held new).is_clean → (c : Content) → (held new).leaves c
      → (held old).leaves c ⊎ IsPartLevelled floors (held old).content c
  pub settled : (held new).is_clean → OnOk result (IsSettled (held new))
  pub clean : (held new).is_clean → (held old).is_clean
  -- After Ok the store is not broken. A broken store stays unchanged, and the count of failures never falls.
  pub intact : OnOk result ((held new).fault ≡ None)
  pub stays : IsSome (held old).fault → new ≡ old
  pub count : (held old).failures ≤ (held new).failures
  -- the number of tokens stays
  pub tokens : length (held new).content.rows ≡ length (held old).content.rows
