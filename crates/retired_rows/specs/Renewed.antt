-- The puts that fill a new store with the rows that stay. The new number of a row is its place.
use Rattle.std.specs.Prelude.{◌≡◌, ℕ, ◌+◌, ◌==◌, List, [], ◌∷◌, ◌++◌, filter_map, map, slice_index_or, Option, Some, None, option_map}
use Rattle.std.specs.List.{last_or, position_from}
use Rattle.std.specs.Ordering.{nat_cmp}
use Rattle.std.specs.BTreeMap as tree
use Rattle.std.specs.BTreeMap.{BTreeMap}
use Rattle.floor_store.specs.Content.{Content, opening_row}
use Rattle.floor_store.specs.Records.{PassRecord, RowRecord}
use Rattle.floor_sql.specs.declared.put.Put.{Put}
use Rattle.retired_rows.specs.declared.row.NumberedRow.{NumberedRow}

-- the rows without their numbers and entries
abbrev pub rows_in : List NumberedRow → List RowRecord
rows_in kept = map (λ row. row.row) kept

-- the place of the first row with the number `token`, or None if no row has it
abbrev pub place_of : List NumberedRow → ℕ → Option ℕ
place_of kept token = position_from (λ row. row.token == token) 0 kept

-- the pass with the place of its row as its token, or None if no row has its token
abbrev pub renumbered_pass : List NumberedRow → PassRecord → Option PassRecord
renumbered_pass kept pass = option_map (λ place. record pass { token = place }) (place_of kept pass.token)

-- the passes of the rows, in order, with their new tokens
abbrev pub renumbered : List NumberedRow → List PassRecord → List PassRecord
renumbered kept passes = filter_map (renumbered_pass kept) passes

-- the put of a pass that has its new token
abbrev pub pass_put : List NumberedRow → PassRecord → Put
pass_put kept pass = record {
  token = pass.token;
  row = slice_index_or (rows_in kept) pass.token (opening_row 0);
  pass = Some pass;
}

-- the puts of rows without a pass, at the places from `place` on
abbrev pub row_puts_from : ℕ → List NumberedRow → List Put
row_puts_from place [] = []
row_puts_from place (row ∷ kept) =
    record { token = place; row = row.row; pass = None } ∷ row_puts_from (place + 1) kept

-- the puts of all rows without a pass
abbrev pub row_puts : List NumberedRow → List Put
row_puts kept = row_puts_from 0 kept

-- the puts of the passes of the rows, and then of each row
abbrev pub puts_of : List NumberedRow → List PassRecord → List Put
puts_of kept passes = map (pass_put kept) (renumbered kept passes) ++ row_puts kept

-- the content of the new store at a boot
abbrev pub renewed_at : ℕ → List NumberedRow → List PassRecord → Content
renewed_at boot kept passes = record {
  rows = rows_in kept;
  boot = boot;
  last = last_or None (renumbered kept passes);
}

-- the index has the place of each number, and no other number
abbrev pub HasPlaces : List NumberedRow → BTreeMap ℕ ℕ → Type 0
HasPlaces kept index = (token : ℕ) → tree.get nat_cmp index token ≡ place_of kept token
