-- Small lists of rows. No contract cites them.
use Rattle.std.specs.Prelude.{ℕ, true, false, List, [], ◌∷◌, replicate, Some, None}
use Rattle.floor_store.specs.Examples.{free_row, granted_row}
use Rattle.floor_store.specs.Records.{PassRecord, RowRecord}
use Rattle.floor_sql.specs.declared.put.Put.{Put}
use Rattle.roster_sql.specs.Examples.{entry_of}
use Rattle.named_store.specs.Floors.{raised_floor}
use Rattle.retired_rows.specs.declared.row.NumberedRow.{NumberedRow}
use Rattle.retired_rows.specs.Staying.{entries_in, floors_in}

-- a row of a token of the users file, by its number, its seed and its floor
abbrev pub named_row : ℕ → ℕ → ℕ → NumberedRow
named_row token seed next = record {
  token = token;
  entry = entry_of token seed;
  row = free_row next;
  is_named = true;
}

-- a retired row, by its number, its seed and its floor
abbrev pub retired_row : ℕ → ℕ → ℕ → NumberedRow
retired_row token seed next = record (named_row token seed next) { is_named = false }

-- rows that stay of six
abbrev pub three_kept : List NumberedRow
three_kept = named_row 0 1 20 ∷ named_row 2 2 5 ∷ retired_row 5 3 7 ∷ []

-- rows that stay of four. The second one has a grant.
abbrev pub two_kept : List NumberedRow
two_kept = named_row 0 1 20 ∷ record (named_row 3 2 6) { row = granted_row } ∷ []

abbrev pub put_of_row : ℕ → RowRecord → Put
put_of_row token row = record { token = token; row = row; pass = None }

abbrev pub put_of_pass : RowRecord → PassRecord → Put
put_of_pass row pass = record { token = pass.token; row = row; pass = Some pass }

-- the floor at which the rows enrol a token, by its seed and its own floor
abbrev pub enrolled_by : List NumberedRow → ℕ → ℕ → ℕ
enrolled_by rows seed floor = raised_floor (entries_in rows) (floors_in rows) (replicate 16 seed) floor
