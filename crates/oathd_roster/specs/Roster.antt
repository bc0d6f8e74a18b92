-- The rows of a store as text, with their names and the users of their tokens.
use Rattle.std.specs.Prelude.{◌≡◌, ℕ, ◌+◌, List, [], ◌∷◌, ◌++◌, slice_get, Option, Some, None, codes}
use Rattle.std.specs.Io.KnownBytes.{Appends}
use Rattle.std.specs.Fmt.{decimal}
use Rattle.hex.specs.Hex.{encode_lower}
use Rattle.token_file.specs.Credential.{Credential}
use Rattle.floor_store.specs.Records.{RowRecord}
use Rattle.roster_sql.specs.declared.entry.Entry.{Entry}
use Rattle.seated_store.specs.Seats.{token_of}

-- the user of a token, or `-` if there is none
abbrev pub user_of : Option Credential → List ℕ
user_of None = codes "-"
user_of (Some token) = token.name

-- the user of the token at a place of the book, or `-` if there is none
abbrev pub user_text : List Credential → Option ℕ → List ℕ
user_text book None = codes "-"
user_text book (Some token) = user_of (slice_get book token)

-- the number and the name of a row
unfoldable pub row_start : ℕ → List ℕ → List ℕ
row_start number name = codes "row " ++ decimal number ++ codes " " ++ encode_lower name

-- the floor and the user of a row, after a space, and an LF
unfoldable pub row_end : ℕ → List ℕ → List ℕ
row_end floor user = codes " " ++ decimal floor ++ codes " " ++ user ++ codes "\n"

-- the line of a row: `row NUMBER NAME FLOOR USER`
abbrev pub roster_line : ℕ → List ℕ → ℕ → List ℕ → List ℕ
roster_line number name floor user = row_start number name ++ row_end floor user

module _ (book : List Credential) (seats : List ℕ) where
  -- the line of a row, with the user of the token whose seat it is
  abbrev pub row_line : ℕ → Entry → RowRecord → List ℕ
  row_line number entry row = roster_line number entry.name row.next (user_text book (token_of seats number))

  -- the lines of rows in order, numbered from `number`
  abbrev pub roster_lines : ℕ → List Entry → List RowRecord → List ℕ
  roster_lines number [] rows = []
  roster_lines number (entry ∷ roster) [] = []
  roster_lines number (entry ∷ roster) (row ∷ rows) =
      row_line number entry row ++ roster_lines (number + 1) roster rows

  -- the lines of all rows of a store, numbered from 0
  abbrev pub roster_text : List Entry → List RowRecord → List ℕ
  roster_text roster rows = roster_lines 0 roster rows

  -- the line of the row `number` is written, and nothing else
  pub record WritesRow (roster : List Entry) (rows : List RowRecord) (number : ℕ)
      (old new : Option (List ℕ)) : Type 0 where
    pub entry : Entry
    pub entry_is : slice_get roster number ≡ Some entry
    pub row : RowRecord
    pub row_is : slice_get rows number ≡ Some row
    pub written : Appends old new (row_line number entry row)
