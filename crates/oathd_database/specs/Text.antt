-- The content of a store, as text.
use Rattle.std.specs.Prelude.{◌≡◌, ℕ, ◌+◌, List, [], ◌∷◌, ◌++◌, slice_get, Option, Some, codes}
use Rattle.std.specs.Io.KnownBytes.{Appends}
use Rattle.std.specs.Fmt.{decimal}
use Rattle.program_edge.specs.Line.{line_of}
use Rattle.token_file.specs.Credential.{Credential}
use Rattle.token_file.specs.Writing.{row_text}
use Rattle.floor_store.specs.Records.{PassRecord, RowRecord}

-- the texts of a book's tokens in order, each with its row
abbrev pub rows_text : (Credential → RowRecord → List ℕ) → List Credential → List RowRecord → List ℕ
rows_text text [] rows = []
rows_text text (token ∷ book) [] = []
rows_text text (token ∷ book) (row ∷ rows) = text token row ++ rows_text text book rows

-- the text of the token `number` with its row is written, and nothing else
pub record WritesToken (text : Credential → RowRecord → List ℕ) (book : List Credential) (rows : List RowRecord)
    (number : ℕ) (old new : Option (List ℕ)) : Type 0 where
  pub token : Credential
  pub token_is : slice_get book number ≡ Some token
  pub row : RowRecord
  pub row_is : slice_get rows number ≡ Some row
  pub written : Appends old new (text token row)

-- the row of a users file for a token, with its floor, the first free factor
abbrev pub exported_row : Credential → RowRecord → List ℕ
exported_row token row = row_text token row.next

-- a users file: the tokens of a book in order, with the floors of their rows
abbrev pub export_text : List Credential → List RowRecord → List ℕ
export_text = rows_text exported_row

-- a space followed by a number
abbrev pub spaced_number : ℕ → List ℕ
spaced_number number = codes " " ++ decimal number

-- a pass with its number: `pass NUMBER TOKEN LO HI BOOT SEQ`
abbrev pub pass_line : ℕ → PassRecord → List ℕ
pass_line number pass = line_of (
    codes "pass" ++ spaced_number number ++ spaced_number pass.token
    ++ spaced_number pass.lo ++ spaced_number pass.hi ++ spaced_number pass.boot ++ spaced_number pass.seq
    )

-- passes in order, numbered from `number`
abbrev pub pass_lines : ℕ → List PassRecord → List ℕ
pass_lines number [] = []
pass_lines number (pass ∷ passes) = pass_line number pass ++ pass_lines (number + 1) passes

-- the committed passes in order of commit, numbered from 1
abbrev pub audit_text : List PassRecord → List ℕ
audit_text passes = pass_lines 1 passes
