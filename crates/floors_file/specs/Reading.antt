-- The content of a floors file's text. The first fault of the first faulty line decides. Floor: the first free factor
-- of a token at a node.
use Rattle.std.specs.Prelude.{ℕ, ◌+◌, ◌^◌, nat_le, nat_lt, Bool, true, false, ◌&&◌, List, [], ◌∷◌, ◌++◌, length, Result, Ok, Err, codes, if◌then◌else◌}
use Rattle.std.specs.List.{list_any}
use Rattle.std.specs.Str.{bytes_eq}
use Rattle.field_text.specs.Word.{is_word}
use Rattle.token_file.specs.Fields.{has_bytes, lines_of}
use Rattle.floors_file.specs.declared.fault.LineFault.{LineFault}
use Rattle.floors_file.specs.declared.fault.LineFault.TheVariants.{NotFloors, Version, Range, UserName, Twice, TooFew, TooMany, NoEnd, Memory}
use Rattle.floors_file.specs.declared.floors.Floor.{Floor}
use Rattle.floors_file.specs.declared.reading.HeadLine.{HeadLine}
use Rattle.floors_file.specs.Fields.{◌>>=◌, fields_of, last_number, next_field, number_field}
use Rattle.floors_file.specs.Floors.{FloorRecord, FloorsRecord, floor_value}

-- whether the numbers of a first line are in their ranges, with at most `most` rows
abbrev pub is_head : ℕ → HeadLine → Bool
is_head most line =
    nat_le 1 line.head.node && nat_le line.head.node line.head.members && nat_le line.head.members 9
    && nat_lt line.head.boot (2 ^ 62) && nat_lt line.head.moment (2 ^ 40) && nat_le line.tokens most

-- a first line whose numbers are in their ranges, with at most `most` rows
abbrev pub ranged : ℕ → HeadLine → Result HeadLine LineFault
ranged most line = if is_head most line then Ok line else Err Range

-- the numbers of a first line
abbrev pub head_numbers : List (List ℕ) → Result HeadLine LineFault
head_numbers fields = do
  node ← number_field fields
  members ← number_field node.1
  boot ← number_field members.1
  moment ← number_field boot.1
  tokens ← last_number moment.1
  ranged 10000 (record {
    head = record { node = node.0; members = members.0; boot = boot.0; moment = moment.0 };
    tokens = tokens;
  })

-- the first line after its first word
abbrev pub head_of_version : List (List ℕ) → Result HeadLine LineFault
head_of_version fields = do
  version ← next_field fields
  if bytes_eq version.0 (codes "1") then head_numbers version.1 else Err Version

-- the numbers of the first line
abbrev pub head_of : List (List ℕ) → Result HeadLine LineFault
head_of fields = do
  word ← next_field fields
  if bytes_eq word.0 (codes "floors") then head_of_version word.1 else Err NotFloors

-- whether one of the rows is a user's
abbrev pub has_user : List ℕ → List FloorRecord → Bool
has_user user rows = list_any (λ row. bytes_eq row.user user) rows

-- the row of a user and its floor, after other rows
abbrev pub new_row : List FloorRecord → List ℕ → ℕ → Result FloorRecord LineFault
new_row rows user next =
    if nat_lt (2 ^ 62) next then Err Range
    else if has_user user rows then Err Twice
    else Ok (record { user = user; next = next })

-- the row of a user's line, after other rows
abbrev pub row_of_user : List FloorRecord → List ℕ → List (List ℕ) → Result FloorRecord LineFault
row_of_user rows user fields = do
  next ← last_number fields
  new_row rows user next

-- the row of a line after the first, after other rows
abbrev pub row_of : List FloorRecord → List (List ℕ) → Result FloorRecord LineFault
row_of rows fields = do
  user ← next_field fields
  if is_word user.0 then row_of_user rows user.0 user.1 else Err UserName

-- the value of a row, or the fault
abbrev pub row_value : Result Floor LineFault → Result FloorRecord LineFault
row_value (Ok row) = Ok (floor_value row)
row_value (Err fault) = Err fault

-- an outcome with the line number of a fault
abbrev pub at_line : {A : Type 0} → ℕ → Result A LineFault → Result A (ℕ × LineFault)
at_line number (Ok value) = Ok value
at_line number (Err fault) = Err (number, fault)

-- the part after the last LF: empty, after all rows
abbrev pub end_of : ℕ → List FloorRecord → List ℕ → Result (List FloorRecord) LineFault
end_of tokens rows line =
    if has_bytes line then Err NoEnd else if nat_lt (length rows) tokens then Err TooFew else Ok rows

-- one more row, if there are fewer than `tokens`
abbrev pub next_row : ℕ → List FloorRecord → List ℕ → Result FloorRecord LineFault
next_row tokens rows line = if nat_le tokens (length rows) then Err TooMany else row_of rows (fields_of line)

-- `tokens` rows, from the remaining lines after other rows
abbrev pub rows_from : ℕ → List FloorRecord → List (List ℕ) → Result (List FloorRecord) (ℕ × LineFault)
rows_from tokens rows [] = Err (length rows + 2, NoEnd)
rows_from tokens rows (line ∷ []) = at_line (length rows + 2) (end_of tokens rows line)
rows_from tokens rows (line ∷ next ∷ lines) = do
  row ← at_line (length rows + 2) (next_row tokens rows line)
  rows_from tokens (rows ++ row ∷ []) (next ∷ lines)

-- a first line that an LF ends
abbrev pub ended_head : List (List ℕ) → HeadLine → Result HeadLine LineFault
ended_head [] line = Err NoEnd
ended_head (next ∷ lines) line = Ok line

-- the numbers of the first line, before other lines
abbrev pub first_line : List (List ℕ) → List ℕ → Result HeadLine LineFault
first_line lines first = head_of (fields_of first) >>= ended_head lines

-- the content of lines
abbrev pub floors_of_lines : List (List ℕ) → Result FloorsRecord (ℕ × LineFault)
floors_of_lines [] = Err (1, NotFloors)
floors_of_lines (first ∷ lines) = do
  line ← at_line 1 (first_line lines first)
  rows ← rows_from line.tokens [] lines
  Ok (record { head = line.head; rows = rows })

-- the content of a floors file's text, or its first fault with the line
abbrev pub floors_of : List ℕ → Result FloorsRecord (ℕ × LineFault)
floors_of text = floors_of_lines (lines_of text)

-- whether a fault is a refused allocation, and not one of the text
abbrev pub is_memory : LineFault → Bool
is_memory Memory = true
is_memory fault = false
