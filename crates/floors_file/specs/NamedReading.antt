-- The content of a floors file by names. The MAC is looked at first, then the first fault of the first faulty line.
use Rattle.std.specs.Prelude.{ℕ, zero, suc, ◌+◌, ◌^◌, ◌==◌, nat_le, nat_lt, not, Bool, ◌&&◌, List, [], ◌∷◌, ◌++◌, length, Option, Some, None, Result, Ok, Err, codes, if◌then◌else◌}
use Rattle.std.specs.Borrow.{Bor}
use Rattle.std.specs.List.{list_all}
use Rattle.std.specs.Str.{bytes_eq}
use Rattle.field_text.specs.Word.{is_word}
use Rattle.hex.specs.Hex.{decode_sized, encode_lower}
use Rattle.hex.specs.declared.error.FromHexError.{FromHexError}
use Rattle.token_file.specs.Fields.{has_bytes, lines_of}
use Rattle.floors_file.specs.declared.fault.LineFault.{LineFault}
use Rattle.floors_file.specs.declared.fault.LineFault.TheVariants.{NotFloors, Version, Range, Twice, TooFew, TooMany, NoEnd, NamesWord, Name, Heard, Life}
use Rattle.floors_file.specs.declared.named.HeardBoot.{HeardBoot}
use Rattle.floors_file.specs.declared.named.NamedFloor.{NamedFloor}
use Rattle.floors_file.specs.declared.named_reading.NamedLine.{NamedLine}
use Rattle.floors_file.specs.Fields.{◌>>=◌, fields_left, fields_of, last_field, last_number, next_field, number_field}
use Rattle.floors_file.specs.Named.{NamedFloorsRecord, NamedHeadRecord, named_head_value, plain_head}
use Rattle.floors_file.specs.NamedRows.{has_name}
use Rattle.floors_file.specs.Reading.{at_line, is_head}
use Rattle.floors_file.specs.Sealed.{body_of}

-- ---- the first line

-- the head, and the number of rows
pub record NamedLineRecord : Type 0 where
  pub head : NamedHeadRecord
  pub rows : ℕ

-- the value of a first line
abbrev pub named_line_value : Result NamedLine LineFault → Result NamedLineRecord LineFault
named_line_value (Ok line) = Ok (record { head = named_head_value line.head; rows = line.rows })
named_line_value (Err fault) = Err fault

-- whether a word can be a names word: 12 to 64 bytes without a blank
abbrev pub is_names_word : List ℕ → Bool
is_names_word word = nat_le 12 (length word) && is_word word

-- whether the numbers of a first line are in their ranges, with at most 65,536 rows
abbrev pub is_named_head : NamedLineRecord → Bool
is_named_head line = is_head 65536 (record { head = plain_head line.head; tokens = line.rows })

-- a first line with a names word and a life, whose numbers are in their ranges
abbrev pub named_ranged : NamedLineRecord → Result NamedLineRecord LineFault
named_ranged line =
    if not (is_names_word line.head.names) then Err NamesWord
    else if not (is_named_head line) then Err Range
    else if is_word line.head.life then Ok line
    else Err Life

-- the fields of a first line after its version
abbrev pub named_numbers : List (List ℕ) → Result NamedLineRecord LineFault
named_numbers fields = do
  node ← number_field fields
  members ← number_field node.1
  boot ← number_field members.1
  moment ← number_field boot.1
  rows ← number_field moment.1
  names ← next_field rows.1
  life ← last_field names.1
  named_ranged (record {
    head = record {
      node = node.0;
      members = members.0;
      boot = boot.0;
      moment = moment.0;
      names = names.0;
      life = life;
    };
    rows = rows.0;
  })

-- the first line after its first word
abbrev pub named_of_version : List (List ℕ) → Result NamedLineRecord LineFault
named_of_version fields = do
  version ← next_field fields
  if bytes_eq version.0 (codes "2") then named_numbers version.1 else Err Version

-- the first line
abbrev pub named_head_of : List (List ℕ) → Result NamedLineRecord LineFault
named_head_of fields = do
  word ← next_field fields
  if bytes_eq word.0 (codes "floors") then named_of_version word.1 else Err NotFloors

-- ---- the rows

-- the bytes that a field names, if it is their lower case digits
abbrev pub if_lower : List ℕ → Result (List ℕ) FromHexError → Option (List ℕ)
if_lower field (Ok bytes) = if bytes_eq (encode_lower bytes) field then Some bytes else None
if_lower field (Err fault) = None

-- the 16 bytes of a field
abbrev pub bytes_of_field : List ℕ → Option (List ℕ)
bytes_of_field field = if_lower field (decode_sized field 16)

-- bytes that were read, with the fields after them
abbrev pub bytes_before : Option (List ℕ) → List (List ℕ) → Result (List ℕ × List (List ℕ)) LineFault
bytes_before None fields = Err Name
bytes_before (Some bytes) fields = Ok (bytes, fields)

-- the 16 bytes of the first field, and the fields after it
abbrev pub bytes_field : List (List ℕ) → Result (List ℕ × List (List ℕ)) LineFault
bytes_field fields = do
  field ← next_field fields
  bytes_before (bytes_of_field field.0) field.1

-- the value of bytes with the rest after them, or the fault
abbrev pub bytes_value :
    Result (List ℕ × Option (Bor (List ℕ))) LineFault → Result (List ℕ × List (List ℕ)) LineFault
bytes_value (Ok bytes) = Ok (bytes.0, fields_left bytes.1)
bytes_value (Err fault) = Err fault

-- the row of a name, a seed and a floor, after other rows
abbrev pub new_named_row : List NamedFloor → List ℕ → List ℕ → ℕ → Result NamedFloor LineFault
new_named_row rows name seed next =
    if nat_lt (2 ^ 62) next then Err Range
    else if has_name name rows then Err Twice
    else Ok (record { name = name; seed = seed; next = next })

-- the row of a line, after other rows
abbrev pub named_row_of : List NamedFloor → List (List ℕ) → Result NamedFloor LineFault
named_row_of rows fields = do
  name ← bytes_field fields
  seed ← bytes_field name.1
  next ← last_number seed.1
  new_named_row rows name.0 seed.0 next

-- the fault of a part that has no LF, where a row should be
abbrev pub row_fault : List ℕ → LineFault
row_fault line = if has_bytes line then NoEnd else TooFew

-- `count` more rows after other rows, and the lines after them. `number` is the next line's.
abbrev pub named_rows_from :
    ℕ → ℕ → List NamedFloor → List (List ℕ) → Result (List NamedFloor × List (List ℕ)) (ℕ × LineFault)
named_rows_from number zero rows lines = Ok (rows, lines)
named_rows_from number (suc count) rows [] = Err (number, NoEnd)
named_rows_from number (suc count) rows (line ∷ []) = Err (number, row_fault line)
named_rows_from number (suc count) rows (line ∷ next ∷ lines) = do
  row ← at_line number (named_row_of rows (fields_of line))
  named_rows_from (number + 1) count (rows ++ row ∷ []) (next ∷ lines)

-- ---- the boots that the node heard

-- whether the numbers of a line are in their ranges
abbrev pub is_heard_ranged : NamedHeadRecord → HeardBoot → Bool
is_heard_ranged head one = nat_le 1 one.member && nat_le one.member head.members && nat_lt one.boot (2 ^ 62)

-- whether the member is not the node, and is above the members of earlier lines
abbrev pub is_heard_next : NamedHeadRecord → List HeardBoot → HeardBoot → Bool
is_heard_next head heard one =
    not (one.member == head.node) && list_all (λ before. nat_lt before.member one.member) heard

-- one more boot, after others
abbrev pub new_heard : NamedHeadRecord → List HeardBoot → HeardBoot → Result HeardBoot LineFault
new_heard head heard one =
    if not (is_heard_ranged head one) then Err Range
    else if is_heard_next head heard one then Ok one
    else Err Heard

-- the fields of a line after its word
abbrev pub heard_numbers : NamedHeadRecord → List HeardBoot → List (List ℕ) → Result HeardBoot LineFault
heard_numbers head heard fields = do
  member ← number_field fields
  boot ← last_number member.1
  new_heard head heard (record { member = member.0; boot = boot })

-- the boot of a line, after others; any other line is a row too many
abbrev pub heard_of : NamedHeadRecord → List HeardBoot → List (List ℕ) → Result HeardBoot LineFault
heard_of head heard fields = do
  word ← next_field fields
  if bytes_eq word.0 (codes "heard") then heard_numbers head heard word.1 else Err TooMany

-- the part after the last LF: empty
abbrev pub heard_end : List HeardBoot → List ℕ → Result (List HeardBoot) LineFault
heard_end heard line = if has_bytes line then Err NoEnd else Ok heard

-- the boots of the remaining lines, after others. `number` is the next line's.
abbrev pub heard_from :
    ℕ → NamedHeadRecord → List HeardBoot → List (List ℕ) → Result (List HeardBoot) (ℕ × LineFault)
heard_from number head heard [] = Err (number, NoEnd)
heard_from number head heard (line ∷ []) = at_line number (heard_end heard line)
heard_from number head heard (line ∷ next ∷ lines) = do
  one ← at_line number (heard_of head heard (fields_of line))
  heard_from (number + 1) head (heard ++ one ∷ []) (next ∷ lines)

-- ---- the whole text

-- the head with the number of rows, the rows, and the boots of the lines after them
abbrev pub named_after :
    NamedLineRecord → List NamedFloor × List (List ℕ) → Result NamedFloorsRecord (ℕ × LineFault)
named_after line read = do
  heard ← heard_from (line.rows + 2) line.head [] read.1
  Ok (record { head = line.head; rows = read.0; heard = heard })

-- a first line that an LF ends
abbrev pub ended_named : List (List ℕ) → NamedLineRecord → Result NamedLineRecord LineFault
ended_named [] line = Err NoEnd
ended_named (next ∷ lines) line = Ok line

-- the first line, before other lines
abbrev pub first_named : List (List ℕ) → List ℕ → Result NamedLineRecord LineFault
first_named lines first = named_head_of (fields_of first) >>= ended_named lines

-- the content of lines
abbrev pub named_of_lines : List (List ℕ) → Result NamedFloorsRecord (ℕ × LineFault)
named_of_lines [] = Err (1, NotFloors)
named_of_lines (first ∷ lines) = do
  line ← at_line 1 (first_named lines first)
  rows ← named_rows_from 2 line.rows [] lines
  named_after line rows

-- the content of a text under a key, or its first fault with the line
abbrev pub named_floors_of : List ℕ → List ℕ → Result NamedFloorsRecord (ℕ × LineFault)
named_floors_of key text = do
  body ← body_of key text
  named_of_lines (lines_of body)
