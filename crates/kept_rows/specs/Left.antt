-- The rows of a users file that are left out, as the log names them.
use Rattle.std.specs.Prelude.{ℕ, ◌+◌, ◌==◌, ◌&&◌, nat_le, Bool, false, List, [], ◌∷◌, ◌++◌, drop, map, take, codes, if◌then◌else◌}
use Rattle.std.specs.Fmt.{decimal}
use Rattle.std.specs.Str.{bytes_eq}
use Rattle.token_file.specs.Fields.{fields_of, lines_of}

-- whether a field begins a comment
abbrev pub is_comment : List ℕ → Bool
is_comment [] = false
is_comment (byte ∷ bytes) = byte == 35

-- a byte of a user as it is printed: a graphic byte of ASCII, or `?`
abbrev pub printed : ℕ → ℕ
printed byte = if nat_le 33 byte && nat_le byte 126 then byte else 63

-- a user as it is printed: its first 64 bytes
abbrev pub shown : List ℕ → List ℕ
shown user = map printed (take 64 user)

-- the first of fields, or no bytes if there is none
abbrev pub first_of : List (List ℕ) → List ℕ
first_of [] = []
first_of (field ∷ fields) = field

-- the beginning of a report, with the number of a line
unfoldable pub head : ℕ → List ℕ
head number = codes "enrol left line=" ++ decimal number ++ codes " user="

-- the report of the row of a user, by the number of its line
unfoldable pub report : ℕ → List ℕ → List ℕ
report number user = head number ++ shown user ++ 10 ∷ []

-- the report of a line by its fields: none if it has no field or is a comment
abbrev pub report_of : ℕ → List (List ℕ) → List ℕ
report_of number [] = []
report_of number (field ∷ fields) = if is_comment field then [] else report number (first_of fields)

-- whether the next of the kept lines is `line`
abbrev pub is_next : List (List ℕ) → List ℕ → Bool
is_next [] line = false
is_next (next ∷ kept) line = bytes_eq next line

-- the reports of lines from a number on, which have the kept lines in their order; those have none
abbrev pub left_from : List (List ℕ) → ℕ → List (List ℕ) → List ℕ
left_from kept number [] = []
left_from kept number (line ∷ lines) =
    if is_next kept line then left_from (drop 1 kept) (number + 1) lines
    else report_of number (fields_of line) ++ left_from kept (number + 1) lines

-- what is told first
abbrev pub first_line : List ℕ
first_line = codes "enrol refused Full\n"

-- the reports of the rows of a text that are not among its kept rows
abbrev pub left_text : List ℕ → List ℕ → List ℕ
left_text text kept = first_line ++ left_from (lines_of kept) 1 (lines_of text)
