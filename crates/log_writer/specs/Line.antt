-- The line of a log that has no LF yet.
use Rattle.std.specs.Prelude.{ℕ, ◌+◌, ◌-◌, ◌==◌, min, Bool, List, ◌++◌, length, take, position, Option, Some, None}

-- the maximum length of a line, in bytes without its LF
abbrev pub max_line : ℕ
max_line = 1002

-- whether a byte ends a line
abbrev pub is_end : ℕ → Bool
is_end byte = byte == 10

-- the line after more bytes, without those that are beyond its maximum length
abbrev pub with_bytes : List ℕ → List ℕ → List ℕ
with_bytes line bytes = line ++ take (min (length bytes) (max_line - length line)) bytes

-- the place of the first LF of some bytes, if there is one
abbrev pub first_end : List ℕ → Option ℕ
first_end bytes = position is_end bytes

-- the number of bytes that one write takes: those through the first LF, or all
abbrev pub taken_at : Option ℕ → List ℕ → ℕ
taken_at None bytes = length bytes
taken_at (Some place) bytes = place + 1
