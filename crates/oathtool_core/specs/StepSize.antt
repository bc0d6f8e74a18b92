-- The step size of the words.
use Rattle.std.specs.Prelude.{ℕ, ◌-◌, ◌==◌, ◌&&◌, nat_lt, nat_le, if◌then◌else◌, List, length, take, slice_index, Option, Some, None}
use Rattle.std.specs.Option.{option_and_then}
use Rattle.field_text.specs.Number.{number_of}

-- the text without a last `s`
abbrev pub without_unit : List ℕ → List ℕ
without_unit text =
    if nat_lt 0 (length text) && (slice_index text (length text - 1) == 115)
    then take (length text - 1) text
    else text

-- the seconds, if they are in the range of a time step
abbrev pub step_size_in_range : ℕ → Option ℕ
step_size_in_range seconds = if nat_le 1 seconds && nat_le seconds 1_000_000 then Some seconds else None

-- the length of a time step in seconds
abbrev pub step_size_of : List ℕ → Option ℕ
step_size_of text = option_and_then step_size_in_range (number_of (without_unit text))
