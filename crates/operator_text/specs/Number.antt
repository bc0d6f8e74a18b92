-- The number of a line, as text: decimal digits without leading zeros, below 2 ^ 32.
use Rattle.std.specs.Prelude.{ℕ, ◌==◌, ◌^◌, nat_lt, Bool, false, List, [], ◌∷◌, Option, Some, None, if◌then◌else◌}
use Rattle.field_text.specs.Number.{number_of}

-- whether a text of two bytes or more begins with the digit 0
abbrev pub has_leading_zero : List ℕ → Bool
has_leading_zero [] = false
has_leading_zero (digit ∷ []) = false
has_leading_zero (digit ∷ next ∷ digits) = digit == 48

-- a number below 2 ^ 32, or None
abbrev pub small : Option ℕ → Option ℕ
small None = None
small (Some number) = if nat_lt number (2 ^ 32) then Some number else None

-- the number of a line, or None if the text is not its one spelling
abbrev pub line_number : List ℕ → Option ℕ
line_number text = if has_leading_zero text then None else small (number_of text)
