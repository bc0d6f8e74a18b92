-- The fields of a line, divided by single spaces, and their numbers.
use Rattle.std.specs.Prelude.{ℕ, ◌==◌, ◌-◌, ◌^◌, ◌&&◌, nat_lt, Bool, false, List, [], ◌∷◌, length, Option, Some, None, Result, Ok, Err, if◌then◌else◌}
use Rattle.std.specs.Borrow.{Bor}
use Rattle.std.specs.Char.{is_ascii_digit}
use Rattle.std.specs.List.{list_all, slice_split}
use Rattle.field_text.specs.Number.{number_of}
use Rattle.floors_file.specs.declared.fault.LineFault.{LineFault}
use Rattle.floors_file.specs.declared.fault.LineFault.TheVariants.{MissingField, SurplusField, Number}

-- the result of the next step, or the first fault
infixl 10 ◌>>=◌
abbrev pub ◌>>=◌ : {A B E : Type 0} → Result A E → (A → Result B E) → Result B E
Ok x >>= next = next x
Err fault >>= next = Err fault

-- the fields of a line: the parts before, between and after its spaces
abbrev pub fields_of : List ℕ → List (List ℕ)
fields_of line = slice_split (λ byte. byte == 32) line

-- the fields of the rest after a space; after the last field there are no fields
abbrev pub fields_left : Option (Bor (List ℕ)) → List (List ℕ)
fields_left None = []
fields_left (Some rest) = fields_of rest.now

-- the first field, and the fields after it
abbrev pub next_field : List (List ℕ) → Result (List ℕ × List (List ℕ)) LineFault
next_field [] = Err MissingField
next_field (field ∷ fields) = Ok (field, fields)

-- a value, if no field follows it
abbrev pub with_none : {A : Type 0} → A → List (List ℕ) → Result A LineFault
with_none value [] = Ok value
with_none value (field ∷ fields) = Err SurplusField

-- the last field
abbrev pub last_field : List (List ℕ) → Result (List ℕ) LineFault
last_field fields = do
  field ← next_field fields
  with_none field.0 field.1

-- whether a number has a leading zero
abbrev pub has_leading_zero : List ℕ → Bool
has_leading_zero [] = false
has_leading_zero (digit ∷ []) = false
has_leading_zero (digit ∷ next ∷ digits) = digit == 48

-- whether a text is decimal digits alone, at least one
abbrev pub is_digits : List ℕ → Bool
is_digits text = list_all is_ascii_digit text && nat_lt 0 (length text)

-- a number below 2^64, or 2^64 - 1 for any other, which is above the range of each field too
abbrev pub or_most : Option ℕ → ℕ
or_most None = 2 ^ 64 - 1
or_most (Some number) = number

-- the number of decimal digits without leading zeros, or None
abbrev pub plain_number : List ℕ → Option ℕ
plain_number text =
    if has_leading_zero text then None
    else if is_digits text then Some (or_most (number_of text))
    else None

-- a number that was read, with the fields after it
abbrev pub with_fields : Option ℕ → List (List ℕ) → Result (ℕ × List (List ℕ)) LineFault
with_fields None fields = Err Number
with_fields (Some number) fields = Ok (number, fields)

-- the number of the first field, and the fields after it
abbrev pub number_field : List (List ℕ) → Result (ℕ × List (List ℕ)) LineFault
number_field fields = do
  field ← next_field fields
  with_fields (plain_number field.0) field.1

-- the number of the last field
abbrev pub last_number : List (List ℕ) → Result ℕ LineFault
last_number fields = do
  number ← number_field fields
  with_none number.0 number.1

-- the value of a field with the rest after it, or the fault
abbrev pub field_value :
    Result (Bor (List ℕ) × Option (Bor (List ℕ))) LineFault → Result (List ℕ × List (List ℕ)) LineFault
field_value (Ok field) = Ok (field.0.now, fields_left field.1)
field_value (Err fault) = Err fault

-- the value of the last field, or the fault
abbrev pub word_value : Result (Bor (List ℕ)) LineFault → Result (List ℕ) LineFault
word_value (Ok field) = Ok field.now
word_value (Err fault) = Err fault

-- the value of a number with the rest after it, or the fault
abbrev pub number_value : Result (ℕ × Option (Bor (List ℕ))) LineFault → Result (ℕ × List (List ℕ)) LineFault
number_value (Ok number) = Ok (number.0, fields_left number.1)
number_value (Err fault) = Err fault
