-- Worked cases: users, lines and pages.
use Rattle.std.specs.Prelude.{ℕ, false, true, List, [], ◌∷◌, ◌++◌, replicate, Option, Some, codes}
use Rattle.operator_text.specs.Page.{PageRecord, PartRecord}

-- `count` letters
abbrev pub letters : ℕ → List ℕ
letters count = replicate count 97

-- a line of `count` letters and LF
abbrev pub line_of : ℕ → List ℕ
line_of count = letters count ++ codes "\n"

-- a report of three lines
abbrev pub three_lines : List (List ℕ)
three_lines = codes "a\n" ∷ codes "b\n" ∷ codes "c\n" ∷ []

-- a page that was read
abbrev pub page_read : List ℕ → Option ℕ → Option PageRecord
page_read lines next = Some (record { lines = lines; next = next })

-- a page that lines were pushed to
abbrev pub open_part : List ℕ → ℕ → PartRecord
open_part lines next = record { lines = lines; next = next; is_full = false }

-- a page that refused a line
abbrev pub full_part : List ℕ → ℕ → PartRecord
full_part lines next = record { lines = lines; next = next; is_full = true }
