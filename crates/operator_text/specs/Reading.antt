-- The reading of a page: its last line decides.
use Rattle.std.specs.Prelude.{ℕ, ◌==◌, List, [], ◌∷◌, ◌++◌, Option, Some, None, codes, if◌then◌else◌}
use Rattle.std.specs.Borrow.{Bor}
use Rattle.std.specs.List.{slice_split}
use Rattle.std.specs.Option.{option_map}
use Rattle.std.specs.Str.{bytes_eq}
use Rattle.field_text.specs.Cut.{Halves, halves_of}
use Rattle.operator_text.specs.Number.{line_number}
use Rattle.operator_text.specs.Page.{PageRecord}

-- the lines before the last one, and the last one without its LF
pub record LastCut : Type 0 where
  pub before : List ℕ
  pub last : List ℕ

-- the same with one more line in front
abbrev pub after_line : List ℕ → LastCut → LastCut
after_line line cut = record { before = line ++ 10 ∷ cut.before; last = cut.last }

-- the cut of the parts between LFs, or None if bytes follow the last LF
abbrev pub last_of : List (List ℕ) → Option LastCut
last_of [] = None
last_of (part ∷ []) = None
last_of (part ∷ [] ∷ []) = Some (record { before = []; last = part })
last_of (part ∷ parts) = option_map (after_line part) (last_of parts)

-- the bytes before the last line, and the last line without its LF; None if they don't end with LF
abbrev pub last_cut : List ℕ → Option LastCut
last_cut bytes = last_of (slice_split (λ byte. byte == 10) bytes)

-- the number of a line `next N`, which is cut in two at its first space
abbrev pub next_of : Option Halves → Option (Option ℕ)
next_of None = None
next_of (Some halves) =
    if bytes_eq halves.before (codes "next") then option_map (λ next. Some next) (line_number halves.behind) else None

-- what a last line says: a number, or None for the end
abbrev pub ending_of : List ℕ → Option (Option ℕ)
ending_of line = if bytes_eq line (codes "end") then Some None else next_of (halves_of 32 line)

-- the page of a cut
abbrev pub page_of_cut : Option LastCut → Option PageRecord
page_of_cut None = None
page_of_cut (Some cut) = option_map (λ next. record { lines = cut.before; next = next }) (ending_of cut.last)

-- the page of these bytes, or None
abbrev pub page_at : List ℕ → Option PageRecord
page_at bytes = page_of_cut (last_cut bytes)

-- ---- as the program represents them

abbrev pub page_value : Bor (List ℕ) × Option ℕ → PageRecord
page_value page = record { lines = page.0.now; next = page.1 }

abbrev pub cut_value : Bor (List ℕ) × Bor (List ℕ) → LastCut
cut_value cut = record { before = cut.0.now; last = cut.1.now }
