-- The pages of a report. A report is a list of lines, each with its LF.
use Rattle.std.specs.Prelude.{◌≡◌, ℕ, ◌+◌, ◌^◌, ◌<◌, ◌≤◌, ◌&&◌, ◌==◌, nat_le, nat_lt, Bool, true, false, not, All, List, [], ◌∷◌, ◌++◌, length, drop, Option, Some, None, codes, if◌then◌else◌}
use Rattle.std.specs.Fmt.{decimal}
use Rattle.std.specs.List.{concat}

-- a line: at most 512 bytes, of which the last one is LF and no other one
pub record IsLine (line : List ℕ) : Type 0 where
  pub text : List ℕ
  pub is : line ≡ text ++ 10 ∷ []
  pub has_one_lf : All (λ byte. (byte == 10) ≡ false) text
  pub most : length line ≤ 512

-- the lines of a report: so few that each one's number, and the number after the last one, has 32 bits
pub record AreLines (lines : List (List ℕ)) : Type 0 where
  pub each : All IsLine lines
  pub most : length lines < 2 ^ 32

-- whether a page with `used` bytes has room for a line, if the line after it has number `next`. Of the 1,024 bytes of a
-- page, 16 are kept for its last line
abbrev pub has_room : ℕ → ℕ → List ℕ → Bool
has_room used next line = nat_le (used + length line) 1008 && nat_lt next (2 ^ 32)

-- the first ones of `lines`, which begin with number `from`, for which a page with `used` bytes has room
abbrev pub fitting : ℕ → ℕ → List (List ℕ) → List (List ℕ)
fitting used from [] = []
fitting used from (line ∷ lines) =
    if has_room used (from + 1) line then line ∷ fitting (used + length line) (from + 1) lines else []

-- a page: the bytes of its lines, and the number of the line with which the next page begins, if there is one
pub record PageRecord : Type 0 where
  pub lines : List ℕ
  pub next : Option ℕ

-- the last line of a page
abbrev pub last_line : Option ℕ → List ℕ
last_line None = codes "end\n"
last_line (Some next) = codes "next " ++ decimal next ++ codes "\n"

-- the bytes of a page
abbrev pub page_text : PageRecord → List ℕ
page_text page = page.lines ++ last_line page.next

-- whether a line is left
abbrev pub is_left : List (List ℕ) → Bool
is_left [] = false
is_left (line ∷ lines) = true

-- the number of the first line that is left, if one is
abbrev pub next_page : Bool → ℕ → Option ℕ
next_page is_left next = if is_left then Some next else None

-- the page of `lines`, which begin with number `from`; the lines `fitted` are the first ones of them
abbrev pub page_with : List (List ℕ) → ℕ → List (List ℕ) → PageRecord
page_with fitted from lines = record {
  lines = concat fitted;
  next = next_page (is_left (drop (length fitted) lines)) (from + length fitted);
}

-- the page of `lines`, which begin with number `from`: the lines that fit
abbrev pub page_for : ℕ → List (List ℕ) → PageRecord
page_for from lines = page_with (fitting 0 from lines) from lines

-- its bytes
abbrev pub page_of : ℕ → List (List ℕ) → List ℕ
page_of from lines = page_text (page_for from lines)

-- ---- a page that lines are pushed to

-- the bytes of its lines, the number of the line that comes next, and whether it had no room for one
pub record PartRecord : Type 0 where
  pub lines : List ℕ
  pub next : ℕ
  pub is_full : Bool

-- a page without lines
abbrev pub new_part : ℕ → PartRecord
new_part from = record { lines = []; next = from; is_full = false }

-- whether it takes a line
abbrev pub takes : PartRecord → List ℕ → Bool
takes part line = not part.is_full && has_room (length part.lines) (part.next + 1) line

-- the page after a push
abbrev pub pushed : PartRecord → List ℕ → PartRecord
pushed part line =
    if takes part line then record { lines = part.lines ++ line; next = part.next + 1; is_full = false }
    else record { lines = part.lines; next = part.next; is_full = true }

-- the page after pushes
abbrev pub pushed_all : PartRecord → List (List ℕ) → PartRecord
pushed_all part [] = part
pushed_all part (line ∷ lines) = pushed_all (pushed part line) lines

-- its text
abbrev pub part_text : PartRecord → List ℕ
part_text part = page_text (record { lines = part.lines; next = next_page part.is_full part.next })
