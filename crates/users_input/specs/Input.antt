-- The lines of an input up to a limit, and its two parts.
use Rattle.std.specs.Prelude.{◌≡◌, ◌⊎◌, ◌<◌, ◌≤◌, ℕ, ◌+◌, ◌==◌, nat_lt, not, Bool, false, if◌then◌else◌, List, [], ◌∷◌, length, take, drop, take_while, ◌++◌, Option, Some, None, codes, slice_index_or}
use Rattle.std.specs.List.{flat_map, list_any, slice_split}
use Rattle.std.specs.Str.{bytes_eq}
use Rattle.users_input.specs.declared.input.NextLine.{NextLine}
use Rattle.users_input.specs.declared.input.NextLine.TheVariants.{Whole, Cut, End}

-- the bytes of a line without the LF, or None for a line that continues past the limit
abbrev pub TextLine : Type 0
TextLine = Option (List ℕ)

-- the pieces of a text between its LFs
abbrev pub pieces_of : List ℕ → List (List ℕ)
pieces_of text = slice_split (λ byte. byte == 10) text

-- The text after the last LF is a line unless it is empty. If the text was cut off, it is the line that continues.
abbrev pub last_line : Bool → List ℕ → List TextLine
last_line is_cut last = if is_cut then None ∷ [] else if length last == 0 then [] else Some last ∷ []

-- the lines of the pieces between LFs, with the last one as above
abbrev pub lines_between : Bool → List (List ℕ) → List TextLine
lines_between is_cut [] = []
lines_between is_cut (last ∷ []) = last_line is_cut last
lines_between is_cut (line ∷ next ∷ more) = Some line ∷ lines_between is_cut (next ∷ more)

-- the lines of a text up to `limit` bytes
abbrev pub lines_of : ℕ → List ℕ → List TextLine
lines_of limit text = lines_between (nat_lt limit (length text)) (pieces_of (take limit text))

-- whether a text is `%%`
abbrev pub is_mark : List ℕ → Bool
is_mark text = bytes_eq text (codes "%%")

-- whether a line is `%%`
abbrev pub is_marker : TextLine → Bool
is_marker None = false
is_marker (Some line) = is_mark line

-- whether one of the lines is `%%`
abbrev pub has_marker : List TextLine → Bool
has_marker lines = list_any is_marker lines

-- the lines before the first `%%`
abbrev pub users_part : List TextLine → List TextLine
users_part lines = take_while (λ line. not (is_marker line)) lines

-- the lines after the first `%%`
abbrev pub rest_part : List TextLine → List TextLine
rest_part lines = drop (length (users_part lines) + 1) lines

-- the bytes of a whole line, with the LF that ends it
abbrev pub line_bytes : TextLine → List ℕ
line_bytes None = []
line_bytes (Some line) = line ++ 10 ∷ []

-- the users file in the bytes that were read of an input: the lines before the first `%%`, or all without one
abbrev pub users_file : List TextLine → List ℕ → List ℕ
users_file lines read = if has_marker lines then flat_map line_bytes (users_part lines) else read

-- a line without the LF that ends it
abbrev pub line_text : List ℕ → List ℕ
line_text line = slice_index_or (pieces_of line) 0 []

-- The next item of a text, followed by `rest`. `room` bytes of the text and `left` bytes of the rest are within the
-- limit. A line ends with an LF unless the text ends.
abbrev pub IsNext : NextLine → List ℕ → ℕ → List ℕ → ℕ → List ℕ → Type 0
IsNext Whole line room text left rest =
    (lines_of room text ≡ Some (line_text line) ∷ lines_of left rest)
    × ((line ≡ line_text line ++ 10 ∷ []) ⊎ (rest ≡ []))
IsNext Cut line room text left rest = (lines_of room text ≡ None ∷ []) × (left ≡ 0)
IsNext End line room text left rest = text ≡ []

-- the next item of a text was read, and the rest remains in the input
pub record TakesLine (found : NextLine) (line : List ℕ) (room : ℕ) (text : List ℕ) (left : ℕ)
    (remaining : Option (List ℕ)) : Type 0 where
  pub rest : List ℕ
  pub remaining_is : remaining ≡ Some rest
  pub parts : text ≡ line ++ rest
  pub next : IsNext found line room text left rest

-- A line has bytes, with its LF. The end has none.
abbrev pub HasLine : NextLine → List ℕ → Type 0
HasLine Whole line = 0 < length line
HasLine Cut line = 0 < length line
HasLine End line = line ≡ []

-- A whole line uses at least one byte within the limit.
abbrev pub HasRoom : NextLine → ℕ → ℕ → Type 0
HasRoom Whole room left = left < room
HasRoom Cut room left = left ≤ room
HasRoom End room left = left ≤ room

-- The bytes of a text within the limit are read, and `is_cut` says whether the text continues.
pub record IsReadTo (room : ℕ) (text read : List ℕ) (is_cut : Bool) : Type 0 where
  pub read_is : read ≡ take room text
  pub cut_is : is_cut ≡ nat_lt room (length text)
