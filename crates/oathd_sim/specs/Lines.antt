-- The lines of a script.
use Rattle.std.specs.Prelude.{ℕ, ◌==◌, Bool, true, List, [], ◌∷◌, not}
use Rattle.std.specs.List.{filter, slice_split}

-- the parts of a text between its LFs
abbrev pub lines_of : List ℕ → List (List ℕ)
lines_of text = slice_split (λ byte. byte == 10) text

-- the parts of a text between its spaces
abbrev pub fields_of : List ℕ → List (List ℕ)
fields_of text = slice_split (λ byte. byte == 32) text

-- whether a line is a remark: it is empty, or it begins with `#`
abbrev pub is_remark : List ℕ → Bool
is_remark [] = true
is_remark (byte ∷ more) = byte == 35

-- the lines that are not remarks
abbrev pub telling_lines : List (List ℕ) → List (List ℕ)
telling_lines lines = filter (λ line. not (is_remark line)) lines
