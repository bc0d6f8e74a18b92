-- The lines of a report's text.
use Rattle.std.specs.Prelude.{◌≡◌, ℕ, ◌==◌, List, [], ◌∷◌, ◌++◌}
use Rattle.std.specs.List.{concat, slice_split}
use Rattle.operator_text.specs.Page.{AreLines}

-- the parts between LFs, but the last one, each with its LF
abbrev pub with_ends : List (List ℕ) → List (List ℕ)
with_ends [] = []
with_ends (part ∷ []) = []
with_ends (part ∷ parts) = (part ++ 10 ∷ []) ∷ with_ends parts

-- the lines of a text, each with its LF; bytes after the last LF are no line
abbrev pub lines_of : List ℕ → List (List ℕ)
lines_of text = with_ends (slice_split (λ byte. byte == 10) text)

-- a text of lines that a report may have, and nothing after the last one
pub record IsText (text : List ℕ) : Type 0 where
  pub lines : AreLines (lines_of text)
  pub whole : concat (lines_of text) ≡ text
