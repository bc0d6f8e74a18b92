-- The lines of a users file that are kept.
use Rattle.std.specs.Prelude.{ℕ, Bool, List, [], ◌∷◌, ◌++◌, if◌then◌else◌}
use Rattle.std.specs.List.{flat_map}
use Rattle.token_file.specs.Fields.{lines_of}

-- a line with its LF if it is kept
abbrev pub kept_line : (List ℕ → Bool) → List ℕ → List ℕ
kept_line is_kept line = if is_kept line then line ++ 10 ∷ [] else []

-- the lines of a text that are kept, in order, each with an LF
abbrev pub kept_rows : (List ℕ → Bool) → List ℕ → List ℕ
kept_rows is_kept text = flat_map (kept_line is_kept) (lines_of text)
