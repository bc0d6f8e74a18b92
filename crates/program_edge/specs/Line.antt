-- Lines of output.
use Rattle.std.specs.Prelude.{ℕ, List, [], ◌∷◌, ◌++◌}

-- a text followed by an LF
abbrev pub line_of : List ℕ → List ℕ
line_of text = text ++ 10 ∷ []
