-- Worked cases: kept answers.
use Rattle.std.specs.Prelude.{ℕ, List, [], ◌∷◌}
use Rattle.answer_ring.specs.Answers.{KeptAnswer}

-- an answer of one byte to a line of one byte
abbrev pub kept_of : ℕ → ℕ → ℕ → KeptAnswer
kept_of client line text = record { client = client; line = line ∷ []; text = text ∷ [] }

-- two answers to the same client and line, and between them one to another client
abbrev pub three_kept : List KeptAnswer
three_kept = kept_of 7 1 5 ∷ kept_of 8 1 9 ∷ kept_of 7 1 6 ∷ []
