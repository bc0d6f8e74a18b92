-- A text cut in two at a mark.
use Rattle.std.specs.Prelude.{ℕ, ◌+◌, ◌==◌, List, Option, Some, None, take, drop, position}

-- the parts before and after a mark
pub record Halves : Type 0 where
  pub before : List ℕ
  pub behind : List ℕ

abbrev pub halves_at : List ℕ → Option ℕ → Option Halves
halves_at text None = None
halves_at text (Some place) = Some (record { before = take place text; behind = drop (place + 1) text })

-- a text cut in two at the first mark
abbrev pub halves_of : ℕ → List ℕ → Option Halves
halves_of mark text = halves_at text (position (λ b. b == mark) text)
