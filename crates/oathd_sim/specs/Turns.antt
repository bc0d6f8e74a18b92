-- Items that are processed one after the other. Each changes a state or is refused.
use Rattle.std.specs.Prelude.{ℕ, ◌+◌, List, [], ◌∷◌, Option, Some, None, Result, Ok, Err}

-- the next step on a state, or `number` as an error without one
abbrev pub value_then : {S : Type 0} → ℕ → Option S → (S → Result S ℕ) → Result S ℕ
value_then number None next = Err number
value_then number (Some state) next = next state

-- the state after items that are numbered from `number`, or the number of the first refused item
abbrev pub state_after : {S X : Type 0} → (S → X → Option S) → ℕ → S → List X → Result S ℕ
state_after turn number state [] = Ok state
state_after turn number state (item ∷ items) =
    value_then number (turn state item) (λ new. state_after turn (number + 1) new items)
