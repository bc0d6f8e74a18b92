-- The rule of openings, of the steps of a node. The seed of a token is the number of its device.
use Rattle.std.specs.Prelude.{◌≡◌, ℕ, true, List, [], ◌∷◌}
use Rattle.vote_core.specs.Schedule.{is_member}
use Rattle.book_law.specs.Lives.{Setting}
use Rattle.book_law.specs.Seeds.{AreGreatest, HaveSeedsOnce}
use Rattle.order_law.specs.Interleavings.{Item, first_place, steps_at}
use Rattle.order_law.specs.Steps.{Closed, Place, Starts, Step, place_after}

-- A process that starts has a users file without a seed twice. The row of each of its seats has the greatest floor of
-- its seed in the store. Other steps are free.
abbrev pub IsGreatestStep : (ℕ → ℕ) → Place → Step → Type 0
IsGreatestStep seed (Closed store) (Starts terms port) =
    HaveSeedsOnce seed terms.seats × AreGreatest seed terms.seats store
IsGreatestStep seed place step = Unit {0}

-- each process that starts in the steps keeps the rule
abbrev pub AreGreatestSteps : (ℕ → ℕ) → Setting → ℕ → Place → List Step → Type 0
AreGreatestSteps seed setting node place [] = Unit {0}
AreGreatestSteps seed setting node place (step ∷ steps) =
    IsGreatestStep seed place step × AreGreatestSteps seed setting node (place_after setting node place step) steps

-- each process that a member starts in the items keeps the rule
abbrev pub StartsAreGreatest : (ℕ → ℕ) → Setting → List Item → Type 0
StartsAreGreatest seed setting items = (node : ℕ) → is_member setting.n node ≡ true
    → AreGreatestSteps seed setting node (first_place setting node) (steps_at node items)
