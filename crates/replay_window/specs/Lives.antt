-- The moments that windows admit over the incarnations of a process. `Life` is one incarnation.
use Rattle.std.specs.Prelude.{ℕ, ◌≤◌, if◌then◌else◌, List, [], ◌∷◌, ◌++◌}
use Rattle.std.specs.List.{AllByRecursion}
use Rattle.replay_window.specs.Window.{WindowRecord, is_fresh, last_at, window_from, with_seen}

-- a received moment, with the second of the clock
pub record Arrival : Type 0 where
  pub now : ℕ
  pub moment : ℕ

-- the moments of the arrivals that a window admits, in order
abbrev pub admitted : WindowRecord → List Arrival → List ℕ
admitted window [] = []
admitted window (arrival ∷ arrivals) =
    if is_fresh window arrival.now arrival.moment
    then arrival.moment ∷ admitted (with_seen window arrival.moment) arrivals
    else admitted window arrivals

-- an incarnation of a process: the second at its start, its maximum lead in seconds, and the arrivals
pub record Life : Type 0 where
  pub start : ℕ
  pub ahead : ℕ
  pub arrivals : List Arrival

-- the window of an incarnation at its start
abbrev pub window_of : Life → WindowRecord
window_of life = window_from life.start life.ahead

-- the moments that the incarnations admit, in order
abbrev pub admitted_in : List Life → List ℕ
admitted_in [] = []
admitted_in (life ∷ lives) = admitted (window_of life) life.arrivals ++ admitted_in lives

-- The first mark of each later incarnation is at or above every moment that the first one could admit. So it is if the
-- clock was not set back and the lead is not shorter, and else if the process was down for as long.
abbrev pub IsBefore : Life → List Life → Type 0
IsBefore life lives =
    AllByRecursion (λ later.
    AllByRecursion (λ arrival. last_at arrival.now life.ahead ≤ (window_of later).low) life.arrivals) lives

-- every incarnation is before the later ones
abbrev pub AreInOrder : List Life → Type 0
AreInOrder [] = Unit {0}
AreInOrder (life ∷ lives) = IsBefore life lives × AreInOrder lives
