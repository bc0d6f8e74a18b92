-- The moments that windows admit over the boots of one process. `Boot` is one boot.
use Rattle.std.specs.Prelude.{ℕ, ◌≤◌, List, [], ◌∷◌, ◌++◌}
use Rattle.std.specs.List.{AllByRecursion}
use Rattle.replay_window.specs.Lives.{Arrival, admitted}
use Rattle.replay_window.specs.Window.{WindowRecord, latest_of, window_after}

-- a boot of a process: the window at its start, and the arrivals
pub record Boot : Type 0 where
  pub window : WindowRecord
  pub arrivals : List Arrival

-- the window after the arrivals
abbrev pub window_run : WindowRecord → List Arrival → WindowRecord
window_run window [] = window
window_run window (arrival ∷ arrivals) = window_run (window_after window arrival.now arrival.moment) arrivals

-- the moments that the boots admit, in order
abbrev pub admitted_over : List Boot → List ℕ
admitted_over [] = []
admitted_over (boot ∷ boots) = admitted boot.window boot.arrivals ++ admitted_over boots

-- the first mark of each later boot is at or above every moment that the first one admitted
abbrev pub IsMarkedIn : Boot → List Boot → Type 0
IsMarkedIn boot boots =
    AllByRecursion (λ later.
    AllByRecursion (λ moment. moment ≤ later.window.low) (admitted boot.window boot.arrivals)) boots

-- every boot is marked in the later ones
abbrev pub AreMarked : List Boot → Type 0
AreMarked [] = Unit {0}
AreMarked (boot ∷ boots) = IsMarkedIn boot boots × AreMarked boots

-- the next boot, if there is one, begins at or above the latest moment of the window at the end of the first one
abbrev pub IsHandedTo : Boot → List Boot → Type 0
IsHandedTo boot [] = Unit {0}
IsHandedTo boot (next ∷ boots) = latest_of (window_run boot.window boot.arrivals) ≤ next.window.low

-- every boot is handed to the next one
abbrev pub AreHandedOn : List Boot → Type 0
AreHandedOn [] = Unit {0}
AreHandedOn (boot ∷ boots) = IsHandedTo boot boots × AreHandedOn boots
