-- Worked cases: windows with a maximum lead of 5 seconds, and incarnations of a process.
use Rattle.std.specs.Prelude.{ℕ, List, [], ◌∷◌}
use Rattle.replay_window.specs.Boots.{Boot}
use Rattle.replay_window.specs.Lives.{Arrival, Life}
use Rattle.replay_window.specs.Window.{WindowRecord}

-- a window with a mark and seen moments
abbrev pub window_at : ℕ → List ℕ → WindowRecord
window_at low seen = record { ahead = 5; low = low; seen = seen }

-- the moment of second 15, which arrives at a second of the clock
abbrev pub arrival_at : ℕ → Arrival
arrival_at now = record { now = now; moment = 15000000 }

-- an incarnation that began at a second with a maximum lead, and one arrival at a second
abbrev pub life_at : ℕ → ℕ → ℕ → Life
life_at start ahead now = record { start = start; ahead = ahead; arrivals = arrival_at now ∷ [] }

-- the same with two arrivals
abbrev pub life_of_two : ℕ → ℕ → ℕ → ℕ → Life
life_of_two start ahead now later =
    record { start = start; ahead = ahead; arrivals = arrival_at now ∷ arrival_at later ∷ [] }

-- a boot that began at a mark, and one arrival at a second
abbrev pub boot_at : ℕ → ℕ → Boot
boot_at mark now = record { window = window_at mark []; arrivals = arrival_at now ∷ [] }
