-- The times of a port's quiet turns. Moments are milliseconds since the start of a monotonic clock.
use Rattle.std.specs.Prelude.{ℕ, ◌+◌, ◌≤◌, nat_le, nat_lt, Bool, false, ◌&&◌, if◌then◌else◌, List, [], ◌∷◌, Option, Some, None}

-- the time from one quiet turn to the next: five quiet turns a second
abbrev pub interval : ℕ
interval = 200

-- The due time of the next quiet turn, after one at a moment. Usually it is an interval after `due`, so that a late
-- turn delays no other. It is an interval after the moment if the turn came early, or late by an interval or more.
abbrev pub due_after : ℕ → ℕ → ℕ
due_after moment due =
    if nat_le due moment && nat_lt moment (due + interval) then due + interval else moment + interval

-- Whether a receive that begins at a moment is quiet at once and waits for no datagram: it is if a quiet turn is due.
-- It is not if the clock fails, or told no moment before.
abbrev pub is_due : Option ℕ → Option ℕ → Bool
is_due (Some moment) (Some due) = nat_le due moment
is_due (Some moment) None = false
is_due None due = false

-- the due time of the next quiet turn after one at a moment, or the old one if the clock tells no moment
abbrev pub due_after_quiet : Option ℕ → Option ℕ → Option ℕ
due_after_quiet (Some moment) (Some due) = Some (due_after moment due)
due_after_quiet (Some moment) None = Some (moment + interval)
due_after_quiet None due = due

-- the due time of the next quiet turn after a receive began at a moment; the first receive starts the pace
abbrev pub due_after_start : Option ℕ → Option ℕ → Option ℕ
due_after_start moment None = due_after_quiet moment None
due_after_start moment (Some due) =
    if is_due moment (Some due) then due_after_quiet moment (Some due) else Some due

-- the number of receives that were quiet at once, and the due time of the next quiet turn
pub record Paced : Type 0 where
  pub quiets : ℕ
  pub due : ℕ

-- one more quiet turn
abbrev pub with_quiet : Paced → Paced
with_quiet paced = record { quiets = paced.quiets + 1; due = paced.due }

-- the quiet turns of receives that begin at the given moments, from a due time on, if no wait ends
abbrev pub paced_of : ℕ → List ℕ → Paced
paced_of due [] = record { quiets = 0; due = due }
paced_of due (moment ∷ rest) =
    if nat_le due moment then with_quiet (paced_of (due_after moment due) rest) else paced_of due rest

-- all moments are at most `last`
abbrev pub AreUpTo : ℕ → List ℕ → Type 0
AreUpTo last [] = Unit {0}
AreUpTo last (moment ∷ rest) = (moment ≤ last) × AreUpTo last rest

-- each moment comes at most an interval after the one before it
abbrev pub AreClose : ℕ → List ℕ → Type 0
AreClose before [] = Unit {0}
AreClose before (moment ∷ rest) = (before ≤ moment) × (moment ≤ before + interval) × AreClose moment rest

-- the last of the moments, or `before` if there is none
abbrev pub last_of : ℕ → List ℕ → ℕ
last_of before [] = before
last_of before (moment ∷ rest) = last_of moment rest
