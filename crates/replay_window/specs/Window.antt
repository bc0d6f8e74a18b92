-- An anti-replay window over moments in microseconds: the last admitted moments, and a mark up to which it admits no
-- moment.
use Rattle.std.specs.Prelude.{ℕ, ◌+◌, ◌*◌, ◌^◌, ◌≤◌, eqb, nat_le, nat_lt, max, not, ◌&&◌, Bool, if◌then◌else◌, List, [], drop, length, slice_index, Option, Some, None}
use Rattle.std.specs.List.{fold, insert, list_any, position}
use Rattle.std.specs.Option.{unwrap_or}
use Rattle.replay_window.specs.declared.refusal.Refusal.{Refusal}
use Rattle.replay_window.specs.declared.refusal.Refusal.TheVariants.{Early, Late, Again}

-- The maximum lead of a moment over the clock in seconds, the mark `low`, up to which the window admits no moment, and
-- the admitted moments in ascending order.
pub record WindowRecord : Type 0 where
  pub ahead : ℕ
  pub low : ℕ
  pub seen : List ℕ

-- the number of kept moments
abbrev pub size : ℕ
size = 64

-- the number is a maximum lead: 1 to 60 seconds
abbrev pub IsAhead : ℕ → Type 0
IsAhead seconds = (1 ≤ seconds) × (seconds ≤ 60)

-- the maximum lag of a moment: 60 seconds
abbrev pub behind : ℕ
behind = 60000000

-- the last microsecond that may be named at a second of the clock, with a maximum lead in seconds
abbrev pub last_at : ℕ → ℕ → ℕ
last_at now ahead = (now + ahead) * 1000000

-- the window that begins at a mark, with a maximum lead in seconds
abbrev pub window_above : ℕ → ℕ → WindowRecord
window_above mark ahead = record { ahead = ahead; low = mark; seen = [] }

-- The window of a process that began at a second. Its mark is at or above all moments that an earlier process admitted,
-- if the clock was not set back and the lead is not shorter.
abbrev pub window_from : ℕ → ℕ → WindowRecord
window_from start ahead = window_above (last_at start ahead) ahead

-- whether a moment is too far ahead of the clock, which tells a second below 2^40
abbrev pub is_early : ℕ → ℕ → ℕ → Bool
is_early ahead now moment = nat_lt now (2 ^ 40) && nat_lt (last_at now ahead) moment

-- whether a moment is near the clock, which tells a second below 2^40
abbrev pub is_timely : ℕ → ℕ → ℕ → Bool
is_timely ahead now moment =
    nat_lt now (2 ^ 40) && (nat_le moment (last_at now ahead) && nat_le (now * 1000000) (moment + behind))

-- whether a moment is above the mark and was not seen
abbrev pub is_new : WindowRecord → ℕ → Bool
is_new window moment = nat_lt window.low moment && not (list_any (eqb moment) window.seen)

-- whether the window admits a moment
abbrev pub is_fresh : WindowRecord → ℕ → ℕ → Bool
is_fresh window now moment = is_timely window.ahead now moment && is_new window moment

-- why the window refuses a moment, or None if it admits it
abbrev pub refusal_of : WindowRecord → ℕ → ℕ → Option Refusal
refusal_of window now moment =
    if is_fresh window now moment then None
    else if is_timely window.ahead now moment then Some Again
    else if is_early window.ahead now moment then Some Early
    else Some Late

-- the place of the first moment of the list later than the given one, or the length of the list
abbrev pub place_of : ℕ → List ℕ → ℕ
place_of moment seen = unwrap_or (position (nat_lt moment) seen) (length seen)

-- the admitted moments and one more, in order
abbrev pub with_moment : List ℕ → ℕ → List ℕ
with_moment seen moment = insert seen (place_of moment seen) moment

-- the window with these moments, if they are at most `size`; else without the first one, which raises the mark
abbrev pub kept_of : WindowRecord → List ℕ → WindowRecord
kept_of window seen =
    if nat_le (length seen) size then record window { seen = seen }
    else record window { low = max window.low (slice_index seen 0); seen = drop 1 seen }

-- the window after a moment was admitted
abbrev pub with_seen : WindowRecord → ℕ → WindowRecord
with_seen window moment = kept_of window (with_moment window.seen moment)

-- the window after a moment arrived
abbrev pub window_after : WindowRecord → ℕ → ℕ → WindowRecord
window_after window now moment = if is_fresh window now moment then with_seen window moment else window

-- the greatest of the mark and the kept moments
abbrev pub latest_of : WindowRecord → ℕ
latest_of window = fold max window.low window.seen
