-- The time that the requests of readers may take. Moments are microseconds since the start of a monotonic clock.
use Rattle.std.specs.Prelude.{ℕ, ◌+◌, ◌-◌, ◌/◌, ◌^◌, ◌<◌, ◌≤◌, max, min, nat_le, All, Bool, if◌then◌else◌, List, [], ◌∷◌, Option, Some, None}
use Rattle.node_reports.specs.declared.allowance.Allowance.{Allowance}

-- ---- an allowance

-- readers used nothing
abbrev pub full : Allowance
full = record { used = 0; spans = None }

-- whether nothing is left: readers used a second that was not given back
abbrev pub is_empty : Allowance → Bool
is_empty allowance = nat_le 1000000 allowance.used

-- The used time when `spans` whole spans passed since the start of the clock: each gives back a microsecond. The first
-- moment that the clock tells gives back nothing, and a clock that goes back doesn't either.
abbrev pub refilled_by : ℕ → Option ℕ → ℕ → Allowance
refilled_by spans (Some last) used = record { used = used - (spans - last); spans = Some (max last spans) }
refilled_by spans None used = record { used = used; spans = Some spans }

-- The allowance at a moment. A span is 50 microseconds. No time passes if the clock fails.
abbrev pub refilled : Option ℕ → Allowance → Allowance
refilled (Some moment) allowance = refilled_by (moment / 50) allowance.spans allowance.used
refilled None allowance = allowance

-- the time of a request that began and ended at moments: a millisecond if the clock failed at one of them
abbrev pub cost : Option ℕ → Option ℕ → ℕ
cost (Some began) (Some ended) = ended - began
cost (Some began) None = 1000
cost None ended = 1000

-- the allowance after a time was used
abbrev pub lessened : ℕ → Allowance → Allowance
lessened micros allowance = record { used = min (allowance.used + micros) (2 ^ 64 - 1); spans = allowance.spans }

-- the allowance after a request that began and ended at moments
abbrev pub paid : Option ℕ → Option ℕ → Allowance → Allowance
paid began ended allowance = lessened (cost began ended) (refilled began allowance)

-- ---- the requests of readers, one after the other

-- the moments at which the node begins a request, and at which it ends it unless it refuses it
pub record Timed : Type 0 where
  pub began : ℕ
  pub ended : ℕ

-- the time of a request, or 0 if it is refused since nothing is left
abbrev pub time_under : Allowance → Timed → ℕ
time_under allowance request =
    if is_empty (refilled (Some request.began) allowance) then 0 else request.ended - request.began

-- the allowance after a request
abbrev pub left_after : Allowance → Timed → Allowance
left_after allowance request =
    if is_empty (refilled (Some request.began) allowance) then allowance
    else paid (Some request.began) (Some request.ended) allowance

-- the time of all requests
abbrev pub time_of : Allowance → List Timed → ℕ
time_of allowance [] = 0
time_of allowance (request ∷ requests) = time_under allowance request + time_of (left_after allowance request) requests

-- a request that begins between two moments, and takes at most `longest`
pub record IsBetween (first last longest : ℕ) (request : Timed) : Type 0 where
  pub from : first ≤ request.began
  pub to : request.began ≤ last
  pub most : request.ended ≤ request.began + longest

-- The requests take at most a second, one of them, and a microsecond for each span between the moments.
abbrev pub AreBounded : List Timed → Type 0
AreBounded requests =
    (first last longest : ℕ) → longest < 2 ^ 63 → All (IsBetween first last longest) requests
    → time_of full requests ≤ 1000000 + longest + (last / 50 - first / 50)
