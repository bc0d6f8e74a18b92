-- The moments at which a token is open at one node, by the list of its results there. They follow the delay scheme of
-- RFC 4226, section 7.3, with T = 5 seconds. The A-th failure since the last acceptance closes the token for T * A
-- seconds.
use Rattle.std.specs.Prelude.{ℕ, ◌+◌, ◌-◌, ◌*◌, ◌≤◌, ◌≡◌, ◌⊎◌, min, List, [], ◌∷◌, ◌++◌, map, length}
use Rattle.otp_core.specs.Gate.{GateRecord}

-- the result of a line whose token was open; an acceptance needs no moment
pub data Result : Type 0 where
  Failed : (moment : ℕ) → Result
  Accepted : Result

-- all lists of results begin with the newest

-- the number of failures after the last acceptance
abbrev pub recent_failures : List Result → ℕ
recent_failures [] = 0
recent_failures (Accepted ∷ results) = 0
recent_failures (Failed moment ∷ results) = recent_failures results + 1

-- the number of failures that count: at most 10,000
abbrev pub counted_failures : List Result → ℕ
counted_failures results = min (recent_failures results) 10000

-- the moment of the last failure after the last acceptance, or 0
abbrev pub last_failure : List Result → ℕ
last_failure [] = 0
last_failure (Accepted ∷ results) = 0
last_failure (Failed moment ∷ results) = moment

-- the second from which the token is open: 5 seconds after the last failure for each failure that counts
abbrev pub opening_second : List Result → ℕ
opening_second results = last_failure results + 5 * counted_failures results

-- no failure counts, or 5 seconds for each failure that counts are over since the last one
abbrev pub IsOpenAfter : List Result → ℕ → Type 0
IsOpenAfter results moment = (counted_failures results ≡ 0) ⊎ (opening_second results ≤ moment)

-- the number of seconds until the token is open
abbrev pub wait_after : List Result → ℕ → ℕ
wait_after results moment = opening_second results - moment

-- the gate of the results, as two numbers
abbrev pub gate_after : List Result → GateRecord
gate_after results = record { fails = counted_failures results; until = opening_second results }

-- each failure came at a moment at which the token was open
abbrev pub AreGated : List Result → Type 0
AreGated [] = Unit {0}
AreGated (Accepted ∷ results) = AreGated results
AreGated (Failed moment ∷ results) = IsOpenAfter results moment × AreGated results

-- k failures without an acceptance between them span at least 5 * k * (k - 1) / 2 seconds, for k up to 10,000
abbrev pub SpacesFailures : List Result → Type 0
SpacesFailures results =
    (newer older : List Result) (first last : ℕ) (between : List ℕ) (k : ℕ) →
    results ≡ newer ++ (Failed last ∷ (map Failed between ++ (Failed first ∷ older))) →
    k ≤ length between + 2 → k ≤ 10000 → 2 * first + 5 * (k * (k - 1)) ≤ 2 * last
