-- The failures of clients in a minute of the clock, and the limit of them.
use Rattle.std.specs.Prelude.{ℕ, ◌/◌, ◌==◌, ◌||◌, nat_le, nat_lt, Bool, false, if◌then◌else◌, List, [], ◌∷◌, ◌++◌, length, map, find, Option, Some, None, codes}
use Rattle.std.specs.List.{list_any, slice_split}
use Rattle.std.specs.Str.{bytes_eq}
use Rattle.sealed_port.specs.Causes.{one_more}
use Rattle.sealed_port.specs.declared.failures.Failed.{Failed}

-- The most failures of a client in a minute, if they are limited, the minute of the clock, and the clients that failed
-- in it.
pub record FailuresRecord : Type 0 where
  pub most : Option ℕ
  pub minute : ℕ
  pub failed : List Failed

-- the third of the fields between single spaces: the reason of a refusal
abbrev pub third_of : List (List ℕ) → List ℕ
third_of (first ∷ second ∷ third ∷ rest) = third
third_of _ = []

-- An answer is a failure if it is a refusal for a wrong code or a wrong password. These two close a token.
abbrev pub is_failure : List ℕ → Bool
is_failure answer =
    let reason = third_of (slice_split (λ byte. byte == 32) answer) in
    bytes_eq reason (codes "INVALID") || bytes_eq reason (codes "PASSWORD")

-- the number of failures, or 0 without an entry
abbrev pub number_in : Option Failed → ℕ
number_in None = 0
number_in (Some failed) = failed.number

-- the number of failures of a client
abbrev pub failures_of : ℕ → List Failed → ℕ
failures_of client failed = number_in (find (λ one. one.client == client) failed)

-- the minute of a second of the clock: another minute begins without failures
abbrev pub failures_at : ℕ → FailuresRecord → FailuresRecord
failures_at now failures =
    if failures.minute == now / 60 then failures else record failures { minute = now / 60; failed = [] }

-- the number of failures is at the limit
abbrev pub is_at : Option ℕ → ℕ → Bool
is_at None number = false
is_at (Some most) number = nat_le most number

-- Whether a client may send no line at a second of the clock: its failures of the clock's minute are at the limit.
abbrev pub is_limited : FailuresRecord → ℕ → ℕ → Bool
is_limited failures now client = is_at failures.most (failures_of client (failures_at now failures).failed)

-- an entry with one more failure, if it is the client's
abbrev pub with_one_of : ℕ → Failed → Failed
with_one_of client one =
    if one.client == client then record { client = one.client; number = one_more one.number } else one

-- the entries after a failure of a client; there is room for the 64 clients of a gate
abbrev pub failed_after : ℕ → List Failed → List Failed
failed_after client failed =
    if list_any (λ one. one.client == client) failed then map (with_one_of client) failed
    else if nat_lt (length failed) 64 then failed ++ record { client = client; number = 1 } ∷ []
    else failed

-- the failures after an answer of the node to a client
abbrev pub failures_after : ℕ → List ℕ → FailuresRecord → FailuresRecord
failures_after client answer failures =
    if is_failure answer then record failures { failed = failed_after client failures.failed } else failures
