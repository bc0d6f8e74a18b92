-- The state of a node, as a report tells it.
use Rattle.std.specs.Prelude.{◌≡◌, ℕ, ◌+◌, nat_lt, Bool, if◌then◌else◌, List, [], ◌∷◌, length, Option}
use Rattle.std.specs.Option.{option_map}
use Rattle.floor_store.specs.Content.{Content}
use Rattle.floor_store.specs.Records.{RowRecord}
use Rattle.gatekeeping.specs.declared.counters.Counters.{Counters}
use Rattle.status_text.specs.declared.status.Rows.{Rows}
use Rattle.status_text.specs.declared.status.Status.{Status}
use Rattle.node_reports.specs.declared.node_status.NodeInfo.{NodeInfo}

-- whether the token of a row is closed at a moment
abbrev pub is_closed : ℕ → RowRecord → Bool
is_closed moment row = nat_lt moment row.gate.until

-- the number of closed tokens
abbrev pub closed_in : ℕ → List RowRecord → ℕ
closed_in moment [] = 0
closed_in moment (row ∷ rows) = (if is_closed moment row then 1 else 0) + closed_in moment rows

-- the number of all rows of a store, with the maximum number
abbrev pub rows_within : Option ℕ → Option Rows
rows_within rows = option_map (λ number. record { number = number; limit = 65536 }) rows

-- what a state tells of the store with a content
pub record TellsStore (moment : ℕ) (content : Content) (status : Status) : Type 0 where
  pub boot : status.boot ≡ content.boot
  pub tokens : status.tokens ≡ length content.rows
  pub closed : status.closed ≡ closed_in moment content.rows

-- what it tells that stays as long as the process runs, and of the clock
pub record TellsInfo (info : NodeInfo) (moment : ℕ) (status : Status) : Type 0 where
  pub node : status.node ≡ info.place.me
  pub members : status.members ≡ info.place.n
  pub version : status.version ≡ info.version
  pub clock : status.clock ≡ moment
  pub started : status.started ≡ info.started
  pub fingerprint : status.fingerprint ≡ info.fingerprint
  pub book : status.book ≡ info.book

-- what it tells of what the port counted
pub record TellsCounters (counters : Counters) (status : Status) : Type 0 where
  pub received : status.received ≡ counters.received
  pub replied : status.replied ≡ counters.replied
  pub accepted : status.accepted ≡ counters.accepted
  pub refused : status.refused ≡ counters.refused
  pub ticks : status.ticks ≡ counters.ticks
  pub largest_batch : status.largest_batch ≡ counters.largest_batch
  pub commit_times : status.commit_times ≡ counters.commit_times
  pub unopened : status.unopened ≡ counters.unopened
  pub others : status.others.items ≡ counters.others.items
