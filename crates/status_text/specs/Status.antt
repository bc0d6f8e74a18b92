-- The lines of a STATUS report, by the node's values.
use Rattle.std.specs.Prelude.{ℕ, ◌==◌, List, [], ◌∷◌, ◌++◌, map, IfSome, Option, Some, None, if◌then◌else◌}
use Rattle.sealed_port.specs.declared.cause.Cause.TheVariants.{Form, Tag, Early, Late, Again, Limited}
use Rattle.sealed_port.specs.declared.cause.Unopened.{Unopened}
use Rattle.gatekeeping.specs.Commits.{commits_of}
use Rattle.status_text.specs.StatusLine.{IsPrint, line_text}
use Rattle.gatekeeping.specs.declared.commits.Bucket.TheVariants as Buckets
use Rattle.gatekeeping.specs.declared.commits.CommitTimes.{CommitTimes}
use Rattle.gatekeeping.specs.declared.others.Other.{Other}
use Rattle.gatekeeping.specs.declared.refused.Refused.{Refused}
use Rattle.status_text.specs.declared.status.Rows.{Rows}
use Rattle.status_text.specs.declared.status.Status.{Status}
use Rattle.status_text.specs.declared.status_line.Quantity.TheVariants as Quantities
use Rattle.status_text.specs.declared.status_line.Refusal.TheVariants as Refusals
use Rattle.status_text.specs.declared.status_line.StatusLine.{StatusLine}
use Rattle.status_text.specs.declared.status_line.StatusLine.TheVariants as Lines

-- the prints of a node are hexadecimal digits
abbrev pub HasPrints : Status → Type 0
HasPrints status = IsPrint status.fingerprint × IfSome status.book IsPrint

-- the node, its process and its keys
abbrev pub identity_lines : Status → List StatusLine
identity_lines status =
    Lines.Node status.node status.members
    ∷ Lines.Number Quantities.Boot status.boot
    ∷ Lines.Version status.version.major status.version.minor status.version.patch
    ∷ Lines.Number Quantities.Clock status.clock
    ∷ Lines.Number Quantities.Started status.started
    ∷ Lines.Fingerprint status.fingerprint
    ∷ []

-- the print of the users file's rows, if the store knows tokens by their names
abbrev pub book_lines : Option (List ℕ) → List StatusLine
book_lines None = []
book_lines (Some digits) = Lines.Book digits ∷ []

-- the rows of a store that knows tokens by their names, and the maximum number
abbrev pub rows_lines : Option Rows → List StatusLine
rows_lines None = []
rows_lines (Some rows) = Lines.Rows rows.number rows.limit ∷ []

-- the node's tokens and answers
abbrev pub token_lines : Status → List StatusLine
token_lines status =
    Lines.Number Quantities.Tokens status.tokens
    ∷ Lines.Number Quantities.Pending status.pending
    ∷ Lines.Number Quantities.Closed status.closed
    ∷ Lines.Number Quantities.Received status.received
    ∷ Lines.Number Quantities.Replied status.replied
    ∷ Lines.Number Quantities.Accepted status.accepted
    ∷ []

-- a line with a number, or none if the number is 0
abbrev pub if_any : (ℕ → StatusLine) → ℕ → List StatusLine
if_any line number = if number == 0 then [] else line number ∷ []

-- the refusals that a node answered
abbrev pub refused_lines : Refused → List StatusLine
refused_lines refused =
    if_any (Lines.Refused Refusals.BadLine) refused.bad_line ++ if_any (Lines.Refused Refusals.Clock) refused.clock
    ++ if_any (Lines.Refused Refusals.Busy) refused.busy ++ if_any (Lines.Refused Refusals.Unknown) refused.unknown
    ++ if_any (Lines.Refused Refusals.Throttled) refused.throttled
    ++ if_any (Lines.Refused Refusals.Password) refused.password
    ++ if_any (Lines.Refused Refusals.Exhausted) refused.exhausted
    ++ if_any (Lines.Refused Refusals.Invalid) refused.invalid ++ if_any (Lines.Refused Refusals.Spent) refused.spent
    ++ if_any (Lines.Refused Refusals.Timeout) refused.timeout

-- the commits in each bucket
abbrev pub commit_lines : CommitTimes → List StatusLine
commit_lines times =
    if_any (Lines.Commits Buckets.One) times.one ++ if_any (Lines.Commits Buckets.Two) times.two
    ++ if_any (Lines.Commits Buckets.Five) times.five ++ if_any (Lines.Commits Buckets.Ten) times.ten
    ++ if_any (Lines.Commits Buckets.Twenty) times.twenty ++ if_any (Lines.Commits Buckets.Fifty) times.fifty
    ++ if_any (Lines.Commits Buckets.Hundred) times.hundred ++ if_any (Lines.Commits Buckets.More) times.more

-- the node's ticks, batches and commits
abbrev pub batch_lines : Status → List StatusLine
batch_lines status =
    Lines.Number Quantities.Ticks status.ticks
    ∷ Lines.Number Quantities.LargestBatch status.largest_batch
    ∷ Lines.Number Quantities.Commits (commits_of status.commit_times)
    ∷ commit_lines status.commit_times

-- the datagrams that a node's gate didn't open
abbrev pub unopened_lines : Unopened → List StatusLine
unopened_lines unopened =
    if_any (Lines.Unopened Form) unopened.form ++ if_any (Lines.Unopened Tag) unopened.tag
    ++ if_any (Lines.Unopened Early) unopened.early ++ if_any (Lines.Unopened Late) unopened.late
    ++ if_any (Lines.Unopened Again) unopened.again ++ if_any (Lines.Unopened Limited) unopened.limited

-- another member
abbrev pub other_line : Other → StatusLine
other_line other = Lines.Member other.number other.seen

-- the lines of a report
abbrev pub status_lines : Status → List StatusLine
status_lines status =
    identity_lines status ++ book_lines status.book ++ rows_lines status.rows ++ token_lines status
    ++ refused_lines status.refused ++ batch_lines status ++ unopened_lines status.unopened
    ++ map other_line status.others.items

-- their texts
abbrev pub status_text : Status → List (List ℕ)
status_text status = map line_text (status_lines status)
