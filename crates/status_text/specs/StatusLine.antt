-- The lines of a STATUS report, as text.
use Rattle.std.specs.Prelude.{◌≡◌, ℕ, ◌^◌, ◌<◌, IsTrue, List, ◌++◌, length, codes}
use Rattle.std.specs.Char.{is_ascii_hexdigit}
use Rattle.std.specs.List.{list_all}
use Rattle.std.specs.Fmt.{decimal}
use Rattle.sealed_port.specs.declared.cause.Cause.{Cause}
use Rattle.sealed_port.specs.declared.cause.Cause.TheVariants.{Form, Tag, Early, Late, Again, Limited}
use Rattle.gatekeeping.specs.declared.commits.Bucket.{Bucket}
use Rattle.gatekeeping.specs.declared.commits.Bucket.TheVariants as Buckets
use Rattle.status_text.specs.declared.status_line.Quantity.{Quantity}
use Rattle.status_text.specs.declared.status_line.Quantity.TheVariants as Quantities
use Rattle.status_text.specs.declared.status_line.Refusal.{Refusal}
use Rattle.status_text.specs.declared.status_line.Refusal.TheVariants as Refusals
use Rattle.gatekeeping.specs.declared.others.Seen.{Seen}
use Rattle.gatekeeping.specs.declared.others.Seen.TheVariants.{Heard, Silent, Differs}
use Rattle.status_text.specs.declared.status_line.StatusLine.{StatusLine}
use Rattle.status_text.specs.declared.status_line.StatusLine.TheVariants.{Node, Version, Fingerprint, Book, Rows, Number, Refused, Commits, Unopened, Member}

-- the word of a quantity
abbrev pub quantity_word : Quantity → List ℕ
quantity_word Quantities.Boot = codes "boot"
quantity_word Quantities.Clock = codes "clock"
quantity_word Quantities.Started = codes "started"
quantity_word Quantities.Tokens = codes "tokens"
quantity_word Quantities.Pending = codes "pending"
quantity_word Quantities.Closed = codes "closed"
quantity_word Quantities.Received = codes "received"
quantity_word Quantities.Replied = codes "replied"
quantity_word Quantities.Accepted = codes "accepted"
quantity_word Quantities.Ticks = codes "ticks"
quantity_word Quantities.LargestBatch = codes "largest-batch"
quantity_word Quantities.Commits = codes "commits"

-- the words of a refusal, as in the answers to clients
abbrev pub refusal_words : Refusal → List ℕ
refusal_words Refusals.BadLine = codes "refused BADLINE"
refusal_words Refusals.Clock = codes "refused CLOCK"
refusal_words Refusals.Busy = codes "refused BUSY"
refusal_words Refusals.Unknown = codes "refused UNKNOWN"
refusal_words Refusals.Throttled = codes "refused THROTTLED"
refusal_words Refusals.Password = codes "refused PASSWORD"
refusal_words Refusals.Exhausted = codes "refused EXHAUSTED"
refusal_words Refusals.Invalid = codes "refused INVALID"
refusal_words Refusals.Spent = codes "refused SPENT"
refusal_words Refusals.Timeout = codes "refused TIMEOUT"

-- the words of a bucket: the longest time of its commits in milliseconds, or that they took longer
abbrev pub bucket_words : Bucket → List ℕ
bucket_words Buckets.One = codes "commit-millis 1"
bucket_words Buckets.Two = codes "commit-millis 2"
bucket_words Buckets.Five = codes "commit-millis 5"
bucket_words Buckets.Ten = codes "commit-millis 10"
bucket_words Buckets.Twenty = codes "commit-millis 20"
bucket_words Buckets.Fifty = codes "commit-millis 50"
bucket_words Buckets.Hundred = codes "commit-millis 100"
bucket_words Buckets.More = codes "commit-millis more"

-- the words of a cause for which a gate doesn't open a datagram
abbrev pub cause_words : Cause → List ℕ
cause_words Form = codes "unopened form"
cause_words Tag = codes "unopened tag"
cause_words Early = codes "unopened early"
cause_words Late = codes "unopened late"
cause_words Again = codes "unopened again"
cause_words Limited = codes "unopened limited"

-- words and a number
abbrev pub number_line : List ℕ → ℕ → List ℕ
number_line words number = words ++ codes " " ++ decimal number ++ codes "\n"

-- a word and 16 hexadecimal digits
abbrev pub digits_line : List ℕ → List ℕ → List ℕ
digits_line word digits = word ++ codes " " ++ digits ++ codes "\n"

-- what a node sees of another member
abbrev pub seen_text : Seen → List ℕ
seen_text (Heard seconds) = codes " heard " ++ decimal seconds
seen_text Silent = codes " silent"
seen_text Differs = codes " differs"

-- the text of a line, with its LF
abbrev pub line_text : StatusLine → List ℕ
line_text (Node node members) = codes "node " ++ decimal node ++ codes " of " ++ decimal members ++ codes "\n"
line_text (Version major minor patch) =
    codes "version " ++ decimal major ++ codes "." ++ decimal minor ++ codes "." ++ decimal patch ++ codes "\n"
line_text (Fingerprint digits) = digits_line (codes "fingerprint") digits
line_text (Book digits) = digits_line (codes "book") digits
line_text (Rows rows limit) = codes "rows " ++ decimal rows ++ codes " of " ++ decimal limit ++ codes "\n"
line_text (Number quantity number) = number_line (quantity_word quantity) number
line_text (Refused refusal number) = number_line (refusal_words refusal) number
line_text (Commits bucket number) = number_line (bucket_words bucket) number
line_text (Unopened cause number) = number_line (cause_words cause) number
line_text (Member number seen) = codes "member " ++ decimal number ++ seen_text seen ++ codes "\n"

-- 16 hexadecimal digits
abbrev pub IsPrint : List ℕ → Type 0
IsPrint digits = (length digits ≡ 16) × IsTrue (list_all is_ascii_hexdigit digits)

-- what a node sees of another member, with a number of 64 bits
abbrev pub IsSeen : Seen → Type 0
IsSeen (Heard seconds) = seconds < 2 ^ 64
IsSeen Silent = Unit {0}
IsSeen Differs = Unit {0}

-- the values of a line: numbers of 64 bits, and hexadecimal digits
abbrev pub IsStatusLine : StatusLine → Type 0
IsStatusLine (Node node members) = (node < 2 ^ 64) × (members < 2 ^ 64)
IsStatusLine (Version major minor patch) = (major < 2 ^ 64) × (minor < 2 ^ 64) × (patch < 2 ^ 64)
IsStatusLine (Fingerprint digits) = IsPrint digits
IsStatusLine (Book digits) = IsPrint digits
IsStatusLine (Rows rows limit) = (rows < 2 ^ 64) × (limit < 2 ^ 64)
IsStatusLine (Number quantity number) = number < 2 ^ 64
IsStatusLine (Refused refusal number) = number < 2 ^ 64
IsStatusLine (Commits bucket number) = number < 2 ^ 64
IsStatusLine (Unopened cause number) = number < 2 ^ 64
IsStatusLine (Member number seen) = (number < 2 ^ 64) × IsSeen seen
