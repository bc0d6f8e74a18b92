-- The batches of a node, and how long their commits took. Moments are microseconds since the start of a clock.
use Rattle.std.specs.Prelude.{ℕ, ◌+◌, ◌-◌, ◌==◌, ◌≡◌, nat_le, max, if◌then◌else◌, List, [], ◌∷◌, length, Option, Some, None}
use Rattle.datagram_port.specs.declared.port.Received.{Received}
use Rattle.datagram_port.specs.declared.port.Received.TheVariants.{Datagram, Quiet, Fault}
use Rattle.gatekeeping.specs.declared.commits.Bucket.{Bucket}
use Rattle.gatekeeping.specs.declared.commits.Bucket.TheVariants as Buckets
use Rattle.gatekeeping.specs.declared.commits.CommitTimes.{CommitTimes}
use Rattle.sealed_port.specs.Causes.{one_more}
use Rattle.count_port.specs.declared.batches.Batches.{Batches}

-- the bucket of a time in microseconds: the least one that holds it
abbrev pub bucket_at : ℕ → Bucket
bucket_at micros =
    if nat_le micros 1000 then Buckets.One
    else if nat_le micros 2000 then Buckets.Two
    else if nat_le micros 5000 then Buckets.Five
    else if nat_le micros 10000 then Buckets.Ten
    else if nat_le micros 20000 then Buckets.Twenty
    else if nat_le micros 50000 then Buckets.Fifty
    else if nat_le micros 100000 then Buckets.Hundred
    else Buckets.More

-- the bucket of the time between two moments; no bucket but the last one holds a time that the clock didn't tell
abbrev pub bucket_of : Option ℕ → Option ℕ → Bucket
bucket_of (Some since) (Some until) = bucket_at (until - since)
bucket_of (Some since) None = Buckets.More
bucket_of None until = Buckets.More

-- the commits with one more in a bucket
abbrev pub with_commit : Bucket → CommitTimes → CommitTimes
with_commit Buckets.One times = record times { one = one_more times.one }
with_commit Buckets.Two times = record times { two = one_more times.two }
with_commit Buckets.Five times = record times { five = one_more times.five }
with_commit Buckets.Ten times = record times { ten = one_more times.ten }
with_commit Buckets.Twenty times = record times { twenty = one_more times.twenty }
with_commit Buckets.Fifty times = record times { fifty = one_more times.fifty }
with_commit Buckets.Hundred times = record times { hundred = one_more times.hundred }
with_commit Buckets.More times = record times { more = one_more times.more }

-- before any batch
abbrev pub no_batches : Batches
no_batches = record {
  size = 0;
  moment = None;
  largest = 0;
  times = record { one = 0; two = 0; five = 0; ten = 0; twenty = 0; fifty = 0; hundred = 0; more = 0 };
}

-- after a datagram, which came at a moment
abbrev pub with_datagram : Option ℕ → Batches → Batches
with_datagram moment batches = record batches { size = one_more batches.size; moment = moment }

-- after a receive at a moment
abbrev pub batches_after : Option ℕ → Received → Batches → Batches
batches_after moment (Datagram sender len) batches = with_datagram moment batches
batches_after moment Quiet batches = batches
batches_after moment Fault batches = batches

-- after the commit of a batch, which was over at a moment
abbrev pub committed : Option ℕ → Batches → Batches
committed moment batches = record {
  size = 0;
  moment = None;
  largest = max batches.largest batches.size;
  times = with_commit (bucket_of batches.moment moment) batches.times;
}

-- after the first call behind a commit, at a moment; without a datagram there was no batch
abbrev pub settled : Option ℕ → Batches → Batches
settled moment batches = if batches.size == 0 then batches else committed moment batches

-- after the first call behind a commit, at whatever moment the clock told
abbrev pub Settles : Batches → Batches → Type 0
Settles before after = (done : Option ℕ) × (after ≡ settled done before)

-- after a receive, at whatever moment the clock told
abbrev pub Takes : Received → Batches → Batches → Type 0
Takes received before after = (came : Option ℕ) × (after ≡ batches_after came received before)

-- after both, one after the other
abbrev pub SettlesAndTakes : Received → Batches → Batches → Type 0
SettlesAndTakes received before after =
    (done : Option ℕ) × (came : Option ℕ) × (after ≡ batches_after came received (settled done before))

-- ---- what came

-- a batch: the moments at which its datagrams came, and the moment of the first call behind its commit
pub record Batch : Type 0 where
  pub came : List (Option ℕ)
  pub done : Option ℕ

-- after datagrams, which came at moments
abbrev pub after_datagrams : List (Option ℕ) → Batches → Batches
after_datagrams [] batches = batches
after_datagrams (moment ∷ moments) batches = after_datagrams moments (with_datagram moment batches)

-- after batches
abbrev pub after_batches : List Batch → Batches → Batches
after_batches [] batches = batches
after_batches (batch ∷ more) batches =
    after_batches more (settled batch.done (after_datagrams batch.came batches))

-- the number of the batches, without those that have no datagram
abbrev pub number_of : List Batch → ℕ
number_of [] = 0
number_of (batch ∷ more) = (if length batch.came == 0 then 0 else 1) + number_of more

-- the number of datagrams of the largest one
abbrev pub largest_of : List Batch → ℕ
largest_of [] = 0
largest_of (batch ∷ more) = max (length batch.came) (largest_of more)
