-- Batches are counted, whatever the clock told.
use Rattle.std.proofs.Common.{◌≡◌, ℕ, ◌+◌, ◌-◌, ◌^◌, ◌≤◌, List, [], ◌∷◌, length, Option, refl, ap, ◌∙◌, arith}
use Rattle.std.specs.Prelude.{◌==◌, if◌then◌else◌, max, min}
use Rattle.gatekeeping.specs.Commits.{commits_of}
use Rattle.gatekeeping.specs.declared.commits.Bucket.{Bucket}
use Rattle.gatekeeping.specs.declared.commits.Bucket.TheVariants as Buckets
use Rattle.gatekeeping.specs.declared.commits.CommitTimes.{CommitTimes}
use Rattle.sealed_port.specs.Causes.{one_more}
use Rattle.count_port.specs.Batches.{Batch, after_batches, after_datagrams, bucket_of, largest_of, number_of, settled, with_commit, with_datagram}
use Rattle.count_port.specs.declared.batches.Batches.{Batches}

-- ---- datagrams

size_after : (moments : List (Option ℕ)) (batches : Batches) → batches.size ≤ 2 ^ 64 - 1
    → (after_datagrams moments batches).size ≡ min (batches.size + length moments) (2 ^ 64 - 1)
size_after [] batches few = omega (arith, few)
size_after (moment ∷ moments) batches few =
    let next : (after_datagrams moments (with_datagram moment batches)).size ≡ min (one_more batches.size + length moments) (2 ^ 64 - 1) =
    size_after moments (with_datagram moment batches) (omega arith) in
    next ∙ omega (arith, few)

largest_stays : (moments : List (Option ℕ)) (batches : Batches) → (after_datagrams moments batches).largest ≡ batches.largest
largest_stays [] batches = refl
largest_stays (moment ∷ moments) batches = largest_stays moments (with_datagram moment batches)

times_stay : (moments : List (Option ℕ)) (batches : Batches) → (after_datagrams moments batches).times ≡ batches.times
times_stay [] batches = refl
times_stay (moment ∷ moments) batches = times_stay moments (with_datagram moment batches)

-- ---- a commit

-- one more commit in a bucket is one more of all
one_commit : (bucket : Bucket) (times : CommitTimes) → commits_of (with_commit bucket times) ≡ one_more (commits_of times)
one_commit Buckets.One times = omega arith
one_commit Buckets.Two times = omega arith
one_commit Buckets.Five times = omega arith
one_commit Buckets.Ten times = omega arith
one_commit Buckets.Twenty times = omega arith
one_commit Buckets.Fifty times = omega arith
one_commit Buckets.Hundred times = omega arith
one_commit Buckets.More times = omega arith

-- 1 for a batch with datagrams
abbrev one_for : ℕ → ℕ
one_for size = if size == 0 then 0 else 1

settled_size : (moment : Option ℕ) (batches : Batches) → (settled moment batches).size ≡ 0
settled_size moment batches = grind arith

settled_largest : (moment : Option ℕ) (batches : Batches) → (settled moment batches).largest ≡ max batches.largest batches.size
settled_largest moment batches = grind arith

settled_commits : (moment : Option ℕ) (batches : Batches)
    → commits_of (settled moment batches).times ≡ min (commits_of batches.times + one_for batches.size) (2 ^ 64 - 1)
settled_commits moment batches =
    let one : commits_of (with_commit (bucket_of batches.moment moment) batches.times) ≡ one_more (commits_of batches.times) =
    one_commit (bucket_of batches.moment moment) batches.times in
    grind (arith, one)

-- ---- batches

pub largest_in : (batches : List Batch) (before : Batches) → before.size ≡ 0 → before.largest ≤ 2 ^ 64 - 1
    → (after_batches batches before).largest ≡ min (max before.largest (largest_of batches)) (2 ^ 64 - 1)
largest_in [] before none few = omega (arith, few)
largest_in (batch ∷ more) before none few =
    let came = after_datagrams batch.came before in
    let size : came.size ≡ min (before.size + length batch.came) (2 ^ 64 - 1) = size_after batch.came before (omega (arith, none)) in
    let kept : came.largest ≡ before.largest = largest_stays batch.came before in
    let largest : (settled batch.done came).largest ≡ max came.largest came.size = settled_largest batch.done came in
    largest_in more (settled batch.done came) (settled_size batch.done came) (omega (arith, few, size, kept, largest))
    ∙ omega (arith, none, few, size, kept, largest)

one_if : (number : ℕ) → one_for (min number (2 ^ 64 - 1)) ≡ one_for number
one_if number = grind arith

pub commits_in : (batches : List Batch) (before : Batches) → before.size ≡ 0
    → commits_of (after_batches batches before).times ≡ min (commits_of before.times + number_of batches) (2 ^ 64 - 1)
commits_in [] before none = omega arith
commits_in (batch ∷ more) before none =
    let came = after_datagrams batch.came before in
    let size : came.size ≡ min (length batch.came) (2 ^ 64 - 1) = size_after batch.came before (omega (arith, none)) ∙ omega (arith, none) in
    let same : commits_of came.times ≡ commits_of before.times = ap commits_of (times_stay batch.came before) in
    let one : one_for came.size ≡ one_for (length batch.came) = ap one_for size ∙ one_if (length batch.came) in
    let now : commits_of (settled batch.done came).times ≡ min (commits_of came.times + one_for came.size) (2 ^ 64 - 1) =
    settled_commits batch.done came in
    commits_in more (settled batch.done came) (settled_size batch.done came) ∙ omega (arith, same, one, now)
