-- Commits by the time that they took.
use Rattle.std.specs.Prelude.{ℕ, ◌+◌, ◌-◌, ◌^◌, min}
use Rattle.gatekeeping.specs.declared.commits.CommitTimes.{CommitTimes}

-- the number of all commits, at most the greatest number of 64 bits
abbrev pub commits_of : CommitTimes → ℕ
commits_of times =
    min (times.one + times.two + times.five + times.ten + times.twenty + times.fifty + times.hundred + times.more)
    (2 ^ 64 - 1)
