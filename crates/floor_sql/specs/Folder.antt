-- A folder, and when a change of a name in it shows.
use Rattle.std.specs.Prelude.{ℕ, ◌%◌, ◌==◌, if◌then◌else◌}

-- How long after the last change of a folder, in nanoseconds, a later change may have the same time. A system that
-- keeps parts of a second gives one time to all changes between two ticks of its clock, which are at most 10 ms apart.
-- FAT keeps each other second.
abbrev pub room_after : ℕ → ℕ
room_after changed = if changed % 1_000_000_000 == 0 then 3_000_000_000 else 100_000_000
