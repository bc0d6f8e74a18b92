-- The faults of a command's users file.
use Rattle.std.specs.Prelude.{ℕ, List}
use Rattle.otp_core.specs.Limits.{Limits}
use Rattle.oathd_tasks.specs.File.{IsOfFile}
use Rattle.oathd_database.specs.Users.{IsUnread}
use Rattle.oathd_site.specs.declared.fault.Fault.{Fault}
use Rattle.oathd_site.specs.declared.fault.Fault.TheVariants.{Database, Floors, Task, Roster, Seats, Names}

-- The users file cannot be read, or some text of it is not imported with the fault.
abbrev pub IsOfUsers : Limits → ℕ → Fault → Type 0
IsOfUsers limits moment (Database fault) = (text : List ℕ) × IsUnread limits moment 16777216 fault text
IsOfUsers limits moment (Task fault) = IsOfFile fault
IsOfUsers limits moment (Floors fault) = ⊥
IsOfUsers limits moment (Roster fault) = ⊥
IsOfUsers limits moment (Seats fault) = ⊥
IsOfUsers limits moment (Names fault) = ⊥
