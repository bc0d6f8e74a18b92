-- The faults that end the program.
use Rattle.std.specs.Prelude.{ℕ}
use Rattle.oathd_tasks.specs.Fault as tasks
use Rattle.oathd_database.specs.Fault as database
use Rattle.oathd_roster.specs.Fault.{roster_status}
use Rattle.oathd_seats.specs.Fault.{seats_status}
use Rattle.oathd_roster.specs.declared.fault.RosterFault.{RosterFault}
use Rattle.oathd_roster.specs.declared.fault.RosterFault.TheVariants.{Command, SameName, AnotherCluster, Full}
use Rattle.oathd_seats.specs.declared.fault.SeatsFault.{SeatsFault}
use Rattle.oathd_seats.specs.declared.fault.SeatsFault.TheVariants as seats
use Rattle.oathd_site.specs.declared.fault.Fault.{Fault}
use Rattle.oathd_site.specs.declared.fault.Fault.TheVariants.{Database, Floors, Task, Roster, Seats, Names}

-- the exit status: the status of the command's fault, or 1 for a fault of floors files or of names
abbrev pub status_of : Fault → ℕ
status_of (Task fault) = tasks.status_of fault
status_of (Database fault) = database.status_of fault
status_of (Floors fault) = 1
status_of (Roster fault) = roster_status fault
status_of (Seats fault) = seats_status fault
status_of (Names fault) = 1

-- the fault is one of a task without a database, or of reading a file
abbrev pub IsOfTask : Fault → Type 0
IsOfTask (Task fault) = Unit {0}
IsOfTask fault = ⊥

-- the fault of the program for that of a command over a store
abbrev pub fault_of : RosterFault → Fault
fault_of (Command fault) = Database fault
fault_of (SameName row) = Roster (SameName row)
fault_of AnotherCluster = Roster AnotherCluster
fault_of Full = Roster Full

-- the same of a command that looks at such a store
abbrev pub seats_fault_of : SeatsFault → Fault
seats_fault_of (seats.Roster fault) = fault_of fault
seats_fault_of (seats.NotEnrolled row) = Seats (seats.NotEnrolled row)
seats_fault_of (seats.NoUser user) = Seats (seats.NoUser user)
