-- The faults that end a command which looks at a store by names.
use Rattle.std.specs.Prelude.{ℕ, ◌+◌, ◌<◌}
use Rattle.named_store.specs.declared.fault.LookFault.{LookFault}
use Rattle.named_store.specs.declared.fault.LookFault.TheVariants as look
use Rattle.oathd_roster.specs.Fault.{named_fault_of, roster_status}
use Rattle.oathd_seats.specs.declared.fault.SeatsFault.{SeatsFault}
use Rattle.oathd_seats.specs.declared.fault.SeatsFault.TheVariants.{Roster, NotEnrolled, NoUser}

-- the exit status for a fault; the last two are faults of the users file
abbrev pub seats_status : SeatsFault → ℕ
seats_status (Roster fault) = roster_status fault
seats_status (NotEnrolled row) = 1
seats_status (NoUser name) = 1

-- a command's fault if a store is not seen; the rows of a users file are counted from 1
abbrev pub look_fault_of : LookFault → SeatsFault
look_fault_of (look.NotEnrolled place) = NotEnrolled (place + 1)
look_fault_of (look.Named fault) = Roster (named_fault_of fault)

-- a token that is not enrolled is one of at most 10,000 tokens
abbrev pub IsPlace : LookFault → Type 0
IsPlace (look.NotEnrolled place) = place < 10000
IsPlace (look.Named fault) = Unit {0}
