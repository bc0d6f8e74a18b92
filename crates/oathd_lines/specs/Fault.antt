-- The faults that end a run.
use Rattle.std.specs.Prelude.{ℕ}
use Rattle.program_edge.specs.declared.fault.OutsideFault.{OutsideFault}
use Rattle.program_edge.specs.declared.fault.OutsideFault.TheVariants as outside
use Rattle.oathd_lines.specs.declared.fault.Fault.{Fault}
use Rattle.users_input.specs.declared.fault.InputFault.{InputFault}
use Rattle.users_input.specs.declared.fault.InputFault.TheVariants as input
use Rattle.users_input.specs.declared.fault.UsersFault.{UsersFault}
use Rattle.users_input.specs.declared.fault.UsersFault.TheVariants as users
use Rattle.oathd_lines.specs.declared.fault.Fault.TheVariants.{Memory, CannotRead, CannotWrite, Users, InputLine, BadKey, NotText}

-- the exit status: 2 if the command line is not text, else 1
abbrev pub status_of : Fault → ℕ
status_of Memory = 1
status_of CannotRead = 1
status_of CannotWrite = 1
status_of (Users fault) = 1
status_of (InputLine number) = 1
status_of (BadKey fault) = 1
status_of NotText = 2

-- a run's fault for a fault at the program's edge
abbrev pub outside_fault_of : OutsideFault → Fault
outside_fault_of outside.Memory = Memory
outside_fault_of outside.CannotWrite = CannotWrite
outside_fault_of outside.NotText = NotText

-- a run's fault for a fault of the input
abbrev pub input_fault_of : InputFault → Fault
input_fault_of input.Memory = Memory
input_fault_of input.CannotRead = CannotRead

-- a run's fault for a fault of a users file
abbrev pub users_fault_of : UsersFault → Fault
users_fault_of users.Memory = Memory
users_fault_of (users.File fault) = Users fault

-- the allocator, the input or the output failed; no text of an input causes these
abbrev pub IsOutside : Fault → Type 0
IsOutside Memory = Unit {0}
IsOutside CannotRead = Unit {0}
IsOutside CannotWrite = Unit {0}
IsOutside (Users fault) = ⊥
IsOutside (InputLine number) = ⊥
IsOutside (BadKey fault) = ⊥
IsOutside NotText = ⊥
