-- The faults that end a cluster.
use Rattle.std.specs.Prelude.{ℕ}
use Rattle.oathd_cluster.specs.declared.fault.Fault.{Fault}
use Rattle.oathd_cluster.specs.declared.fault.Fault.TheVariants.{Memory, CannotRead, CannotWrite, Users, InputLine, Socket, Node}
use Rattle.users_input.specs.declared.fault.InputFault.{InputFault}
use Rattle.users_input.specs.declared.fault.InputFault.TheVariants as input

-- the exit status: 3 if a node failed, 4 if a socket failed, else 1
abbrev pub status_of : Fault → ℕ
status_of Memory = 1
status_of CannotRead = 1
status_of CannotWrite = 1
status_of (Users fault) = 1
status_of (InputLine number) = 1
status_of Socket = 4
status_of (Node fault) = 3

-- a cluster's fault for a fault of the input
abbrev pub input_fault_of : InputFault → Fault
input_fault_of input.Memory = Memory
input_fault_of input.CannotRead = CannotRead
