-- The faults that end a simulation.
use Rattle.oathd_sim.specs.declared.script_fault.ScriptFault.{ScriptFault}
use Rattle.oathd_sim.specs.declared.script_fault.ScriptFault.TheVariants as script
use Rattle.users_input.specs.declared.fault.InputFault.{InputFault}
use Rattle.users_input.specs.declared.fault.InputFault.TheVariants as input
use Rattle.users_input.specs.declared.fault.UsersFault.{UsersFault}
use Rattle.users_input.specs.declared.fault.UsersFault.TheVariants as users
use Rattle.oathd_sim.specs.declared.fault.Fault.{Fault}
use Rattle.oathd_sim.specs.declared.fault.Fault.TheVariants.{Memory, CannotRead, Users, ScriptLine}

-- a simulation's fault for a fault of the input
abbrev pub input_fault_of : InputFault → Fault
input_fault_of input.Memory = Memory
input_fault_of input.CannotRead = CannotRead

-- a simulation's fault for a fault of a users file
abbrev pub users_fault_of : UsersFault → Fault
users_fault_of users.Memory = Memory
users_fault_of (users.File fault) = Users fault

-- a simulation's fault for a fault of a script
abbrev pub script_fault_of : ScriptFault → Fault
script_fault_of (script.Line number) = ScriptLine number
script_fault_of script.Memory = Memory
