-- The faults that end a run.
use Rattle.std.specs.Prelude.{ℕ}
use Rattle.program_edge.specs.declared.fault.OutsideFault.{OutsideFault}
use Rattle.program_edge.specs.declared.fault.OutsideFault.TheVariants as outside
use Rattle.oathtool_core.specs.declared.fault.Fault.{Fault}
use Rattle.oathtool_core.specs.declared.fault.Fault.TheVariants.{BadTime, BadStepSize, BadKey, NoClock, BeforeStart, FactorTooLarge, NoMatch, Memory, CannotWrite, NotText}

-- the exit status: 2 if the words are wrong or a value is out of range, else 1
abbrev pub status_of : Fault → ℕ
status_of BadTime = 2
status_of BadStepSize = 2
status_of (BadKey fault) = 1
status_of NoClock = 1
status_of BeforeStart = 2
status_of FactorTooLarge = 2
status_of NoMatch = 1
status_of Memory = 1
status_of CannotWrite = 1
status_of NotText = 2

-- a run's fault for a fault at the program's edge
abbrev pub outside_fault_of : OutsideFault → Fault
outside_fault_of outside.Memory = Memory
outside_fault_of outside.CannotWrite = CannotWrite
outside_fault_of outside.NotText = NotText
