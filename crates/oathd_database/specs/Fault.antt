-- The faults that end a command over a store.
use Rattle.std.specs.Prelude.{◌≡◌, ℕ, Option, Some, Result, Ok, Err}
use Rattle.floor_store.specs.declared.fault.StoreFault.{StoreFault}
use Rattle.floor_store.specs.declared.fault.StoreFault.TheVariants.{Spent}
use Rattle.oath_node.specs.declared.fault.NodeFault.TheVariants as node
use Rattle.oath_node.specs.declared.fault.OpenFault.{OpenFault}
use Rattle.oath_node.specs.declared.fault.OpenFault.TheVariants as opening
use Rattle.oath_node.specs.declared.serve_fault.ServeFault.{ServeFault}
use Rattle.oath_node.specs.declared.serve_fault.ServeFault.TheVariants as turns
use Rattle.oath_node.specs.declared.turns.Served.{Served}
use Rattle.oathd_database.specs.declared.fault.Fault.{Fault}
use Rattle.oathd_database.specs.declared.fault.Fault.TheVariants.{Memory, CannotWrite, NoClock, Users, Store, Socket}

-- the exit status for a fault
abbrev pub status_of : Fault → ℕ
status_of Memory = 1
status_of CannotWrite = 1
status_of NoClock = 1
status_of (Users fault) = 1
status_of (Store fault) = 3
status_of Socket = 4

-- The output failed, or the fault broke the store.
abbrev pub IsOutputFault : Option StoreFault → Fault → Type 0
IsOutputFault broken_by Memory = ⊥
IsOutputFault broken_by CannotWrite = Unit {0}
IsOutputFault broken_by NoClock = ⊥
IsOutputFault broken_by (Users fault) = ⊥
IsOutputFault broken_by (Store fault) = broken_by ≡ Some fault
IsOutputFault broken_by Socket = ⊥

-- the fault is the store's
abbrev pub IsStoreFault : Fault → Type 0
IsStoreFault Memory = ⊥
IsStoreFault CannotWrite = ⊥
IsStoreFault NoClock = ⊥
IsStoreFault (Users fault) = ⊥
IsStoreFault (Store fault) = Unit {0}
IsStoreFault Socket = ⊥

-- a command's fault if a node is not opened
abbrev pub open_fault_of : OpenFault → Fault
open_fault_of opening.Memory = Memory
open_fault_of (opening.Store fault) = Store fault

-- a command's fault for a fault of a node's turns; a stopped node has no number left either
abbrev pub serve_fault_of : ServeFault → Fault
serve_fault_of (turns.Node (node.Store fault)) = Store fault
serve_fault_of (turns.Node node.Stopped) = Store Spent
serve_fault_of (turns.Node node.Spent) = Store Spent
serve_fault_of turns.Port = Socket
serve_fault_of turns.Clock = NoClock

-- the end of a command that serves a node, by the end of the node's turns
abbrev pub serve_end : Result Served ServeFault → Result Served Fault
serve_end (Ok served) = Ok served
serve_end (Err fault) = Err (serve_fault_of fault)

-- the fault is one of opening a node
abbrev pub IsOpenFault : Fault → Type 0
IsOpenFault Memory = Unit {0}
IsOpenFault CannotWrite = ⊥
IsOpenFault NoClock = ⊥
IsOpenFault (Users fault) = ⊥
IsOpenFault (Store fault) = Unit {0}
IsOpenFault Socket = ⊥
