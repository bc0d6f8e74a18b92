-- The faults that end a command over a store by names.
use Rattle.std.specs.Prelude.{ℕ}
use Rattle.named_store.specs.declared.fault.NamedFault.{NamedFault}
use Rattle.named_store.specs.declared.fault.NamedFault.TheVariants as named
use Rattle.token_names.specs.declared.fault.NamesFault.{NamesFault}
use Rattle.token_names.specs.declared.fault.NamesFault.TheVariants as names
use Rattle.oathd_database.specs.Fault.{status_of}
use Rattle.oathd_database.specs.declared.fault.Fault.TheVariants.{Memory, Store}
use Rattle.oathd_roster.specs.declared.fault.RosterFault.{RosterFault}
use Rattle.oathd_roster.specs.declared.fault.RosterFault.TheVariants.{Command, SameName, AnotherCluster, Full}

-- the exit status for a fault: two tokens with one name are a fault of the users file, and the last two are a store's
abbrev pub roster_status : RosterFault → ℕ
roster_status (Command fault) = status_of fault
roster_status (SameName row) = 1
roster_status AnotherCluster = 3
roster_status Full = 3

-- a command's fault if a book has no names
abbrev pub names_fault_of : NamesFault → RosterFault
names_fault_of names.Memory = Command Memory
names_fault_of (names.SameName row) = SameName row

-- a command's fault if a store is not opened by names
abbrev pub named_fault_of : NamedFault → RosterFault
named_fault_of named.AnotherCluster = AnotherCluster
named_fault_of named.Full = Full
named_fault_of (named.Store fault) = Command (Store fault)
