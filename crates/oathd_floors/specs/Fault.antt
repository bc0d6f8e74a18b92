-- The faults that end a command over floors files by names.
use Rattle.std.specs.Prelude.{ℕ}
use Rattle.oathd_roster.specs.Fault.{roster_status}
use Rattle.oathd_floors.specs.declared.fault.NamedFloorsFault.{NamedFloorsFault}
use Rattle.oathd_floors.specs.declared.fault.NamedFloorsFault.TheVariants.{Roster, Floors, Ahead, Files}

-- the exit status for a fault; the last three are faults of floors files
abbrev pub floors_status : NamedFloorsFault → ℕ
floors_status (Roster fault) = roster_status fault
floors_status (Floors number fault) = 1
floors_status (Ahead number) = 1
floors_status (Files fault) = 1
