-- The floors of a stopped node are raised to the greatest in floors files, by names.
--
-- Floor: the first free factor of a token at a node.
use Rattle.std.specs.Prelude.{◌≡◌, ℕ, List, [], Ok}
use Rattle.sqlite.specs.Store.{Ghosts}
use Rattle.sqlite.specs.Held as sql
use Rattle.floor_store.specs.declared.fault.StoreFault.{StoreFault}
use Rattle.floor_sql.specs.Held.{SqlHeld, sql_held}
use Rattle.floors_file.specs.Named.{NamedFloorsRecord}
use Rattle.floors_file.specs.NamedGathered.{gathered_rows}
use Rattle.named_floors.specs.Level.{Levels, told_by}
use Rattle.roster_sql.specs.declared.entry.Entry.{Entry}
use Rattle.oathd_database.specs.declared.fault.Fault.TheVariants.{Memory, CannotWrite, NoClock, Users, Store, Socket}
use Rattle.oathd_roster.specs.declared.fault.RosterFault.{RosterFault}
use Rattle.oathd_roster.specs.declared.fault.RosterFault.TheVariants.{Command, SameName, AnotherCluster, Full}
use Rattle.oathd_floors.specs.declared.fault.NamedFloorsFault.{NamedFloorsFault}
use Rattle.oathd_floors.specs.declared.fault.NamedFloorsFault.TheVariants.{Roster, Floors, Ahead, Files}
use Rattle.oathd_floors.specs.Files.{AreTaken, IsFirstUntaken, TakingRecord, files_after}
use Rattle.oathd_floors.specs.Rows.{HasRows, IsUnbound}

module _ {S : Type 0} (g : Ghosts S) (finds : sql.Held S → Type 0) (taking : TakingRecord) where
  -- The floors of the node's store are raised by the texts of floors files. The store is bound to the cluster.
  pub record HasLevelled (node : ℕ) (texts : List (List ℕ)) (store : SqlHeld S) : Type 0 where
    pub files : List NamedFloorsRecord
    pub taken : files_after taking [] texts ≡ Ok files
    pub roster : List Entry
    pub found : SqlHeld S
    pub opened : HasRows g finds taking.own node roster found
    pub levels : Levels {A = Unit {0}} {E = StoreFault} (sql_held g) found store
        (told_by (gathered_rows files) roster) (Ok tt)

  -- The store fails or is another cluster's, after all texts were taken. Or the allocator refused the memory.
  abbrev pub IsNotRaised : List (List ℕ) → RosterFault → Type 0
  IsNotRaised texts (Command Memory) = Unit {0}
  IsNotRaised texts (Command CannotWrite) = ⊥
  IsNotRaised texts (Command NoClock) = ⊥
  IsNotRaised texts (Command (Users fault)) = ⊥
  IsNotRaised texts (Command (Store fault)) = AreTaken taking texts
  IsNotRaised texts (Command Socket) = ⊥
  IsNotRaised texts (SameName row) = ⊥
  IsNotRaised texts AnotherCluster = AreTaken taking texts × IsUnbound g finds taking.own
  IsNotRaised texts Full = ⊥

  -- Not all floors are raised: a text is not taken, or the store fails or is another cluster's. A fault of the
  -- store says that all texts are taken, and a fault of a text says nothing of a connection.
  abbrev pub IsNotLevelled : List (List ℕ) → NamedFloorsFault → Type 0
  IsNotLevelled texts (Roster fault) = IsNotRaised texts fault
  IsNotLevelled texts (Floors number fault) = IsFirstUntaken taking texts (Floors number fault)
  IsNotLevelled texts (Ahead number) = IsFirstUntaken taking texts (Ahead number)
  IsNotLevelled texts (Files fault) = IsFirstUntaken taking texts (Files fault)
