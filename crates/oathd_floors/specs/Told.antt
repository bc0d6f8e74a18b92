-- The floors file of a stopped node by names. Floor: the first free factor of a token at a node.
use Rattle.std.specs.Prelude.{ℕ, List, replicate, Option}
use Rattle.std.specs.Io.KnownBytes.{Appends}
use Rattle.sqlite.specs.Store.{Ghosts}
use Rattle.sqlite.specs.Held as sql
use Rattle.sqlite.specs.State.{HasCleanDisk}
use Rattle.floor_sql.specs.Held.{SqlHeld}
use Rattle.floor_store.specs.Content.{Content}
use Rattle.floors_file.specs.Named.{NamedFloorsRecord}
use Rattle.floors_file.specs.NamedWriting.{named_floors_text}
use Rattle.named_floors.specs.Told.{TellingRecord, told_named}
use Rattle.roster_sql.specs.Roster.{BondRecord}
use Rattle.roster_sql.specs.declared.entry.Entry.{Entry}
use Rattle.oathd_database.specs.Floors.{IsToldFault}
use Rattle.oathd_roster.specs.declared.fault.RosterFault.{RosterFault}
use Rattle.oathd_roster.specs.declared.fault.RosterFault.TheVariants.{Command, SameName, AnotherCluster, Full}
use Rattle.oathd_floors.specs.Rows.{HasRows, IsUnbound}

-- the node of a cluster at a moment
abbrev pub telling_of : ℕ → ℕ → BondRecord → TellingRecord
telling_of node moment own = record {
  node = node;
  members = own.members;
  moment = moment;
  names = own.names;
  life = own.life;
}

-- The floors file of a stopped node at a moment, from the content of its store with the entries `roster`. The node has
-- heard of no boot.
abbrev pub told_file : ℕ → ℕ → BondRecord → List Entry → Content → NamedFloorsRecord
told_file node moment own roster content = told_named (telling_of node moment own) roster (replicate 10 0) content

module _ {S : Type 0} (g : Ghosts S) (finds : sql.Held S → Type 0) (own : BondRecord) where
  -- The floors file of the node's store is written, with a row for each of its rows.
  pub record HasTold (key : List ℕ) (node moment : ℕ) (old new : Option (List ℕ)) : Type 0 where
    pub roster : List Entry
    pub store : SqlHeld S
    pub opened : HasRows g finds own node roster store
    pub written : HasCleanDisk (sql.state g store.conn)
        → Appends old new (named_floors_text key (told_file node moment own roster store.mirror))

  -- No whole floors file is written: the store fails, or is another cluster's, or the output fails.
  abbrev pub EndsTold : RosterFault → Type 0
  EndsTold (Command fault) = IsToldFault fault
  EndsTold (SameName row) = ⊥
  EndsTold AnotherCluster = IsUnbound g finds own
  EndsTold Full = ⊥
