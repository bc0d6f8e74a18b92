-- The effects of the commands that print a store's content.
--
-- Floor: the first free factor of a token at a node.
use Rattle.std.specs.Prelude.{ℕ, List, Option}
use Rattle.std.specs.Io.KnownBytes.{Appends}
use Rattle.sqlite.specs.Store.{Ghosts}
use Rattle.sqlite.specs.Held as sql
use Rattle.sqlite.specs.State.{HasCleanDisk}
use Rattle.otp_core.specs.Limits.{Limits}
use Rattle.floor_sql.specs.Held.{SqlHeld}
use Rattle.roster_sql.specs.declared.entry.Entry.{Entry}
use Rattle.seated_store.specs.Seated.{SeatedRecord}
use Rattle.seated_store.specs.Seats.{seated_rows}
use Rattle.oathd_database.specs.Commands as database
use Rattle.oathd_database.specs.Commands.{HasImport}
use Rattle.oathd_database.specs.Gates.{gates_text}
use Rattle.oathd_database.specs.Tables.{KeepsTables, WritesAudit}
use Rattle.oathd_database.specs.Text.{export_text}
use Rattle.oathd_roster.specs.declared.cluster.NamedCluster.{NamedCluster}
use Rattle.oathd_roster.specs.declared.fault.RosterFault.{RosterFault}
use Rattle.oathd_roster.specs.declared.fault.RosterFault.TheVariants.{Command, SameName, AnotherCluster, Full}
use Rattle.oathd_roster.specs.Roster.{roster_text}
use Rattle.oathd_seats.specs.Seen.{EndsPlaced, HasSeen, HasSeenNamed, IsNotEnrolled, IsNotSeenBy}
use Rattle.oathd_seats.specs.declared.fault.SeatsFault.{SeatsFault}
use Rattle.oathd_seats.specs.declared.fault.SeatsFault.TheVariants.{Roster, NotEnrolled, NoUser}
use Rattle.oathd_seats.specs.declared.naming.Naming.{Naming}
use Rattle.oathd_seats.specs.declared.naming.Naming.TheVariants.{ByPlace, ByName}

module _ {S : Type 0} (g : Ghosts S) (finds : sql.Held S → Type 0) where
  -- ---- by names alone

  module _ (cluster : NamedCluster) (limits : Limits) (longest node : ℕ) where
    -- The rows of the whole store are written, with their names and the users of their tokens.
    pub record HasToldRoster (old new : Option (List ℕ)) (text : List ℕ) : Type 0 where
      pub import : HasImport limits 0 longest text
      pub roster : List Entry
      pub store : SeatedRecord (SqlHeld S)
      pub seen : HasSeenNamed g finds cluster node import.book roster store
      pub written : HasCleanDisk (sql.state g store.inner.conn)
          → Appends old new (roster_text import.book store.seats roster store.inner.mirror.rows)

    -- a fault of any command that prints a store by names
    abbrev pub EndsOutputBy : RosterFault → List ℕ → Type 0
    EndsOutputBy (Command fault) text = database.EndsOutput limits 0 longest fault text
    EndsOutputBy (SameName row) text = IsNotSeenBy g finds cluster limits longest node (SameName row) text
    EndsOutputBy AnotherCluster text = IsNotSeenBy g finds cluster limits longest node AnotherCluster text
    EndsOutputBy Full text = ⊥

    -- A command that prints a store's content ends with the fault. The store is not seen, or the store or the output
    -- fails after the import.
    abbrev pub EndsOutputNamed : SeatsFault → List ℕ → Type 0
    EndsOutputNamed (Roster fault) text = EndsOutputBy fault text
    EndsOutputNamed (NotEnrolled row) text = IsNotEnrolled g finds cluster limits longest node row text
    EndsOutputNamed (NoUser name) text = ⊥

  -- ---- by places or names

  module _ (naming : Naming) (limits : Limits) (longest : ℕ) where
    -- The tokens of the users file are written in order, each with the floor of its row.
    pub record HasExported (old new : Option (List ℕ)) (text : List ℕ) : Type 0 where
      pub import : HasImport limits 0 longest text
      pub store : SeatedRecord (SqlHeld S)
      pub seen : HasSeen g finds naming import.book store
      pub written : HasCleanDisk (sql.state g store.inner.conn)
          → Appends old new (export_text import.book (seated_rows store.seats store.inner.mirror.rows))

    -- The gates with failures of the tokens of the users file are written in order, each from its row.
    pub record HasToldGates (old new : Option (List ℕ)) (text : List ℕ) : Type 0 where
      pub import : HasImport limits 0 longest text
      pub store : SeatedRecord (SqlHeld S)
      pub seen : HasSeen g finds naming import.book store
      pub written : HasCleanDisk (sql.state g store.inner.conn)
          → Appends old new (gates_text import.book (seated_rows store.seats store.inner.mirror.rows))

    -- The passes of the whole store are written, with the rows of the store for their tokens.
    pub record HasAudited (old new : Option (List ℕ)) (text : List ℕ) : Type 0 where
      pub import : HasImport limits 0 longest text
      pub found : SeatedRecord (SqlHeld S)
      pub seen : HasSeen g finds naming import.book found
      pub store : SqlHeld S
      pub kept : KeepsTables g found.inner store
      pub written : HasCleanDisk (sql.state g store.conn) → WritesAudit g store old new

  -- A command that prints a store's content ends with the fault. The store is not seen, or the store or the output
  -- fails after the import.
  abbrev pub EndsOutput : Naming → Limits → ℕ → SeatsFault → List ℕ → Type 0
  EndsOutput (ByPlace given) limits longest fault text = EndsPlaced (database.EndsOutput limits 0 longest) fault text
  EndsOutput (ByName node cluster) limits longest fault text =
      EndsOutputNamed cluster.now limits longest node fault text
