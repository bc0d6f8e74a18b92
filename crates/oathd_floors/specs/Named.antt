-- A store of version 2 whose tokens get names.
use Rattle.std.specs.Prelude.{◌≡◌, ℕ, List, length, None, Ok, Some}
use Rattle.sqlite.specs.Store.{Ghosts}
use Rattle.sqlite.specs.Held as sql
use Rattle.sqlite.specs.State.{HasCleanDisk}
use Rattle.otp_core.specs.Limits.{Limits}
use Rattle.floor_sql.specs.Held.{SqlHeld}
use Rattle.floor_sql.specs.Shown.{IsLeft}
use Rattle.floor_sql.specs.Steps.{Transacts}
use Rattle.floor_sql.specs.declared.read.Refusal.{Refusal}
use Rattle.floor_sql.specs.declared.schema.Format.TheVariants.{Numbered}
use Rattle.named_store.specs.Entries.{entries_of}
use Rattle.roster_sql.specs.Made.{IsUsableStoreOf, NamesNode}
use Rattle.roster_sql.specs.Roster.{BondRecord}
use Rattle.roster_sql.specs.declared.entry.Entry.{Entry}
use Rattle.oathd_database.specs.Commands.{HasImport, HasOpened, IsRefused}
use Rattle.oathd_roster.specs.Users.{HasSameName}
use Rattle.oathd_roster.specs.declared.cluster.NamedCluster.{NamedCluster}
use Rattle.oathd_roster.specs.declared.fault.RosterFault.TheVariants.{Command, SameName, AnotherCluster, Full}
use Rattle.oathd_floors.specs.Kinds.{first_other}
use Rattle.oathd_floors.specs.declared.fault.NamingFault.{NamingFault}
use Rattle.oathd_floors.specs.declared.fault.NamingFault.TheVariants.{Roster, OtherKind}

module _ {S : Type 0} (g : Ghosts S) where
  -- The store of `node`, which had a token for each entry, gets the entries and the bond in one transaction.
  abbrev pub IsNamed : ℕ → List Entry → BondRecord → sql.Held S → sql.Held S → Type 0
  IsNamed node entries own old new =
      Transacts g {A = Unit {0}} {E = Refusal} (λ e. e.0) old new (NamesNode node entries own) IsLeft
      (λ db. ¬ IsUsableStoreOf Numbered db node (length entries)) (Ok tt)

  module _ (finds : sql.Held S → Type 0) where
    -- The tokens of the store of `node` get the names of the tokens of a users file, in its order. Each row was of the
    -- kind of its token.
    pub record HasNamed (cluster : NamedCluster) (limits : Limits) (longest node : ℕ) (new : sql.Held S)
        (text : List ℕ) : Type 0 where
      pub import : HasImport limits 0 longest text
      pub store : SqlHeld S
      pub opened : HasOpened g finds (Some node) (length import.book) store
      pub own : HasCleanDisk (sql.state g store.conn) → first_other import.book store.mirror.rows ≡ None
      pub named : IsNamed node (entries_of cluster.salt import.book) cluster.bond store.conn new

    -- The row with this number, from 1, is the first one of the store of `node` that is not of the kind of its token.
    -- The tables stay.
    pub record HasOtherKind (limits : Limits) (longest node row : ℕ) (text : List ℕ) : Type 0 where
      pub import : HasImport limits 0 longest text
      pub store : SqlHeld S
      pub opened : HasOpened g finds (Some node) (length import.book) store
      pub other : HasCleanDisk (sql.state g store.conn) → first_other import.book store.mirror.rows ≡ Some row

    -- No store gets names. The users file is not imported, two of its tokens have one name, a row is not of the kind of
    -- its token, or the store fails after the import.
    abbrev pub IsUnnamed : NamedCluster → Limits → ℕ → ℕ → NamingFault → List ℕ → Type 0
    IsUnnamed cluster limits longest node (Roster (Command fault)) text = IsRefused limits 0 longest fault text
    IsUnnamed cluster limits longest node (Roster (SameName row)) text =
        HasSameName cluster.salt limits 0 longest row text
    IsUnnamed cluster limits longest node (Roster AnotherCluster) text = ⊥
    IsUnnamed cluster limits longest node (Roster Full) text = ⊥
    IsUnnamed cluster limits longest node (OtherKind row) text = HasOtherKind limits longest node row text
