-- A store without the rows of retired tokens that other rows make needless. Floor: the first free factor of a token at
-- a node.
use Rattle.std.specs.Prelude.{◌≡◌, ◌⊎◌, ℕ, ◌+◌, ◌-◌, ◌≤◌, List, [], ◌∷◌, ◌++◌, codes, length, map, slice_get, Option, Some, Ok}
use Rattle.std.specs.Fmt.{decimal}
use Rattle.std.specs.Io.KnownBytes.{Appends}
use Rattle.sqlite.specs.Store.{Ghosts}
use Rattle.sqlite.specs.Effect.{Database}
use Rattle.sqlite.specs.Held as sql
use Rattle.sqlite.specs.State.{HasCleanDisk}
use Rattle.otp_core.specs.Limits.{Limits}
use Rattle.floor_store.specs.Content.{Content}
use Rattle.floor_store.specs.Records.{PassRecord, RowRecord}
use Rattle.floor_sql.specs.Calls.{ReadsAudit}
use Rattle.floor_sql.specs.Held.{HasCommitted, SqlHeld}
use Rattle.floor_sql.specs.Steps.{Transacts}
use Rattle.floor_sql.specs.Stored.{KeepsCommit}
use Rattle.floor_sql.specs.declared.read.Refusal.{Refusal}
use Rattle.roster_sql.specs.Roster.{BondRecord, HoldsNamed}
use Rattle.roster_sql.specs.declared.entry.Entry.{Entry}
use Rattle.roster_renewal.specs.Renewed.{Renews}
use Rattle.named_store.specs.Entries.{entries_of}
use Rattle.named_store.specs.Floors.{raised_floor}
use Rattle.named_store.specs.Seating.{has_name}
use Rattle.retired_rows.specs.Renewed.{puts_of}
use Rattle.retired_rows.specs.Staying.{entries_in, floors_in, staying}
use Rattle.retired_rows.specs.declared.row.NumberedRow.{NumberedRow}
use Rattle.oathd_database.specs.Commands.{EndsOutput, HasImport}
use Rattle.oathd_roster.specs.Users.{HasSameName}
use Rattle.oathd_roster.specs.declared.cluster.NamedCluster.{NamedCluster}
use Rattle.oathd_roster.specs.declared.fault.RosterFault.{RosterFault}
use Rattle.oathd_roster.specs.declared.fault.RosterFault.TheVariants.{Command, SameName, AnotherCluster, Full}
use Rattle.oathd_floors.specs.Rows.{HasRows, IsUnbound}

-- ---- the rows

-- a row of a store, with its number, and whether a users file has its token
abbrev pub numbered_row : ℕ → Entry → RowRecord → List Entry → NumberedRow
numbered_row token entry row names =
    record { token = token; entry = entry; row = row; is_named = has_name names entry.name }

-- the rows of a store with their numbers from `first` on
abbrev pub numbered : ℕ → List Entry → List RowRecord → List Entry → List NumberedRow
numbered first [] rows names = []
numbered first (entry ∷ roster) [] names = []
numbered first (entry ∷ roster) (row ∷ rows) names =
    numbered_row first entry row names ∷ numbered (first + 1) roster rows names

-- the text on the numbers of rows that were dropped, and that stay
unfoldable pub drop_text : ℕ → ℕ → List ℕ
drop_text dropped left = codes "dropped " ++ decimal dropped ++ codes "\nrows " ++ decimal left ++ codes " of 65536\n"

-- the text on a drop that leaves some of all rows
abbrev pub dropped_text : List NumberedRow → List ℕ
dropped_text rows = drop_text (length rows - length (staying rows)) (length (staying rows))

-- ---- the store

-- The tables are of a store of `node` that is bound to `own`. A token that is enrolled there begins at least at the
-- floor of each of the given rows with its seed.
pub record ForgetsNone (node : ℕ) (own : BondRecord) (rows : List NumberedRow) (db : Database) : Type 0 where
  pub roster : List Entry
  pub content : Content
  pub passes : List PassRecord
  pub whole : HoldsNamed db content passes roster own
  pub of_node : whole.holds.node ≡ node
  pub none_lower : (place floor : ℕ) (row : NumberedRow) → slice_get rows place ≡ Some row
      → row.row.next ≤ raised_floor roster (map (λ row. row.next) content.rows) row.entry.seed floor

module _ {S : Type 0} (g : Ghosts S) where
  -- The store has the given rows, and the passes of them, in place of all others. It is written in one transaction.
  pub record IsRenewed (node : ℕ) (own : BondRecord) (boot : ℕ) (kept : List NumberedRow) (store : SqlHeld S)
      (new : sql.Held S) : Type 0 where
    pub passes : List PassRecord
    -- the store after its passes were read
    pub read : SqlHeld S
    pub reads : ReadsAudit g store read (Ok passes)
    pub listed : HasCleanDisk (sql.state g read.conn) → HasCommitted g read passes
    pub renewed : Transacts g {A = Unit {0}} {E = Refusal} (λ e. e.0) read.conn new
        (Renews node boot (floors_in kept) (entries_in kept) own (puts_of kept passes))
        KeepsCommit (λ _. ⊥) (Ok tt)

  -- nothing is written if all rows stay
  abbrev pub IsLeft : ℕ → BondRecord → ℕ → List NumberedRow → SqlHeld S → sql.Held S → Type 0
  IsLeft node own boot rows store new =
      ((length (staying rows) ≡ length rows) × (new ≡ store.conn)) ⊎ IsRenewed node own boot (staying rows) store new

  module _ (finds : sql.Held S → Type 0) (cluster : NamedCluster) (limits : Limits) (longest node : ℕ) where
    -- The needless rows of the store are dropped, and the numbers of rows are written.
    pub record HasDropped (old new : Option (List ℕ)) (conn : sql.Held S) (text : List ℕ) : Type 0 where
      pub import : HasImport limits 0 longest text
      pub roster : List Entry
      pub store : SqlHeld S
      pub opened : HasRows g finds cluster.bond node roster store
      -- all rows of the store
      pub rows : List NumberedRow
      pub are_rows : HasCleanDisk (sql.state g store.conn)
          → rows ≡ numbered 0 roster store.mirror.rows (entries_of cluster.salt import.book)
      pub left : HasCleanDisk (sql.state g store.conn) → IsLeft node cluster.bond store.mirror.boot rows store conn
      pub written : Appends old new (dropped_text rows)

    -- Nothing is dropped, or the output failed after it was. The users file is not imported, two of its tokens have one
    -- name, or the store is another cluster's or fails.
    abbrev pub IsNotDropped : RosterFault → List ℕ → Type 0
    IsNotDropped (Command fault) text = EndsOutput limits 0 longest fault text
    IsNotDropped (SameName row) text = HasSameName cluster.salt limits 0 longest row text
    IsNotDropped AnotherCluster text = IsUnbound g finds cluster.bond
    IsNotDropped Full text = ⊥
