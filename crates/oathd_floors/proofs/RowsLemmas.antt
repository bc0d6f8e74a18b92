-- A store is opened with all its rows, or is not.
use Rattle.std.proofs.Common.{◌≡◌, ℕ, List, [], subst, sym}
use Rattle.sqlite.specs.Store.{Ghosts}
use Rattle.sqlite.specs.Held as sql
use Rattle.sqlite.specs.State.{HasCleanDisk}
use Rattle.floor_sql.specs.Calls.{HandsBack}
use Rattle.floor_sql.specs.Held.{SqlHeld}
use Rattle.named_store.specs.Looked.{HasLooked, IsLookFault, IsUnseen}
use Rattle.named_store.specs.declared.fault.LookFault.{LookFault}
use Rattle.named_store.specs.declared.fault.LookFault.TheVariants as look
use Rattle.named_store.specs.declared.fault.NamedFault.TheVariants as named
use Rattle.roster_sql.specs.Roster.{BondRecord}
use Rattle.roster_sql.specs.declared.entry.Entry.{Entry}
use Rattle.seated_store.specs.Seated.{SeatedRecord}
use Rattle.oathd_floors.specs.Rows.{HasRows, IsNotRead, rows_fault_of}

module _ {S : Type 0} (g : Ghosts S) (finds : sql.Held S → Type 0) (own : BondRecord) (conn : sql.Held S)
    (found : HasCleanDisk (sql.state g conn) → finds conn) where
  -- the rows of a store that is seen by no token
  pub has_rows : (node : ℕ) (roster : List Entry) (seen : SeatedRecord (SqlHeld S)) (store : SqlHeld S) → store ≡ seen.inner
      → HasLooked g conn node [] own roster seen → HasRows g finds own node roster store
  has_rows node roster seen store same h = subst (λ (s : SqlHeld S). HasRows g finds own node roster s) (sym same) (record {
    conn = conn;
    found = found;
    tables = h.tables;
    kept = h.kept;
    distinct = h.seats.distinct;
    sound = h.sound;
  })

  -- the tables give the reason
  pub not_read : (node : ℕ) (left : sql.Held S) (fault : LookFault) → HandsBack g conn left (λ _. ⊥)
      → (HasCleanDisk (sql.state g left) → IsUnseen (sql.state g conn).now node [] own fault) → IsLookFault [] fault
      → IsNotRead g finds own (rows_fault_of fault)
  not_read node left (look.NotEnrolled place) kept cause known = tt
  not_read node left (look.Named named.AnotherCluster) kept cause known = record { conn = conn; found = found; left = left; unbound = cause; kept = kept }
  not_read node left (look.Named named.Full) kept cause known = absurd known
  not_read node left (look.Named (named.Store fault)) kept cause known = tt
