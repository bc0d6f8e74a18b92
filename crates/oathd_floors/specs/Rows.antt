-- The store of a command by names, with all its rows.
use Rattle.std.specs.Prelude.{ℕ, List}
use Rattle.sqlite.specs.Store.{Ghosts}
use Rattle.sqlite.specs.Held as sql
use Rattle.sqlite.specs.State.{HasCleanDisk}
use Rattle.floor_sql.specs.Calls.{HandsBack, IsSound, KeepsTables}
use Rattle.floor_sql.specs.Held.{SqlHeld}
use Rattle.named_store.specs.Looked.{HoldsStore}
use Rattle.named_store.specs.Seating.{AreDistinct}
use Rattle.roster_sql.specs.Roster.{BondRecord, HoldsBond}
use Rattle.roster_sql.specs.declared.entry.Entry.{Entry}
use Rattle.floor_store.specs.declared.fault.StoreFault.TheVariants.{Unusable}
use Rattle.named_store.specs.declared.fault.LookFault.{LookFault}
use Rattle.named_store.specs.declared.fault.LookFault.TheVariants as look
use Rattle.oathd_database.specs.Fault.{IsStoreFault}
use Rattle.oathd_database.specs.declared.fault.Fault.TheVariants.{Store}
use Rattle.oathd_roster.specs.Fault.{named_fault_of}
use Rattle.oathd_roster.specs.declared.fault.RosterFault.{RosterFault}
use Rattle.oathd_roster.specs.declared.fault.RosterFault.TheVariants.{Command, SameName, AnotherCluster, Full}

-- a command's fault if no rows are seen, by no token
abbrev pub rows_fault_of : LookFault → RosterFault
rows_fault_of (look.NotEnrolled place) = Command (Store Unusable)
rows_fault_of (look.Named fault) = named_fault_of fault

module _ {S : Type 0} (g : Ghosts S) (finds : sql.Held S → Type 0) (own : BondRecord) where
  -- The store of `node` is in the tables of some connection, and bound to the cluster. `roster` has the entry of each
  -- row, and no two have one name. The tables stay.
  pub record HasRows (node : ℕ) (roster : List Entry) (store : SqlHeld S) : Type 0 where
    pub conn : sql.Held S
    pub found : HasCleanDisk (sql.state g conn) → finds conn
    pub tables : HasCleanDisk (sql.state g store.conn)
        → HoldsStore (sql.state g conn).now node roster own store.mirror store.passes
    pub kept : KeepsTables g conn store.conn
    pub distinct : AreDistinct roster
    pub sound : IsSound g store

  -- The store in the tables of some connection is bound to another cluster. The tables stay.
  pub record IsUnbound : Type 0 where
    pub conn : sql.Held S
    pub found : HasCleanDisk (sql.state g conn) → finds conn
    -- the connection after the refusal
    pub left : sql.Held S
    pub unbound : HasCleanDisk (sql.state g left) → ¬ HoldsBond (sql.state g conn).now.trees own
    pub kept : HandsBack g conn left (λ _. ⊥)

  -- The rows are not read: the store fails, or is another cluster's.
  abbrev pub IsNotRead : RosterFault → Type 0
  IsNotRead (Command fault) = IsStoreFault fault
  IsNotRead (SameName row) = ⊥
  IsNotRead AnotherCluster = IsUnbound
  IsNotRead Full = ⊥
