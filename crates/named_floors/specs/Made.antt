-- A store of version 3 that is made from floors files by names.
use Rattle.std.specs.Prelude.{◌≡◌, ◌⊎◌, ℕ, ◌<◌, true, false, List, length, Result, IsTrue, IfErr, OnErr, OnOk}
use Rattle.sqlite.specs.Store.{Ghosts}
use Rattle.sqlite.specs.Effect.{Database}
use Rattle.sqlite.specs.Held as sql
use Rattle.sqlite.specs.State.{HasCleanDisk, Survives}
use Rattle.floor_store.specs.Fault.{is_failure}
use Rattle.floor_store.specs.declared.fault.StoreFault.{StoreFault}
use Rattle.floor_store.specs.declared.fault.StoreFault.TheVariants.{AlreadyThere, Unusable}
use Rattle.floor_sql.specs.Created.{IsForeign, has_own_table}
use Rattle.floor_sql.specs.Shown.{IsLeft}
use Rattle.floor_sql.specs.Stored.{Commits, MayCommit}
use Rattle.floors_file.specs.declared.named.NamedFloor.{NamedFloor}
use Rattle.named_store.specs.Seating.{AreDistinct}
use Rattle.named_store.specs.declared.fault.NamedFault.{NamedFault}
use Rattle.named_store.specs.declared.fault.NamedFault.TheVariants.{AnotherCluster, Full, Store}
use Rattle.roster_sql.specs.declared.entry.Entry.{Entry}
use Rattle.roster_sql.specs.Opened.{OpensNamed}
use Rattle.roster_sql.specs.Roster.{BondRecord}
use Rattle.named_floors.specs.Remade.{remade_entries, remade_floors}

-- when there are no rows for a store
abbrev pub HasNoRows : List NamedFloor → List Entry → NamedFault → Type 0
HasNoRows gathered names AnotherCluster = ⊥
HasNoRows gathered names Full = 65536 < length (remade_entries gathered names)
HasNoRows gathered names (Store fault) = IsTrue (is_failure fault) × (fault ≡ Unusable → ¬ AreDistinct names)

-- whatever the disk returns: no store is of another cluster, and one is full if there are too many rows
abbrev pub IsMakeFault : List NamedFloor → List Entry → NamedFault → Type 0
IsMakeFault gathered names AnotherCluster = ⊥
IsMakeFault gathered names Full = 65536 < length (remade_entries gathered names)
IsMakeFault gathered names (Store fault) = Unit {0}

-- when each fault of the store comes
pub record IsUnmadeBy (names : List Entry) (db : Database) (fault : StoreFault) : Type 0 where
  pub known : IsTrue (is_failure fault) ⊎ ((fault ≡ AlreadyThere) × (has_own_table db.schema ≡ true))
  pub unusable : fault ≡ Unusable → ¬ AreDistinct names ⊎ IsForeign db.schema

-- when each fault comes
abbrev pub IsUnmade : List NamedFloor → List Entry → Database → NamedFault → Type 0
IsUnmade gathered names db AnotherCluster = ⊥
IsUnmade gathered names db Full = 65536 < length (remade_entries gathered names)
IsUnmade gathered names db (Store fault) = IsUnmadeBy names db fault

-- the tables of a new store, with the gathered rows followed by the tokens whose names no gathered row has
abbrev pub OpensRemade : ℕ → ℕ → List NamedFloor → List Entry → List ℕ → BondRecord → Database → Database → Type 0
OpensRemade node boot gathered names floors own =
    OpensNamed node boot (remade_floors gathered names floors) (remade_entries gathered names) own

module _ {S : Type 0} (g : Ghosts S) where
  -- A store is made in one transaction, whole or not at all.
  pub record Makes {A : Type 0} (old new : sql.Held S) (IsChange : Database → Database → Type 0)
      (IsCause : Database → NamedFault → Type 0) (result : Result A NamedFault) : Type 0 where
    pub idle : new.in_transaction ≡ false
    pub ok : HasCleanDisk (sql.state g new) → OnOk result (Commits IsChange (sql.state g old) (sql.state g new))
    pub err : HasCleanDisk (sql.state g new) → OnErr result (IsLeft (sql.state g old) (sql.state g new))
    pub cause : HasCleanDisk (sql.state g new) → IfErr result (IsCause (sql.state g old).now)
    pub survives : Survives (sql.state g old) (sql.state g new) (MayCommit IsChange (sql.state g old))
