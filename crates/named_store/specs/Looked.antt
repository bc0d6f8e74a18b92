-- A store of version 3 that is looked at by the names of the tokens of a users file. Nothing is enrolled.
use Rattle.std.specs.Prelude.{◌≡◌, ◌<◌, ℕ, false, List, [], length, take, slice_get, Some, IsTrue}
use Rattle.sqlite.specs.Store.{Ghosts}
use Rattle.sqlite.specs.Effect.{Database}
use Rattle.sqlite.specs.Held as sql
use Rattle.sqlite.specs.State.{HasCleanDisk}
use Rattle.floor_store.specs.Content.{Content}
use Rattle.floor_store.specs.Fault.{is_failure}
use Rattle.floor_store.specs.Records.{PassRecord}
use Rattle.floor_sql.specs.Calls.{IsSound, KeepsTables}
use Rattle.floor_sql.specs.Held.{SqlHeld}
use Rattle.roster_sql.specs.Roster.{BondRecord, HoldsBond, HoldsNamed}
use Rattle.roster_sql.specs.declared.entry.Entry.{Entry}
use Rattle.seated_store.specs.Seated.{SeatedRecord}
use Rattle.named_store.specs.Opened.{HasNames}
use Rattle.named_store.specs.Seating.{AreDistinct, AreSeatsOf, has_name, new_entries}
use Rattle.named_store.specs.declared.fault.LookFault.{LookFault}
use Rattle.named_store.specs.declared.fault.LookFault.TheVariants.{NotEnrolled, Named}
use Rattle.named_store.specs.declared.fault.NamedFault.{NamedFault}
use Rattle.named_store.specs.declared.fault.NamedFault.TheVariants.{AnotherCluster, Full, Store}

-- ---- the faults

-- when each fault comes before a token is looked for
abbrev pub IsUnseated : Database → BondRecord → NamedFault → Type 0
IsUnseated db own AnotherCluster = ¬ HoldsBond db.trees own
IsUnseated db own Full = ⊥
IsUnseated db own (Store fault) = IsTrue (is_failure fault)

-- no row has the name of the token at `place`, from 0, and each token before it has a row
pub record IsFirstNew (roster names : List Entry) (place : ℕ) : Type 0 where
  pub token : Entry
  pub there : slice_get names place ≡ Some token
  pub absent : has_name roster token.name ≡ false
  pub before : new_entries roster (take place names) ≡ []

-- the store of `node` that is bound to `own` has no row for the token at `place`, which is the first one without
pub record LacksToken (db : Database) (node : ℕ) (names : List Entry) (own : BondRecord) (place : ℕ) : Type 0 where
  pub roster : List Entry
  pub has : HasNames db node roster own
  pub first : IsFirstNew roster names place

-- when each fault comes
abbrev pub IsUnseen : Database → ℕ → List Entry → BondRecord → LookFault → Type 0
IsUnseen db node names own (NotEnrolled place) = LacksToken db node names own place
IsUnseen db node names own (Named fault) = IsUnseated db own fault

-- whatever the disk returns: a token that is not enrolled is one of the tokens, and no store is full
abbrev pub IsLookFault : List Entry → LookFault → Type 0
IsLookFault names (NotEnrolled place) = place < length names
IsLookFault names (Named AnotherCluster) = Unit {0}
IsLookFault names (Named Full) = ⊥
IsLookFault names (Named (Store fault)) = Unit {0}

-- ---- the store

-- The tables are of a store of `node` that is bound to `own`. It has the content `c`, so many passes, and an entry of
-- each row.
pub record HoldsStore (db : Database) (node : ℕ) (roster : List Entry) (own : BondRecord) (c : Content)
    (count : ℕ) : Type 0 where
  pub passes : List PassRecord
  pub holds : HoldsNamed db c passes roster own
  pub of_node : holds.holds.node ≡ node
  pub counted : length passes ≡ count

-- The seat of each token is the row with its name. No token is new.
pub record AreAllSeated (roster names : List Entry) (seats : List ℕ) : Type 0 where
  pub distinct : AreDistinct roster
  pub none_new : new_entries roster names ≡ []
  pub seated : AreSeatsOf roster names seats
  pub each : length seats ≡ length names

module _ {S : Type 0} (g : Ghosts S) where
  -- The store of `node` in the tables of a connection, seen through the seats of the tokens. The tables stay.
  pub record HasLooked (old : sql.Held S) (node : ℕ) (names : List Entry) (own : BondRecord) (roster : List Entry)
      (store : SeatedRecord (SqlHeld S)) : Type 0 where
    pub tables : HasCleanDisk (sql.state g store.inner.conn)
        → HoldsStore (sql.state g old).now node roster own store.inner.mirror store.inner.passes
    pub kept : KeepsTables g old store.inner.conn
    pub seats : AreAllSeated roster names store.seats
    pub rows : length store.inner.mirror.rows ≡ length roster
    pub sound : IsSound g store.inner
    pub works : store.is_unusable ≡ false
