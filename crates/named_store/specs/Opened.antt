-- A store of version 3 that is opened for the tokens of a users file, by their names.
use Rattle.std.specs.Prelude.{◌≡◌, ◌⊎◌, ℕ, ◌+◌, ◌<◌, ◌≤◌, nat_lt, false, if◌then◌else◌, List, length, map, filter_map, slice_get, slice_index_or, Option, None, Some, IsTrue, IfErr, IfOk, OnOk, Result}
use Rattle.sqlite.specs.Store.{Ghosts}
use Rattle.sqlite.specs.Effect.{Database}
use Rattle.sqlite.specs.Held as sql
use Rattle.sqlite.specs.State.{HasCleanDisk, Survives}
use Rattle.floor_store.specs.Content.{Content}
use Rattle.floor_store.specs.Fault.{is_failure}
use Rattle.floor_store.specs.Records.{PassRecord}
use Rattle.floor_sql.specs.Calls.{IsSound}
use Rattle.floor_sql.specs.Held.{HasTablesAs, SqlHeld}
use Rattle.floor_sql.specs.Shown.{IsLeft, IsRead}
use Rattle.floor_sql.specs.Stored.{Holds, MayCommit}
use Rattle.floor_sql.specs.Usable.{HasUsableVersion, IsNode}
use Rattle.floor_sql.specs.Schema.{schema_of}
use Rattle.floor_sql.specs.Staged.{with_puts}
use Rattle.floor_sql.specs.declared.put.Put.{Put}
use Rattle.floor_sql.specs.declared.schema.Format.TheVariants.{Named}
use Rattle.roster_sql.specs.Enrolled.{Enrols, with_floors}
use Rattle.roster_sql.specs.Made.{IsStoreOf}
use Rattle.roster_sql.specs.Read.{HasUsableBond, HasUsableEntry}
use Rattle.roster_sql.specs.Roster.{BondRecord, HoldsBond, HoldsNamed, HoldsRoster}
use Rattle.roster_sql.specs.declared.entry.Entry.{Entry}
use Rattle.seated_store.specs.Seated.{SeatedRecord}
use Rattle.seated_store.specs.Seats.{row_at}
use Rattle.named_store.specs.Floors.{no_entry, raised_floor, rise, seeded_floors}
use Rattle.named_store.specs.Seating.{AreDistinct, AreSeatsOf, new_entries, new_places, rows_after}
use Rattle.named_store.specs.declared.fault.NamedFault.{NamedFault}
use Rattle.named_store.specs.declared.fault.NamedFault.TheVariants.{AnotherCluster, Full, Store}
use Rattle.named_store.specs.declared.opening.RowCounts.{RowCounts}

-- ---- what a store says of its tokens

-- the tables are of a store of version 3, of `node`, with these entries and this bond
pub record HasNames (db : Database) (node : ℕ) (roster : List Entry) (own : BondRecord) : Type 0 where
  pub store : IsStoreOf Named db node (length roster)
  pub entries : HoldsRoster db.trees roster
  pub bond : HoldsBond db.trees own

-- the tables of a store of version 3, of `node`, with an entry of each token and a bond, with values in range
pub record HasUsableNames (db : Database) (node : ℕ) : Type 0 where
  pub schema : db.schema ≡ schema_of Named
  pub of_node : IsNode node
  pub tokens : ℕ
  pub of_tokens : tokens ≤ 65536
  pub self : HasUsableVersion db.trees 3 node tokens
  pub entries : (token : ℕ) → token < tokens → HasUsableEntry db.trees token
  pub bond : HasUsableBond db.trees

-- the store has no room for the new tokens
pub record HasNoRoom (db : Database) (node : ℕ) (names : List Entry) : Type 0 where
  pub roster : List Entry
  pub own : BondRecord
  pub has : HasNames db node roster own
  pub many : 65536 < length (rows_after roster names)

-- when each fault comes
abbrev pub IsCause : Database → ℕ → List Entry → BondRecord → NamedFault → Type 0
IsCause db node names own AnotherCluster = ¬ HoldsBond db.trees own
IsCause db node names own Full = HasNoRoom db node names
IsCause db node names own (Store fault) = IsTrue (is_failure fault)

-- ---- the new tokens

-- the floors of the rows
abbrev pub floors_in : Content → List ℕ
floors_in c = map (λ row. row.next) c.rows

-- the floors of the new tokens, for a store with the content `c`
abbrev pub new_floors : List Entry → List Entry → List ℕ → Content → List ℕ
new_floors roster names floors c = seeded_floors roster (floors_in c) names floors (new_places roster names)

-- the put that raises the row of a seat to the greatest floor of its seed, if it is lower; the seat of a new token is
-- behind the rows
abbrev pub seat_rise : List Entry → Content → ℕ → Option Put
seat_rise roster c seat =
    if nat_lt seat (length roster)
    then rise seat (row_at c.rows seat)
    (raised_floor roster (floors_in c) (slice_index_or roster seat no_entry).seed (row_at c.rows seat).next)
    else None

-- the puts that raise the rows of seats
abbrev pub rises : List Entry → List ℕ → Content → List Put
rises roster seats c = filter_map (seat_rise roster c) seats

-- each put is of one of the given number of rows
abbrev pub AreWithin : ℕ → List Put → Type 0
AreWithin rows puts = (i : ℕ) (put : Put) → slice_get puts i ≡ Some put → put.token < rows

-- the content with the rows of the seats raised, and with an opening row for each new token behind the rows that it has
abbrev pub with_new : List Entry → List Entry → List ℕ → List ℕ → Content → Content
with_new roster names floors seats c =
    with_floors (new_floors roster names floors c) (with_puts c (rises roster seats c))

-- rows are raised and the new tokens are enrolled in a store with the entries `roster`
pub record EnrolsNew (node : ℕ) (roster names : List Entry) (floors seats : List ℕ) (old new : Database)
    : Type 0 where
  pub content : Content
  pub passes : List PassRecord
  pub holds : Holds Named old.trees content passes
  pub enrols : Enrols node (length roster) (length passes) (rises roster seats content)
      (new_floors roster names floors content) (new_entries roster names) old new

-- The tables `old` hold a content, and the tables `new` hold it with its seated rows raised and the new tokens behind.
-- The passes and the bond are the same. `mirror` is the content of `new`.
pub record HasGrown (node : ℕ) (roster names : List Entry) (floors seats : List ℕ) (own : BondRecord)
    (old new : Database) (mirror : Content) : Type 0 where
  pub content : Content
  pub passes : List PassRecord
  pub was : HoldsNamed old content passes roster own
  pub now : HoldsNamed new (with_new roster names floors seats content) passes (rows_after roster names) own
  pub of_node : was.holds.node ≡ node
  pub same_node : now.holds.node ≡ node
  pub seen : mirror ≡ with_new roster names floors seats content

-- rows are raised and the new tokens are enrolled in a store of `node` that is bound to `own`
pub record EnrolsNames (node : ℕ) (names : List Entry) (floors : List ℕ) (own : BondRecord)
    (old new : Database) : Type 0 where
  pub roster : List Entry
  pub seats : List ℕ
  pub seated : AreSeatsOf roster names seats
  pub has : HasNames old node roster own
  pub enrols : EnrolsNew node roster names floors seats old new

-- The tables are of a store of `node` that is bound to `own`. So many rows are there after the tokens without one were
-- enrolled, and so many of the tokens had none.
pub record AreCounts (db : Database) (node : ℕ) (names : List Entry) (own : BondRecord) (counts : RowCounts)
    : Type 0 where
  pub roster : List Entry
  pub has : HasNames db node roster own
  pub all_rows : counts.all ≡ length (rows_after roster names)
  pub new_rows : counts.enrolled ≡ length (new_entries roster names)

-- The tables are of a store of `node` that is bound to `own`. These are the entries of its rows after the tokens without
-- one were enrolled.
pub record AreRows (db : Database) (node : ℕ) (names : List Entry) (own : BondRecord) (rows : List Entry)
    : Type 0 where
  pub roster : List Entry
  pub has : HasNames db node roster own
  pub rows_are : rows ≡ rows_after roster names

-- Each seated row has at least the floor of every row with its seed. Both are among the rows with the given entries.
abbrev pub AreGreatest : List Entry → List ℕ → Content → Type 0
AreGreatest roster seats c = (i seat row : ℕ) (own other : Entry) → slice_get seats i ≡ Some seat
    → slice_get roster seat ≡ Some own → slice_get roster row ≡ Some other → other.seed ≡ own.seed
    → (row_at c.rows row).next ≤ (row_at c.rows seat).next

-- The tables `old` are of a store of `node` that is bound to `own`. The tables `new` hold it with its seated rows raised
-- and the new tokens behind. Each token has a seat, the row with its name. A seated row that was there has the greatest
-- floor of its seed.
pub record HasSeats (node : ℕ) (names : List Entry) (floors : List ℕ) (own : BondRecord) (old new : Database)
    (mirror : Content) (seats : List ℕ) : Type 0 where
  pub roster : List Entry
  pub distinct : AreDistinct roster
  pub grown : HasGrown node roster names floors seats own old new mirror
  pub seated : AreSeatsOf roster names seats
  pub greatest : AreGreatest roster seats mirror

module _ {S : Type 0} (g : Ghosts S) where
  -- ---- steps of the opening

  -- a read of what the store says of its tokens; `IsRight` is about its value, and `IsWrong` about its fault
  pub record Looks {A : Type 0} (old new : sql.Held S) (IsRight : Database → A → Type 0)
      (IsWrong : Database → NamedFault → Type 0) (result : Result A NamedFault) : Type 0 where
    pub read : HasCleanDisk (sql.state g new) → OnOk result (IsRead (sql.state g old) (sql.state g new))
    pub left : HasCleanDisk (sql.state g new) → IsLeft (sql.state g old) (sql.state g new)
    pub idle : old.in_transaction ≡ false → new.in_transaction ≡ false
    pub crash : Survives (sql.state g old) (sql.state g new) (λ _. ⊥)
    pub value : HasCleanDisk (sql.state g new) → IfOk result (IsRight (sql.state g old).now)
    pub fault : HasCleanDisk (sql.state g new) → IfErr result (IsWrong (sql.state g old).now)

  -- A connection returned beside a fault: outside a transaction. While it is open, its tables are the old ones or have
  -- the change. A stop leaves what it left before, or the change.
  pub record IsRefused (IsChange : Database → Database → Type 0) (old new : sql.Held S) : Type 0 where
    pub idle : new.in_transaction ≡ false
    pub tables : HasCleanDisk (sql.state g new) → IsTrue (sql.state g new).is_open
        → ((sql.state g new).now ≡ (sql.state g old).now) ⊎ IsChange (sql.state g old).now (sql.state g new).now
    pub survives : Survives (sql.state g old) (sql.state g new) (MayCommit IsChange (sql.state g old))

  -- tokens with the given floors and entries are enrolled, and the store is opened
  pub record IsEnrolled (old : sql.Held S) (node tokens count : ℕ) (puts : List Put) (floors : List ℕ)
      (entries : List Entry) (store : SqlHeld S) : Type 0 where
    pub enrols : HasCleanDisk (sql.state g store.conn)
        → Enrols node tokens count puts floors entries (sql.state g old).now (sql.state g store.conn).now
    pub content : HasCleanDisk (sql.state g store.conn)
        → HasTablesAs Named (sql.state g store.conn).now node (tokens + length floors) store.mirror store.passes
    pub rows : length store.mirror.rows ≡ tokens + length floors
    pub sound : IsSound g store
    pub survives : Survives (sql.state g old) (sql.state g store.conn)
        (MayCommit (Enrols node tokens count puts floors entries) (sql.state g old))

  -- a store with the entries `roster` is opened, after the new tokens were enrolled
  pub record IsGrown (old : sql.Held S) (node : ℕ) (roster names : List Entry) (floors seats : List ℕ)
      (store : SqlHeld S) : Type 0 where
    pub grown : HasCleanDisk (sql.state g store.conn) → (own : BondRecord)
        → HasNames (sql.state g old).now node roster own
        → HasGrown node roster names floors seats own (sql.state g old).now (sql.state g store.conn).now store.mirror
    pub rows : length store.mirror.rows ≡ length (rows_after roster names)
    pub sound : IsSound g store
    pub survives : Survives (sql.state g old) (sql.state g store.conn)
        (MayCommit (EnrolsNew node roster names floors seats) (sql.state g old))

  -- ---- the opening

  -- The store of `node` that the tables of a connection hold, with the new tokens enrolled, seen through the seats of
  -- the tokens.
  pub record HasSeated (old : sql.Held S) (node : ℕ) (names : List Entry) (floors : List ℕ) (own : BondRecord)
      (store : SeatedRecord (SqlHeld S)) : Type 0 where
    pub tables : HasCleanDisk (sql.state g store.inner.conn) → HasSeats node names floors own (sql.state g old).now
        (sql.state g store.inner.conn).now store.inner.mirror store.seats
    pub sound : IsSound g store.inner
    pub works : store.is_unusable ≡ false
    pub survives : Survives (sql.state g old) (sql.state g store.inner.conn)
        (MayCommit (EnrolsNames node names floors own) (sql.state g old))
