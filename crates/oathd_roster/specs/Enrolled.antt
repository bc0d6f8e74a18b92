-- The rows of a users file whose tokens have rows in a store, and the text for which a node is served.
use Rattle.std.specs.Prelude.{◌≡◌, ◌≢◌, ◌⊎◌, ℕ, Bool, false, List, [], Option, None, Some, Result, Ok, Err, length, slice_get}
use Rattle.std.specs.BTreeSet.{BTreeSet, contains}
use Rattle.std.specs.Global.{Vec}
use Rattle.std.specs.Cmp.Lexicographic.{slice_cmp}
use Rattle.std.specs.Ordering.{nat_cmp}
use Rattle.sqlite.specs.Store.{Ghosts}
use Rattle.sqlite.specs.Held as sql
use Rattle.sqlite.specs.State.{HasCleanDisk}
use Rattle.kept_rows.specs.Kept.{kept_rows}
use Rattle.otp_core.specs.Limits.{Limits}
use Rattle.token_file.specs.UsersFile.{Import, book_of, instant_of}
use Rattle.token_file.specs.declared.fault.LineFault.{LineFault}
use Rattle.named_store.specs.Entries.{entries_of}
use Rattle.named_store.specs.Opened.{AreCounts, HasNames, HasSeated}
use Rattle.named_store.specs.Seating.{AreDistinct, has_name}
use Rattle.named_store.specs.declared.fault.NamedFault.TheVariants as named
use Rattle.named_store.specs.declared.opening.RowCounts.{RowCounts}
use Rattle.roster_sql.specs.declared.entry.Entry.{Entry}
use Rattle.floor_sql.specs.Calls.{KeepsTables}
use Rattle.floor_sql.specs.Held.{SqlHeld}
use Rattle.seated_store.specs.Seated.{SeatedRecord}
use Rattle.token_file.specs.Credential.{Credential}
use Rattle.oathd_database.specs.Fault.{IsOpenFault}
use Rattle.oathd_roster.specs.Enrolment.{enrolment_floors}
use Rattle.oathd_roster.specs.Opened.{IsKeptOut}
use Rattle.oathd_roster.specs.declared.cluster.NamedCluster.{NamedCluster}
use Rattle.oathd_roster.specs.declared.fault.RosterFault.{RosterFault}
use Rattle.oathd_roster.specs.declared.fault.RosterFault.TheVariants.{Command, SameName, AnotherCluster, Full}

-- ---- The rows

-- the entries of the tokens of an outcome; a fault has none
abbrev pub entries_in : List ℕ → Result Import (ℕ × LineFault) → List Entry
entries_in salt (Ok import) = entries_of salt import.book
entries_in salt (Err fault) = []

-- whether a row of the store has the name of an entry, if there is one
abbrev pub is_row : List Entry → Option Entry → Bool
is_row roster None = false
is_row roster (Some entry) = has_name roster entry.name

-- whether a line, if it is read alone, has a token with a row in the store; it has one token at most
abbrev pub is_enrolled : List ℕ → Limits → List Entry → List ℕ → Bool
is_enrolled salt limits roster line =
    is_row roster (slice_get (entries_in salt (book_of 16777216 (instant_of limits 0) line)) 0)

-- the rows of a users file whose tokens have rows in the store, in their order
abbrev pub enrolled_rows : List ℕ → Limits → List Entry → List ℕ → List ℕ
enrolled_rows salt limits roster text = kept_rows (is_enrolled salt limits roster) text

-- the set has the names of the rows, and no other
abbrev pub AreNamesOf : List Entry → BTreeSet (List ℕ) → Type 0
AreNamesOf roster names = (name : List ℕ) → contains (slice_cmp nat_cmp) names name ≡ has_name roster name

-- ---- The text

-- the kept text, or the whole one if all is served
abbrev pub text_or : List ℕ → Option (Vec ℕ) → List ℕ
text_or text None = text
text_or text (Some kept) = kept.items

-- a fault of an opening for these rows: of the memory, of the store, or that none of them has a token
abbrev pub IsRowsFault : RosterFault → Type 0
IsRowsFault (Command fault) = IsOpenFault fault
IsRowsFault (SameName row) = ⊥
IsRowsFault AnotherCluster = ⊥
IsRowsFault Full = Unit {0}

module _ {S : Type 0} (g : Ghosts S) (cluster : NamedCluster) (limits : Limits) where
  -- The tables of a connection are of the store of `node` that is bound to the cluster. The kept text has the rows of a
  -- users file whose tokens have rows there.
  pub record KeepsRows (conn : sql.Held S) (node : ℕ) (text kept : List ℕ) : Type 0 where
    pub roster : List Entry
    -- the connection after the rows were read
    pub left : sql.Held S
    pub read : KeepsTables g conn left
    pub tables : HasCleanDisk (sql.state g left) → HasNames (sql.state g conn).now node roster cluster.bond
    pub kept_are : kept ≡ enrolled_rows cluster.salt limits roster text

  -- The store of `node` in the tables of a connection is opened for the tokens of a book, as `HasOpenedNamed` says.
  pub record IsOpenedFor (moment : ℕ) (conn : sql.Held S) (node : ℕ) (book : List Credential) (floors : List ℕ)
      (store : SeatedRecord (SqlHeld S)) (counts : RowCounts) : Type 0 where
    pub seated : HasSeated g conn node (entries_of cluster.salt book)
        (enrolment_floors cluster limits moment book floors) cluster.bond store
    pub counted : HasCleanDisk (sql.state g store.inner.conn)
        → AreCounts (sql.state g conn).now node (entries_of cluster.salt book) cluster.bond counts
    pub each : length store.seats ≡ length book
    pub names_apart : AreDistinct (entries_of cluster.salt book)

  -- The store of `node` has no room for the new tokens of a users file. The kept text has its other rows.
  pub record HasKeptRows (finds : sql.Held S → Type 0) (moment node : ℕ) (text kept : List ℕ) : Type 0 where
    pub no_room : IsKeptOut g finds cluster limits moment 16777216 node named.Full text
    -- a row is kept
    pub some : kept ≢ []
    pub conn : sql.Held S
    pub found : HasCleanDisk (sql.state g conn) → finds conn
    pub rows : KeepsRows conn node text kept

  -- the text for which a node is served: the users file, or the rows of it that are kept
  abbrev pub IsServedText : (sql.Held S → Type 0) → ℕ → ℕ → List ℕ → List ℕ → Type 0
  IsServedText finds moment node text served = (served ≡ text) ⊎ HasKeptRows finds moment node text served
