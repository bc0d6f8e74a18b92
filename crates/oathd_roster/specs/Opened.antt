-- A store that a command opens by the names of the tokens of a users file. Floor: the first free factor of a token at a
-- node.
use Rattle.std.specs.Prelude.{◌≡◌, ℕ, List, length}
use Rattle.sqlite.specs.Store.{Ghosts}
use Rattle.sqlite.specs.Held as sql
use Rattle.sqlite.specs.State.{HasCleanDisk}
use Rattle.otp_core.specs.Limits.{Limits}
use Rattle.token_file.specs.Credential.{Credential}
use Rattle.floor_sql.specs.Held.{SqlHeld}
use Rattle.named_store.specs.Entries.{entries_of}
use Rattle.named_store.specs.Opened.{AreCounts, EnrolsNames, HasSeated, IsCause, IsRefused as HandsBackNamed}
use Rattle.named_store.specs.Seating.{AreDistinct}
use Rattle.named_store.specs.declared.fault.NamedFault.{NamedFault}
use Rattle.named_store.specs.declared.fault.NamedFault.TheVariants as named
use Rattle.named_store.specs.declared.opening.RowCounts.{RowCounts}
use Rattle.seated_store.specs.Seated.{SeatedRecord}
use Rattle.oathd_database.specs.Commands.{HasImport, IsRefused}
use Rattle.oathd_roster.specs.Enrolment.{enrolment_floors}
use Rattle.oathd_roster.specs.Users.{HasSameName}
use Rattle.oathd_roster.specs.declared.cluster.NamedCluster.{NamedCluster}
use Rattle.oathd_roster.specs.declared.fault.RosterFault.{RosterFault}
use Rattle.oathd_roster.specs.declared.fault.RosterFault.TheVariants.{Command, SameName, AnotherCluster, Full}

module _ {S : Type 0} (g : Ghosts S) (finds : sql.Held S → Type 0) (cluster : NamedCluster)
    (limits : Limits) (moment : ℕ) where
  -- The store of `node` is in the tables of some connection, and bound to the cluster. Each token of the book is seen
  -- at the row with its name. A new token has its floor of an enrolment at the moment, or a greater one of its seed.
  pub record HasOpenedNamed (node : ℕ) (book : List Credential) (floors : List ℕ)
      (store : SeatedRecord (SqlHeld S)) (counts : RowCounts) : Type 0 where
    pub conn : sql.Held S
    pub found : HasCleanDisk (sql.state g conn) → finds conn
    pub seated : HasSeated g conn node (entries_of cluster.salt book)
        (enrolment_floors cluster limits moment book floors) cluster.bond store
    pub counted : HasCleanDisk (sql.state g store.inner.conn)
        → AreCounts (sql.state g conn).now node (entries_of cluster.salt book) cluster.bond counts
    pub each : length store.seats ≡ length book
    -- no two tokens have one name
    pub names_apart : AreDistinct (entries_of cluster.salt book)

  -- The tables of some connection give the reason why no store is opened. They stay, or have the new tokens.
  pub record IsKeptOut (longest node : ℕ) (fault : NamedFault) (text : List ℕ) : Type 0 where
    pub import : HasImport limits moment longest text
    pub conn : sql.Held S
    pub found : HasCleanDisk (sql.state g conn) → finds conn
    -- the connection after the refusal
    pub left : sql.Held S
    pub cause : HasCleanDisk (sql.state g left)
        → IsCause (sql.state g conn).now node (entries_of cluster.salt import.book) cluster.bond fault
    pub kept : HandsBackNamed g (EnrolsNames node (entries_of cluster.salt import.book)
        (enrolment_floors cluster limits moment import.book import.floors) cluster.bond) conn left

  -- No store is opened. The users file is not imported, two of its tokens have one name, or the store is another
  -- cluster's, is full or fails after the import.
  abbrev pub IsNotOpened : ℕ → ℕ → RosterFault → List ℕ → Type 0
  IsNotOpened longest node (Command fault) text = IsRefused limits moment longest fault text
  IsNotOpened longest node (SameName row) text = HasSameName cluster.salt limits moment longest row text
  IsNotOpened longest node AnotherCluster text = IsKeptOut longest node named.AnotherCluster text
  IsNotOpened longest node Full text = IsKeptOut longest node named.Full text
