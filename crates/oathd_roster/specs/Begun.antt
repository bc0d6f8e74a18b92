-- The new store of a member that never served, by the names of the tokens of a users file. Floor: the first free factor
-- of a token at a node.
use Rattle.std.specs.Prelude.{◌≡◌, ℕ, List, ◌++◌, length, Option, codes, if◌then◌else◌}
use Rattle.std.specs.Io.KnownBytes.{Appends}
use Rattle.sqlite.specs.Store.{Ghosts}
use Rattle.sqlite.specs.Held as sql
use Rattle.sqlite.specs.State.{HasCleanDisk, Survives}
use Rattle.otp_core.specs.Limits.{Limits}
use Rattle.token_file.specs.Credential.{Credential}
use Rattle.floor_sql.specs.Held.{SqlHeld}
use Rattle.floor_store.specs.Content.{Content}
use Rattle.floor_sql.specs.Stored.{Commits, MayCommit}
use Rattle.named_store.specs.Entries.{entries_of}
use Rattle.named_store.specs.Opened.{HasSeated}
use Rattle.roster_sql.specs.Opened.{OpensNamed}
use Rattle.roster_sql.specs.Roster.{BondRecord}
use Rattle.roster_sql.specs.declared.entry.Entry.{Entry}
use Rattle.seated_store.specs.Seated.{SeatedRecord}
use Rattle.seated_store.specs.Seats.{seated_content}
use Rattle.vote_core.specs.NodeSet.{PlaceRecord}
use Rattle.oathd_database.specs.Commands.{HasImport, IsRefused}
use Rattle.oathd_database.specs.Lost.{boot_at}
use Rattle.oathd_database.specs.Made.{fresh_text, made_text}
use Rattle.oathd_database.specs.Users.{IsUnread}
use Rattle.oathd_database.specs.declared.fault.Fault.TheVariants.{Memory, CannotWrite, NoClock, Users, Store, Socket}
use Rattle.oathd_roster.specs.Enrolment.{enrolment_floors}
use Rattle.oathd_roster.specs.Users.{HasSameName}
use Rattle.oathd_roster.specs.declared.cluster.NamedCluster.{NamedCluster}
use Rattle.oathd_roster.specs.declared.fault.RosterFault.{RosterFault}
use Rattle.oathd_roster.specs.declared.fault.RosterFault.TheVariants.{Command, SameName, AnotherCluster, Full}

-- No store is created. The users file is not imported, two of its tokens have one name, or the store fails after the
-- import.
abbrev pub IsNotCreated : NamedCluster → Limits → ℕ → ℕ → RosterFault → List ℕ → Type 0
IsNotCreated cluster limits moment longest (Command fault) text = IsRefused limits moment longest fault text
IsNotCreated cluster limits moment longest (SameName row) text =
    HasSameName cluster.salt limits moment longest row text
IsNotCreated cluster limits moment longest AnotherCluster text = ⊥
IsNotCreated cluster limits moment longest Full text = ⊥

-- what is said of the tokens of a new store: from when on its time tokens are accepted is as new tokens are enrolled
abbrev pub created_text : NamedCluster → Limits → ℕ → PlaceRecord → Content → List Credential → List ℕ
created_text cluster limits moment place content book =
    if cluster.is_fresh then fresh_text place content book moment else made_text place content book limits moment

-- what the beginning of a cluster rests on
abbrev pub basis_text : List ℕ
basis_text = codes "it rests on this: no member of the cluster ever served, else used codes are good again\n"

-- what is said of the new store of a member
abbrev pub begun_text : NamedCluster → Limits → ℕ → PlaceRecord → Content → List Credential → List ℕ
begun_text cluster limits moment place content book =
    created_text cluster limits moment place content book ++ basis_text

module _ {S : Type 0} (g : Ghosts S) (finds : sql.Held S → Type 0) where
  -- The store of `node` at `boot`, with the given entries, floors and bond, is created by one commit in the tables of
  -- some connection. It is then opened, and each of the entries is seen at its row.
  pub record IsBegunAt (node boot : ℕ) (entries : List Entry) (floors : List ℕ) (own : BondRecord)
      (store : SeatedRecord (SqlHeld S)) : Type 0 where
    pub first : sql.Held S
    pub found : HasCleanDisk (sql.state g first) → finds first
    -- the connection between the creation and the opening
    pub made : sql.Held S
    pub creates : HasCleanDisk (sql.state g made)
        → Commits (OpensNamed node boot floors entries own) (sql.state g first) (sql.state g made)
    pub survives : Survives (sql.state g first) (sql.state g made)
        (MayCommit (OpensNamed node boot floors entries own) (sql.state g first))
    pub seated : HasSeated g made node entries floors own store
    pub each : length store.seats ≡ length entries

  module _ (cluster : NamedCluster) (limits : Limits) (moment : ℕ) where
    -- the store of `node` begins with the tokens of the book, at the boot of the moment
    abbrev pub IsBegun : ℕ → List Credential → List ℕ → SeatedRecord (SqlHeld S) → Type 0
    IsBegun node book floors store = IsBegunAt node (boot_at moment) (entries_of cluster.salt book)
        (enrolment_floors cluster limits moment book floors) cluster.bond store

    -- The store of the member at `place` begins with the tokens of a users file, and its text is written.
    pub record HasBegun (longest : ℕ) (place : PlaceRecord) (store : SeatedRecord (SqlHeld S))
        (old new : Option (List ℕ)) (text : List ℕ) : Type 0 where
      pub import : HasImport limits moment longest text
      pub begun : IsBegun place.me import.book import.floors store
      pub written : HasCleanDisk (sql.state g store.inner.conn) → Appends old new
          (begun_text cluster limits moment place (seated_content store.seats store.inner.mirror) import.book)

    -- the store of `node` begins with the tokens of a users file
    pub record HasBegunStore (longest node : ℕ) (text : List ℕ) : Type 0 where
      pub import : HasImport limits moment longest text
      pub store : SeatedRecord (SqlHeld S)
      pub begun : IsBegun node import.book import.floors store

    -- No store begins, or the output failed after it began.
    abbrev pub IsNotBegun : ℕ → ℕ → RosterFault → List ℕ → Type 0
    IsNotBegun longest node (Command Memory) text = Unit {0}
    IsNotBegun longest node (Command CannotWrite) text = HasBegunStore longest node text
    IsNotBegun longest node (Command NoClock) text = ⊥
    IsNotBegun longest node (Command (Users fault)) text = IsUnread limits moment longest (Users fault) text
    IsNotBegun longest node (Command (Store fault)) text = HasImport limits moment longest text
    IsNotBegun longest node (Command Socket) text = ⊥
    IsNotBegun longest node (SameName row) text = HasSameName cluster.salt limits moment longest row text
    IsNotBegun longest node AnotherCluster text = ⊥
    IsNotBegun longest node Full text = ⊥
