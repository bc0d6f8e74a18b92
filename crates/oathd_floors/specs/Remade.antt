-- A replacement for the store of a lost node, from floors files by names. Floor: the first free factor of a token at a
-- node.
use Rattle.std.specs.Prelude.{◌≡◌, ◌⊎◌, ◌<◌, ℕ, ◌+◌, List, [], map, Option, Some, None, Ok, length, is_none}
use Rattle.std.specs.Borrow.{Bor}
use Rattle.std.specs.Io.KnownBytes.{Appends}
use Rattle.sqlite.specs.Store.{Ghosts}
use Rattle.sqlite.specs.Held as sql
use Rattle.sqlite.specs.State.{HasCleanDisk, Survives}
use Rattle.otp_core.specs.Limits.{Limits}
use Rattle.floor_sql.specs.Held.{SqlHeld}
use Rattle.floor_sql.specs.Stored.{Commits, MayCommit}
use Rattle.floors_file.specs.Named.{NamedFloorsRecord}
use Rattle.floors_file.specs.NamedGathered.{gathered_rows, named_anew_fault, named_lost_fault}
use Rattle.floors_file.specs.declared.gathered.Asked.{Asked}
use Rattle.floors_file.specs.declared.gathered.FilesFault.{FilesFault}
use Rattle.named_floors.specs.Made.{OpensRemade}
use Rattle.named_floors.specs.Remade.{remade_entries}
use Rattle.named_store.specs.Entries.{entries_of}
use Rattle.named_store.specs.Opened.{HasSeated}
use Rattle.roster_sql.specs.Roster.{BondRecord}
use Rattle.roster_sql.specs.declared.entry.Entry.{Entry}
use Rattle.seated_store.specs.Seated.{SeatedRecord}
use Rattle.seated_store.specs.Seats.{seated_content}
use Rattle.vote_core.specs.NodeSet.{PlaceRecord}
use Rattle.oathd_database.specs.Commands.{HasImport}
use Rattle.oathd_database.specs.Fault.{IsStoreFault}
use Rattle.oathd_database.specs.Lost.{boot_at}
use Rattle.oathd_database.specs.Made.{store_line}
use Rattle.oathd_database.specs.Users.{IsUnread, drifted_floors}
use Rattle.oathd_database.specs.declared.fault.Fault.TheVariants.{Memory, CannotWrite, NoClock, Users, Store, Socket}
use Rattle.oathd_roster.specs.Users.{HasSameName}
use Rattle.oathd_roster.specs.declared.cluster.NamedCluster.{NamedCluster}
use Rattle.oathd_roster.specs.declared.fault.RosterFault.{RosterFault}
use Rattle.oathd_roster.specs.declared.fault.RosterFault.TheVariants.{Command, SameName, AnotherCluster, Full}
use Rattle.oathd_floors.specs.Files.{IsFirstUntaken, TakingRecord, files_after}
use Rattle.oathd_floors.specs.declared.fault.NamedFloorsFault.{NamedFloorsFault}
use Rattle.oathd_floors.specs.declared.fault.NamedFloorsFault.TheVariants.{Roster, Floors, Ahead, Files}
use Rattle.oathd_floors.specs.declared.remaking.Former.{Former}

-- ---- the files

-- the texts of the files
abbrev pub texts_of : Former → List (List ℕ)
texts_of former = map (λ text. text.items) former.texts.now

-- the demand on files for a store that is made at the present time: read in a later second than `since`
abbrev pub asked_of : Former → Asked
asked_of former = record { since = former.since + 1; boot = boot_at former.now }

-- the demand on each file: of the cluster, or of its names if the whole cluster is replaced
abbrev pub taking_of : List ℕ → BondRecord → Former → TakingRecord
taking_of key own former = record { key = key; own = own; is_anew = is_none former.lost; now = former.now }

-- The reason why files are insufficient to replace the store of a node. Without lost nodes, the whole cluster is
-- replaced.
abbrev pub gather_fault : Asked → ℕ → Option (Bor (List ℕ)) → List NamedFloorsRecord → Option FilesFault
gather_fault asked node None files = named_anew_fault asked files
gather_fault asked node (Some lost) files = named_lost_fault asked node lost.now files

-- The texts are floors files of the cluster that together are sufficient.
pub record IsGathered (key : List ℕ) (own : BondRecord) (node : ℕ) (former : Former)
    (files : List NamedFloorsRecord) : Type 0 where
  pub taken : files_after (taking_of key own former) [] (texts_of former) ≡ Ok files
  pub enough : gather_fault (asked_of former) node former.lost files ≡ None

-- the texts are floors files of the cluster that together have the fault
pub record HasFault (key : List ℕ) (own : BondRecord) (node : ℕ) (former : Former) (fault : FilesFault) : Type 0 where
  pub files : List NamedFloorsRecord
  pub taken : files_after (taking_of key own former) [] (texts_of former) ≡ Ok files
  pub told : gather_fault (asked_of former) node former.lost files ≡ Some fault

-- No files are gathered: the allocator refused the memory, a text is not taken, or the files are insufficient.
abbrev pub IsInsufficient : List ℕ → BondRecord → ℕ → Former → NamedFloorsFault → Type 0
IsInsufficient key own node former (Roster fault) = fault ≡ Command Memory
IsInsufficient key own node former (Floors number fault) =
    IsFirstUntaken (taking_of key own former) (texts_of former) (Floors number fault)
IsInsufficient key own node former (Ahead number) =
    IsFirstUntaken (taking_of key own former) (texts_of former) (Ahead number)
IsInsufficient key own node former (Files fault) =
    HasFault key own node former fault
    ⊎ IsFirstUntaken (taking_of key own former) (texts_of former) (Files fault)

-- ---- the faults

-- why no store is made from files
abbrev pub IsNotMadeAgain : List NamedFloorsRecord → List Entry → RosterFault → Type 0
IsNotMadeAgain files entries (Command fault) = IsStoreFault fault
IsNotMadeAgain files entries (SameName row) = ⊥
IsNotMadeAgain files entries AnotherCluster = ⊥
IsNotMadeAgain files entries Full = 65536 < length (remade_entries (gathered_rows files) entries)

-- The users file is imported, and the texts are floors files of the cluster that together are sufficient.
pub record HasGathered (cluster : NamedCluster) (key : List ℕ) (limits : Limits) (moment longest node : ℕ)
    (former : Former) (text : List ℕ) : Type 0 where
  pub import : HasImport limits moment longest text
  pub files : List NamedFloorsRecord
  pub gathered : IsGathered key cluster.bond node former files

-- there are more rows than a store takes
pub record IsTooFull (cluster : NamedCluster) (key : List ℕ) (limits : Limits) (moment longest node : ℕ)
    (former : Former) (text : List ℕ) : Type 0 where
  pub has : HasGathered cluster key limits moment longest node former text
  pub full : 65536 < length (remade_entries (gathered_rows has.files) (entries_of cluster.salt has.import.book))

-- ---- the store

module _ {S : Type 0} (g : Ghosts S) (finds : sql.Held S → Type 0) where
  -- The store of `node` at `boot` is created from the files by one commit in the tables of some connection. It is then
  -- opened, and each of the entries is seen at its row.
  pub record IsMadeAgain (node boot : ℕ) (files : List NamedFloorsRecord) (entries : List Entry) (floors : List ℕ)
      (own : BondRecord) (store : SeatedRecord (SqlHeld S)) : Type 0 where
    pub first : sql.Held S
    pub found : HasCleanDisk (sql.state g first) → finds first
    -- the connection between the creation and the opening
    pub made : sql.Held S
    pub creates : HasCleanDisk (sql.state g made)
        → Commits (OpensRemade node boot (gathered_rows files) entries floors own) (sql.state g first)
        (sql.state g made)
    pub survives : Survives (sql.state g first) (sql.state g made)
        (MayCommit (OpensRemade node boot (gathered_rows files) entries floors own) (sql.state g first))
    pub seated : HasSeated g made node entries floors own store
    pub each : length store.seats ≡ length entries

  module _ (cluster : NamedCluster) (key : List ℕ) (limits : Limits) (moment longest : ℕ) (place : PlaceRecord)
      (former : Former) where
    -- The store of the member at `place` is replaced, with the tokens of a users file, and its line is written.
    pub record HasRemade (store : SeatedRecord (SqlHeld S)) (old new : Option (List ℕ)) (text : List ℕ)
        : Type 0 where
      pub import : HasImport limits moment longest text
      pub files : List NamedFloorsRecord
      pub gathered : IsGathered key cluster.bond place.me former files
      pub made : IsMadeAgain place.me (boot_at former.now) files (entries_of cluster.salt import.book)
          (drifted_floors limits.drift import.book import.floors) cluster.bond store
      pub written : HasCleanDisk (sql.state g store.inner.conn)
          → Appends old new (store_line place (seated_content store.seats store.inner.mirror))

    -- the store of the member at `place` is replaced, with the tokens of a users file
    pub record HasRemadeStore (text : List ℕ) : Type 0 where
      pub import : HasImport limits moment longest text
      pub files : List NamedFloorsRecord
      pub gathered : IsGathered key cluster.bond place.me former files
      pub store : SeatedRecord (SqlHeld S)
      pub made : IsMadeAgain place.me (boot_at former.now) files (entries_of cluster.salt import.book)
          (drifted_floors limits.drift import.book import.floors) cluster.bond store

    -- a fault of the users file, the store or the output
    abbrev pub IsNotRemadeBy : RosterFault → List ℕ → Type 0
    IsNotRemadeBy (Command Memory) text = Unit {0}
    IsNotRemadeBy (Command CannotWrite) text = HasRemadeStore text
    IsNotRemadeBy (Command NoClock) text = ⊥
    IsNotRemadeBy (Command (Users fault)) text = IsUnread limits moment longest (Users fault) text
    IsNotRemadeBy (Command (Store fault)) text = HasGathered cluster key limits moment longest place.me former text
    IsNotRemadeBy (Command Socket) text = ⊥
    IsNotRemadeBy (SameName row) text = HasSameName cluster.salt limits moment longest row text
    IsNotRemadeBy AnotherCluster text = ⊥
    IsNotRemadeBy Full text = IsTooFull cluster key limits moment longest place.me former text

    -- No store is replaced, or the output failed after it was. A fault of the files is one after the
    -- import, and says nothing of a connection. A fault of the store says that the files are sufficient.
    abbrev pub IsNotRemade : NamedFloorsFault → List ℕ → Type 0
    IsNotRemade (Roster fault) text = IsNotRemadeBy fault text
    IsNotRemade (Floors number fault) text =
        HasImport limits moment longest text × IsInsufficient key cluster.bond place.me former (Floors number fault)
    IsNotRemade (Ahead number) text =
        HasImport limits moment longest text × IsInsufficient key cluster.bond place.me former (Ahead number)
    IsNotRemade (Files fault) text =
        HasImport limits moment longest text × IsInsufficient key cluster.bond place.me former (Files fault)
