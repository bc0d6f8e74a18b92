-- A store that a command sees, by the places or by the names of the tokens of a users file. Nothing is enrolled.
use Rattle.std.specs.Prelude.{◌≡◌, ℕ, ◌+◌, false, List, length, Option}
use Rattle.sqlite.specs.Store.{Ghosts}
use Rattle.sqlite.specs.Held as sql
use Rattle.sqlite.specs.State.{HasCleanDisk}
use Rattle.otp_core.specs.Limits.{Limits}
use Rattle.token_file.specs.Credential.{Credential}
use Rattle.floor_sql.specs.Calls.{HandsBack}
use Rattle.floor_sql.specs.Held.{SqlHeld}
use Rattle.roster_sql.specs.declared.entry.Entry.{Entry}
use Rattle.seated_store.specs.Seated.{SeatedRecord}
use Rattle.seated_store.specs.Places.{own_seats}
use Rattle.named_store.specs.Entries.{entries_of}
use Rattle.named_store.specs.Looked.{HasLooked, IsUnseen}
use Rattle.named_store.specs.declared.fault.LookFault.{LookFault}
use Rattle.named_store.specs.declared.fault.LookFault.TheVariants as look
use Rattle.named_store.specs.declared.fault.NamedFault.TheVariants as named
use Rattle.oathd_database.specs.Commands.{HasImport, HasOpened, IsRefused}
use Rattle.oathd_database.specs.declared.fault.Fault.{Fault}
use Rattle.oathd_roster.specs.Users.{HasSameName}
use Rattle.oathd_roster.specs.declared.cluster.NamedCluster.{NamedCluster}
use Rattle.oathd_roster.specs.declared.fault.RosterFault.{RosterFault}
use Rattle.oathd_roster.specs.declared.fault.RosterFault.TheVariants.{Command, SameName, AnotherCluster, Full}
use Rattle.oathd_seats.specs.declared.fault.SeatsFault.{SeatsFault}
use Rattle.oathd_seats.specs.declared.fault.SeatsFault.TheVariants.{Roster, NotEnrolled, NoUser}
use Rattle.oathd_seats.specs.declared.naming.Naming.{Naming}
use Rattle.oathd_seats.specs.declared.naming.Naming.TheVariants.{ByPlace, ByName}

-- the naming of a member of a cluster
abbrev pub at_member : ℕ → NamedCluster → Naming
at_member node cluster = ByName node (record { ref_ptr = (0, 0); now = cluster })

-- ---- faults by places

-- a fault of any command over a store by places
abbrev pub EndsPlacedBy : (Fault → List ℕ → Type 0) → RosterFault → List ℕ → Type 0
EndsPlacedBy Ends (Command fault) text = Ends fault text
EndsPlacedBy Ends (SameName row) text = ⊥
EndsPlacedBy Ends AnotherCluster text = ⊥
EndsPlacedBy Ends Full text = ⊥

-- by places a command has no fault of names
abbrev pub EndsPlaced : (Fault → List ℕ → Type 0) → SeatsFault → List ℕ → Type 0
EndsPlaced Ends (Roster fault) text = EndsPlacedBy Ends fault text
EndsPlaced Ends (NotEnrolled row) text = ⊥
EndsPlaced Ends (NoUser name) text = ⊥

-- no store is seen by places: the users file is not imported, or the store fails after the import
abbrev pub IsNotPlaced : Limits → ℕ → SeatsFault → List ℕ → Type 0
IsNotPlaced limits longest fault text = EndsPlaced (IsRefused limits 0 longest) fault text

module _ {S : Type 0} (g : Ghosts S) (finds : sql.Held S → Type 0) where
  -- The store is in the tables of some connection, and if a node is given, it is that node's. It has the tokens of the
  -- book, and each is seen at the row of its place.
  pub record HasPlaced (given : Option ℕ) (book : List Credential) (store : SeatedRecord (SqlHeld S)) : Type 0 where
    pub opened : HasOpened g finds given (length book) store.inner
    pub seats : store.seats ≡ own_seats (length book)
    pub rows : length store.inner.mirror.rows ≡ length book
    pub works : store.is_unusable ≡ false

  module _ (cluster : NamedCluster) where
    -- The store of `node` is in the tables of some connection, and bound to the cluster. Each token of the book is seen
    -- at the row with its name. `roster` has the entry of each row. The tables stay.
    pub record HasSeenNamed (node : ℕ) (book : List Credential) (roster : List Entry)
        (store : SeatedRecord (SqlHeld S)) : Type 0 where
      pub conn : sql.Held S
      pub found : HasCleanDisk (sql.state g conn) → finds conn
      pub looked : HasLooked g conn node (entries_of cluster.salt book) cluster.bond roster store

    module _ (limits : Limits) (longest node : ℕ) where
      -- The tables of some connection give the reason why no store is seen. They stay.
      pub record IsNotLooked (fault : LookFault) (text : List ℕ) : Type 0 where
        pub import : HasImport limits 0 longest text
        pub conn : sql.Held S
        pub found : HasCleanDisk (sql.state g conn) → finds conn
        -- the connection after the refusal
        pub left : sql.Held S
        pub cause : HasCleanDisk (sql.state g left)
            → IsUnseen (sql.state g conn).now node (entries_of cluster.salt import.book) cluster.bond fault
        pub kept : HandsBack g conn left (λ _. ⊥)

      -- The store has no row for the token in this row of the users file, from 1. It has one for each token before it.
      pub record IsNotEnrolled (row : ℕ) (text : List ℕ) : Type 0 where
        pub place : ℕ
        pub row_is : row ≡ place + 1
        pub looked : IsNotLooked (look.NotEnrolled place) text

      -- a fault of any command over a store by names
      abbrev pub IsNotSeenBy : RosterFault → List ℕ → Type 0
      IsNotSeenBy (Command fault) text = IsRefused limits 0 longest fault text
      IsNotSeenBy (SameName row) text = HasSameName cluster.salt limits 0 longest row text
      IsNotSeenBy AnotherCluster text = IsNotLooked (look.Named named.AnotherCluster) text
      IsNotSeenBy Full text = ⊥

      -- No store is seen by names. The users file is not imported, two of its tokens have one name, or a token of it
      -- has no row. Or the store is another cluster's or fails after the import.
      abbrev pub IsNotSeenNamed : SeatsFault → List ℕ → Type 0
      IsNotSeenNamed (Roster fault) text = IsNotSeenBy fault text
      IsNotSeenNamed (NotEnrolled row) text = IsNotEnrolled row text
      IsNotSeenNamed (NoUser name) text = ⊥

  -- the store of the tokens of the book is seen
  abbrev pub HasSeen : Naming → List Credential → SeatedRecord (SqlHeld S) → Type 0
  HasSeen (ByPlace given) book store = HasPlaced given book store
  HasSeen (ByName node cluster) book store = (roster : List Entry) × HasSeenNamed cluster.now node book roster store

  -- no store is seen
  abbrev pub IsNotSeen : Naming → Limits → ℕ → SeatsFault → List ℕ → Type 0
  IsNotSeen (ByPlace given) limits longest fault text = IsNotPlaced limits longest fault text
  IsNotSeen (ByName node cluster) limits longest fault text =
      IsNotSeenNamed cluster.now limits longest node fault text
