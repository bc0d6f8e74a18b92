-- The effects of the commands over a users file and a database.
--
-- Floor: the first free factor of a token at a node.
use Rattle.std.specs.Prelude.{◌≡◌, ℕ, List, Option, IfSome, length}
use Rattle.sqlite.specs.Store.{Ghosts}
use Rattle.sqlite.specs.Held as sql
use Rattle.sqlite.specs.State.{HasCleanDisk}
use Rattle.otp_core.specs.Limits.{Limits}
use Rattle.token_file.specs.Credential.{Credential}
use Rattle.floor_sql.specs.Calls.{IsMade, IsOpened as IsOpenedStore}
use Rattle.floor_sql.specs.Held.{SqlHeld}
use Rattle.floor_sql.specs.Migrate.{IsMigrated}
use Rattle.oathd_database.specs.Users.{IsImported, IsUnread, drifted_floors}
use Rattle.oathd_database.specs.declared.fault.Fault.{Fault}
use Rattle.oathd_database.specs.declared.fault.Fault.TheVariants.{Memory, CannotWrite, NoClock, Users, Store, Socket}

-- ---- The users file

-- a users file is imported
pub record HasImport (limits : Limits) (moment longest : ℕ) (text : List ℕ) : Type 0 where
  pub book : List Credential
  pub floors : List ℕ
  pub imported : IsImported limits moment longest book floors text

-- ---- The store

-- The databases of the commands are opened by a connection that shows what `finds` says, if the disk returns what was
-- written.
module _ {S : Type 0} (g : Ghosts S) (finds : sql.Held S → Type 0) where
  -- The store is the node's, created by one commit in the tables of some connection. It holds the floors of a users
  -- file's import, later by the drift for time tokens, and nothing else.
  pub record HasMade (limits : Limits) (moment longest node : ℕ) (store : SqlHeld S) (text : List ℕ) : Type 0 where
    pub import : HasImport limits moment longest text
    pub conn : sql.Held S
    pub found : HasCleanDisk (sql.state g conn) → finds conn
    pub made : IsMade g conn node 0 (drifted_floors limits.drift import.book import.floors) store

  -- The store is in the tables of some connection, with `tokens` tokens. If a node is given, the store is that node's.
  pub record HasOpened (given : Option ℕ) (tokens : ℕ) (store : SqlHeld S) : Type 0 where
    pub conn : sql.Held S
    pub found : HasCleanDisk (sql.state g conn) → finds conn
    pub node : ℕ
    pub is_given : IfSome given (λ n. node ≡ n)
    pub opened : IsOpenedStore g conn node tokens store

  -- The tables of a connection held the node's store of version 1, with the tokens of a users file. They were migrated
  -- in one commit.
  pub record HasMigrated (limits : Limits) (moment longest node : ℕ) (new : sql.Held S) (text : List ℕ) : Type 0 where
    pub import : HasImport limits moment longest text
    pub old : sql.Held S
    pub found : HasCleanDisk (sql.state g old) → finds old
    pub migrated : IsMigrated g node (length import.book) old new

-- ---- The faults

-- Nothing is created, opened or migrated: the users file is not imported, or the store fails after the import.
abbrev pub IsRefused : Limits → ℕ → ℕ → Fault → List ℕ → Type 0
IsRefused limits moment longest Memory text = Unit {0}
IsRefused limits moment longest CannotWrite text = ⊥
IsRefused limits moment longest NoClock text = ⊥
IsRefused limits moment longest (Users fault) text = IsUnread limits moment longest (Users fault) text
IsRefused limits moment longest (Store fault) text = HasImport limits moment longest text
IsRefused limits moment longest Socket text = ⊥

-- A command that prints a store's content ends with the fault. The users file is not imported, or the store or the
-- output fails after the import.
abbrev pub EndsOutput : Limits → ℕ → ℕ → Fault → List ℕ → Type 0
EndsOutput limits moment longest Memory text = Unit {0}
EndsOutput limits moment longest CannotWrite text = HasImport limits moment longest text
EndsOutput limits moment longest NoClock text = ⊥
EndsOutput limits moment longest (Users fault) text = IsUnread limits moment longest (Users fault) text
EndsOutput limits moment longest (Store fault) text = HasImport limits moment longest text
EndsOutput limits moment longest Socket text = ⊥
