-- The floors file of a stopped node. Floor: the first free factor of a token at a node.
use Rattle.std.specs.Prelude.{ℕ, List, [], ◌∷◌, length, Option, Some}
use Rattle.std.specs.Io.KnownBytes.{Appends}
use Rattle.sqlite.specs.Store.{Ghosts}
use Rattle.sqlite.specs.State.{HasCleanDisk}
use Rattle.sqlite.specs.Held as sql
use Rattle.otp_core.specs.Limits.{Limits}
use Rattle.token_file.specs.Credential.{Credential}
use Rattle.floor_store.specs.Content.{Content}
use Rattle.floor_store.specs.Records.{RowRecord}
use Rattle.floor_sql.specs.Held.{SqlHeld}
use Rattle.floors_file.specs.Floors.{FloorRecord, FloorsRecord}
use Rattle.floors_file.specs.Writing.{floors_text}
use Rattle.oathd_database.specs.Commands.{HasImport, HasOpened}
use Rattle.oathd_database.specs.declared.fault.Fault.{Fault}
use Rattle.oathd_database.specs.declared.fault.Fault.TheVariants.{Memory, CannotWrite, NoClock, Users, Store, Socket}

-- the tokens of a book in order, with the floors of their rows
abbrev pub told_rows : List Credential → List RowRecord → List FloorRecord
told_rows [] rows = []
told_rows (token ∷ book) [] = []
told_rows (token ∷ book) (row ∷ rows) = record { user = token.name; next = row.next } ∷ told_rows book rows

-- the floors file of a node, from the content of its store at a moment
abbrev pub told_floors : ℕ → ℕ → ℕ → List Credential → Content → FloorsRecord
told_floors node members moment book content =
    record {
      head = record { node = node; members = members; boot = content.boot; moment = moment };
      rows = told_rows book content.rows;
    }

module _ {S : Type 0} (g : Ghosts S) (finds : sql.Held S → Type 0) where
  -- The floors file of the node's store is written. The store is in some database and has the tokens of the users file.
  pub record HasToldFloors (limits : Limits) (longest node members moment : ℕ) (old new : Option (List ℕ))
      (text : List ℕ) : Type 0 where
    pub import : HasImport limits 0 longest text
    pub store : SqlHeld S
    pub opened : HasOpened g finds (Some node) (length import.book) store
    pub written : HasCleanDisk (sql.state g store.conn)
        → Appends old new (floors_text (told_floors node members moment import.book store.mirror))

-- The output failed, the store is broken, or the allocator refused the memory.
abbrev pub IsToldFault : Fault → Type 0
IsToldFault Memory = Unit {0}
IsToldFault CannotWrite = Unit {0}
IsToldFault NoClock = ⊥
IsToldFault (Users fault) = ⊥
IsToldFault (Store fault) = Unit {0}
IsToldFault Socket = ⊥
