-- The effects of commands on a store over SQLite.
use Rattle.std.specs.Prelude.{◌≡◌, ℕ, List, Option}
use Rattle.std.specs.Io.KnownBytes.{Appends}
use Rattle.sqlite.specs.Store.{Ghosts}
use Rattle.sqlite.specs.Held.{state}
use Rattle.sqlite.specs.State.{HasCleanDisk, Survives}
use Rattle.floor_store.specs.Records.{PassRecord}
use Rattle.floor_sql.specs.Held.{HasCommitted, HasSame, SqlHeld}
use Rattle.oathd_database.specs.Text.{audit_text}

module _ {S : Type 0} (g : Ghosts S) where
  -- The store keeps its content, and the open connection keeps its tables. A stop leaves the same trees as before the
  -- call.
  pub record KeepsTables (old new : SqlHeld S) : Type 0 where
    pub content : (new.mirror ≡ old.mirror) × (new.staged ≡ old.staged) × (new.passes ≡ old.passes)
    pub tables : HasCleanDisk (state g new.conn) → HasSame (state g old.conn) (state g new.conn)
    pub survives : Survives (state g old.conn) (state g new.conn) (λ _. ⊥)

  -- all committed passes of the store are written, and nothing else
  pub record WritesAudit (store : SqlHeld S) (old new : Option (List ℕ)) : Type 0 where
    pub passes : List PassRecord
    pub committed : HasCommitted g store passes
    pub written : Appends old new (audit_text passes)
