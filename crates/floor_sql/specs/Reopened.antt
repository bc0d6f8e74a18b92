-- The content that a stop leaves of a store in files, and that the next opening finds.
use Rattle.std.specs.Prelude.{◌≡◌, ℕ, IsTrue}
use Rattle.sqlite_disk.specs.declared.Disk.{Ghosts}
use Rattle.sqlite_wal.specs.Recovery.{Image}
use Rattle.sqlite_store.specs.declared.store.FileStore.{FileStore}
use Rattle.sqlite_store.specs.FileStore.{state, view, recovers}
use Rattle.sqlite.specs.Held as sql
use Rattle.sqlite.specs.Files.{file_state, over_files}
use Rattle.sqlite.specs.Start.{FindsIn}
use Rattle.sqlite.specs.State.{HasCleanDisk, Opens}
use Rattle.floor_store.specs.Held.{IsSettled}
use Rattle.floor_sql.specs.Calls.{IsOpenedAs}
use Rattle.floor_sql.specs.declared.schema.Format.{Format}
use Rattle.floor_sql.specs.Held.{SqlHeld, sql_held}

module _ {D E : Type 0} {g : Ghosts D} {h : Ghosts E} where
  -- a stop of a store in two files with the content `left`, and the store that is opened on this content
  pub record IsNextLife (store : SqlHeld (FileStore D g)) (left : Image)
      (again : SqlHeld (FileStore E h)) : Type 0 where
    -- until the stop the disk returned what was written
    pub clean : HasCleanDisk (file_state store.conn)
    -- the invariants of each connection: its files recover to databases alone
    pub numbered : IsTrue (view store.conn.store).is_numbered
    pub databases : sql.AreDatabases (recovers store.conn.store)
    -- the disk may leave this content
    pub may : (state store.conn.store).may_leave left
    -- a connection without an open transaction finds the content, and the store is opened over the connection
    pub conn : sql.Held (FileStore E h)
    pub found : FindsIn left (file_state conn)
    pub fresh : Opens (file_state conn)
    pub node : ℕ
    pub tokens : ℕ
    pub format : Format
    pub opened : IsOpenedAs over_files format conn node tokens again
    pub honest : HasCleanDisk (file_state again.conn)

  -- the stop could leave the content that is found; of a settled store this is its content
  pub record FindsWhatIsLeft (store : SqlHeld (FileStore D g)) (again : SqlHeld (FileStore E h)) : Type 0 where
    pub left : ∥ (sql_held over_files store).leaves again.mirror ∥₁
    pub settled : IsSettled (sql_held over_files store) → again.mirror ≡ store.mirror
