-- The files of a database: one that is not opened, and what an opening finds.
use Rattle.std.specs.Prelude.{◌≡◌, IsTrue}
use Rattle.std.specs.Fs.{IsFile, file_type, metadata_len}
use Rattle.std.specs.declared.fs.attrs.Metadata.{Metadata}
use Rattle.sqlite_disk.specs.declared.Disk.{Ghosts}
use Rattle.sqlite_store.specs.declared.store.FileStore.{FileStore}
use Rattle.sqlite_store.specs.FileStore.{recovers, state, view}
use Rattle.sqlite_wal.specs.Recovery.{Image}
use Rattle.sqlite.specs.Held as sql
use Rattle.sqlite.specs.Files.{IsOpened, file_state}
use Rattle.sqlite.specs.Start.{FindsIn}
use Rattle.sqlite.specs.State.{HasCleanDisk}
use Rattle.floor_sql.specs.Held.{SqlHeld}

-- a regular file of 0 bytes, without even a database header
abbrev pub IsEmptyFile : Metadata → Type 0
IsEmptyFile found = IsFile (file_type found) × (metadata_len found ≡ 0)

-- the connection was just opened, and shows the database to which files with the content `image` recover
abbrev pub FindsFiles : {D : Type 0} {g : Ghosts D} → Image → sql.Held (FileStore D g) → Type 0
FindsFiles image conn = IsOpened conn × FindsIn image (file_state conn)

-- A process stops, and its store in two files may leave the content `left`. Until then the disk returned what was
-- written. A connection keeps the second and the third of itself.
pub record StopsWith {D : Type 0} {g : Ghosts D} (store : SqlHeld (FileStore D g)) (left : Image) : Type 0 where
  pub clean : HasCleanDisk (file_state store.conn)
  pub numbered : IsTrue (view store.conn.store).is_numbered
  pub databases : sql.AreDatabases (recovers store.conn.store)
  pub may : (state store.conn.store).may_leave left
