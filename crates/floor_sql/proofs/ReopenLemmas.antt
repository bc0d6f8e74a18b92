-- What a stop leaves of a store in files is what the next opening finds.
use Rattle.std.proofs.Common.{subst}
use Rattle.std.proofs.Math.Logic.{∥∥₁_elim, ∥∥₁_map}
use Rattle.std.specs.Coded.{Coded-set}
use Rattle.sqlite_disk.specs.declared.Disk.{Ghosts}
use Rattle.sqlite_wal.specs.Recovery.{Image}
use Rattle.sqlite_store.specs.declared.store.FileStore.{FileStore}
use Rattle.sqlite_store.specs.FileStore.{recovers}
use Rattle.sqlite.specs.Effect.{Database}
use Rattle.sqlite.specs.Files.{file_state, over_files}
use Rattle.sqlite.proofs.Theorems.{next_run}
use Rattle.floor_store.specs.contracts.memory.MemStore as memory
use Rattle.floor_sql.specs.Held.{SqlHeld, Leaves}
use Rattle.floor_sql.specs.Reopened.{IsNextLife, FindsWhatIsLeft}
use Rattle.floor_sql.specs.Stored.{Holds}

module _ {D E : Type 0} {g : Ghosts D} {h : Ghosts E} (store : SqlHeld (FileStore D g)) (left : Image) (again : SqlHeld (FileStore E h)) (it : IsNextLife store left again) where
  found_trees : ∥ recovers store.conn.store (file_state it.conn).committed.trees ∥₁
  found_trees = next_run store.conn.store it.numbered it.databases left it.may (file_state it.conn) it.found

  found_content : recovers store.conn.store (file_state it.conn).committed.trees → Leaves over_files store.conn again.mirror
  found_content recovered =
      let tables = it.opened.content it.honest in
      record {
        clean = it.clean;
        trees = (file_state it.conn).committed.trees;
        left = recovered;
        format = it.format;
        passes = tables.passes;
        holds = subst (λ (d : Database). Holds it.format d.trees again.mirror tables.passes) it.fresh.clean tables.holds;
      }

  pub finds_what_is_left : FindsWhatIsLeft store again
  finds_what_is_left = record {
    left = ∥∥₁_map found_trees found_content;
    settled = λ law. ∥∥₁_elim found_trees (Coded-set memory.the_row.coded again.mirror store.mirror) (λ recovered. law again.mirror (found_content recovered));
  }
