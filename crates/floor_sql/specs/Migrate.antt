-- The upgrade of the tables of version 1 to version 2.
use Rattle.std.specs.Prelude.{◌≡◌, ◌<◌, ℕ, pos, false, List, length, slice_get, Some, None}
use Rattle.std.specs.List.{last_or}
use Rattle.sqlite.specs.Store.{Ghosts}
use Rattle.sqlite.specs.Tree.{Trees, put_row, without_rowid}
use Rattle.sqlite.specs.Held as sql
use Rattle.sqlite.specs.State.{HasCleanDisk, Survives}
use Rattle.sqlite.specs.Effect.{Database}
use Rattle.floor_store.specs.Records.{RowRecord, PassRecord}
use Rattle.floor_store.specs.Content.{Content}
use Rattle.floor_sql.specs.Schema as tables
use Rattle.floor_sql.specs.Schema.{most_rows, undrifted_schema, floor_schema}
use Rattle.floor_sql.specs.Stored.{Holds, HoldsDrift, HoldsFloors, HoldsPasses, HoldsVersion, HasVersion, Commits, MayCommit, OthersStay, rows_of, self_row}
use Rattle.floor_sql.specs.Usable.{IsNode, HasUsableVersion, HasUsableFloor, HasUsablePasses}
use Rattle.floor_sql.specs.declared.schema.Format.TheVariants.{Numbered}

-- ---- the tables of version 1

-- each of the rows has the drift 0
abbrev pub AreUndrifted : List RowRecord → Type 0
AreUndrifted rows = (token : ℕ) (row : RowRecord) → slice_get rows token ≡ Some row → row.drift ≡ pos 0

-- the table `floor` has rows of `tokens` tokens
pub record HasUndrifted (trees : Trees) (tokens : ℕ) : Type 0 where
  pub rows : List RowRecord
  pub counted : length rows ≡ tokens
  pub floors : HoldsFloors trees rows
  pub undrifted : AreUndrifted rows

-- The tables are of a store of version 1 of `node` with `tokens` tokens. They hold the content `c`, in which each drift
-- is 0, and the passes in order.
pub record HoldsUndrifted (db : Database) (node tokens : ℕ) (c : Content) (passes : List PassRecord) : Type 0 where
  pub schema : db.schema ≡ undrifted_schema
  pub floors : HoldsFloors db.trees c.rows
  pub undrifted : AreUndrifted c.rows
  pub of_tokens : length c.rows ≡ tokens
  pub self : HoldsVersion db.trees 1 node tokens c.boot
  pub pass : HoldsPasses db.trees passes
  pub last : c.last ≡ last_or None passes

-- the tables hold some content
abbrev pub IsUndrifted : Database → ℕ → ℕ → Type 0
IsUndrifted db node tokens = (c : Content) × (passes : List PassRecord) × HoldsUndrifted db node tokens c passes

-- the tables that `migrate` accepts: a store of version 1 of `node` with `tokens` tokens and values in range
pub record IsUsableUndrifted (db : Database) (node tokens : ℕ) : Type 0 where
  pub schema : db.schema ≡ undrifted_schema
  pub of_node : IsNode node
  pub self : HasUsableVersion db.trees 1 node tokens
  pub floors : (token : ℕ) → token < tokens → HasUsableFloor db.trees token
  pub passes : HasUsablePasses db.trees (most_rows 1)

-- ---- the change

-- the row of `self` is of version 2, and the other tables are unchanged
pub record RaisesVersion (old new : Database) : Type 0 where
  pub schema : new.schema ≡ floor_schema
  pub was : HasVersion old floor_schema 1
  pub self : rows_of tables.self new.trees
      ≡ put_row (self_row was.node was.tokens was.boot) (without_rowid (pos 1) (rows_of tables.self old.trees))
  pub others : OthersStay tables.self old.trees new.trees

-- the table `drift` has the drift 0 for each of `tokens` tokens, and the version is raised
pub record AddsVersion (tokens : ℕ) (old new : Database) : Type 0 where
  pub schema : new.schema ≡ floor_schema
  pub was : HasVersion old undrifted_schema 1
  pub self : HoldsVersion new.trees 2 was.node was.tokens was.boot
  pub floor : rows_of tables.floor new.trees ≡ rows_of tables.floor old.trees
  pub pass : rows_of tables.pass new.trees ≡ rows_of tables.pass old.trees
  pub drift : (token : ℕ) → token < tokens → HoldsDrift new.trees token (pos 0)

-- The content of a store of version 1 is the content of a store of version 2, for `node` with `tokens` tokens. All
-- drifts are 0. The rows of `floor` and `pass` are the same, one by one.
pub record Migrates (node tokens : ℕ) (old new : Database) : Type 0 where
  pub content : Content
  pub passes : List PassRecord
  pub was : HoldsUndrifted old node tokens content passes
  pub schema : new.schema ≡ floor_schema
  pub holds : Holds Numbered new.trees content passes
  pub of_node : holds.node ≡ node
  pub floor : rows_of tables.floor new.trees ≡ rows_of tables.floor old.trees
  pub pass : rows_of tables.pass new.trees ≡ rows_of tables.pass old.trees

-- a connection outside a transaction, whose tables were migrated in one commit
pub record IsMigrated {S : Type 0} (g : Ghosts S) (node tokens : ℕ) (old new : sql.Held S) : Type 0 where
  pub idle : new.in_transaction ≡ false
  pub tables : HasCleanDisk (sql.state g new) → Commits (Migrates node tokens) (sql.state g old) (sql.state g new)
  pub survives : Survives (sql.state g old) (sql.state g new) (MayCommit (Migrates node tokens) (sql.state g old))
