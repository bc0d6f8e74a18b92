-- The effects of the calls of a store over SQLite, beside the effects that any store has.
use Rattle.std.specs.Prelude.{◌≡◌, ℕ, ◌+◌, ◌<◌, ◌≤◌, pos, false, List, [], ◌∷◌, ◌++◌, length, find, None, Some, Result, IsSome, OnOk}
use Rattle.sqlite.specs.declared.types.Value.TheVariants.{Int}
use Rattle.sqlite.specs.Store.{Ghosts}
use Rattle.sqlite.specs.Order.{Row}
use Rattle.sqlite.specs.Tree.{Trees, has_rowid}
use Rattle.sqlite.specs.Held as sql
use Rattle.sqlite.specs.State.{HasCleanDisk, Survives}
use Rattle.sqlite.specs.Effect.{Database}
use Rattle.floor_store.specs.declared.fault.StoreFault.{StoreFault}
use Rattle.floor_store.specs.Content.{opening_content_at}
use Rattle.floor_store.specs.Held.{IsSettled}
use Rattle.floor_sql.specs.Schema as tables
use Rattle.floor_sql.specs.Schema.{floor_schema}
use Rattle.floor_sql.specs.Shown.{IsRead}
use Rattle.floor_sql.specs.Stored.{Commits, MayCommit, node_in, rows_of, version_in}
use Rattle.floor_sql.specs.Created.{Opens}
use Rattle.floor_sql.specs.declared.put.Put.{Put}
use Rattle.floor_sql.specs.declared.schema.Format.{Format}
use Rattle.floor_sql.specs.declared.schema.Format.TheVariants.{Numbered}
use Rattle.floor_sql.specs.Held.{SqlHeld, HasTablesAs, HasSame, sql_held}

module _ {S : Type 0} (g : Ghosts S) where
  -- a connection after reads alone: outside a transaction, with its old tables
  pub record KeepsTables (old new : sql.Held S) : Type 0 where
    pub idle : new.in_transaction ≡ false
    pub read : HasCleanDisk (sql.state g new) → IsRead (sql.state g old) (sql.state g new)
    pub survives : Survives (sql.state g old) (sql.state g new) (λ _. ⊥)

  -- A connection returned beside a refusal: outside a transaction, with its old tables while it is open. A stop leaves
  -- what it left before, or what the refused call was to commit.
  pub record HandsBack (old new : sql.Held S) (Commit : Trees → Type 0) : Type 0 where
    pub idle : new.in_transaction ≡ false
    pub tables : HasCleanDisk (sql.state g new) → HasSame (sql.state g old) (sql.state g new)
    pub survives : Survives (sql.state g old) (sql.state g new) Commit

  -- a store without a fault and without waiting puts, of which a stop leaves exactly its content
  pub record IsSound (store : SqlHeld S) : Type 0 where
    pub works : store.fault ≡ None
    pub idle : store.staged ≡ []
    pub settled : IsSettled (sql_held g store)

  -- a new store of `node` at `boot`, with the given floors, created in one commit
  pub record IsMade (old : sql.Held S) (node boot : ℕ) (floors : List ℕ) (store : SqlHeld S) : Type 0 where
    pub content : store.mirror ≡ opening_content_at boot floors
    pub no_passes : store.passes ≡ 0
    pub sound : IsSound store
    pub tables : HasCleanDisk (sql.state g store.conn)
        → Commits (Opens node boot floors) (sql.state g old) (sql.state g store.conn)
    pub survives :
        Survives (sql.state g old) (sql.state g store.conn) (MayCommit (Opens node boot floors) (sql.state g old))

  -- the store of a format, of `node` with `tokens` tokens, that the tables of a connection hold
  pub record IsOpenedAs (format : Format) (old : sql.Held S) (node tokens : ℕ) (store : SqlHeld S) : Type 0 where
    pub content : HasCleanDisk (sql.state g store.conn)
        → HasTablesAs format (sql.state g old).now node tokens store.mirror store.passes
    pub sound : IsSound store
    pub kept : KeepsTables old store.conn

  -- the store of version 2 that the tables of a connection hold
  abbrev pub IsOpened : sql.Held S → ℕ → ℕ → SqlHeld S → Type 0
  IsOpened old node tokens store = IsOpenedAs Numbered old node tokens store

  -- a read of the audit list: a store without a fault keeps its content and its tables
  pub record ReadsAudit {A : Type 0} (old new : SqlHeld S) (result : Result A StoreFault) : Type 0 where
    pub intact : OnOk result ((old.fault ≡ None) × (new.fault ≡ None))
    pub stays : IsSome old.fault → new ≡ old
    pub content : (new.mirror ≡ old.mirror) × (new.staged ≡ old.staged) × (new.passes ≡ old.passes)
    pub tables : HasCleanDisk (sql.state g new.conn) → HasSame (sql.state g old.conn) (sql.state g new.conn)
    pub survives : Survives (sql.state g old.conn) (sql.state g new.conn) (λ _. ⊥)

-- A put waits for its commit, and the connection is unchanged. The put that fills the list is committed.
pub record Stages {S : Type 0} (old new : SqlHeld S) (put : Put) : Type 0 where
  pub waits : length old.staged + 1 < 80 → (new.conn ≡ old.conn) × (new.staged ≡ old.staged ++ put ∷ [])
  pub commits : 80 ≤ length old.staged + 1 → new.staged ≡ []

-- the tables are of a store of version 2, and name `node`
pub record IsOfNode (db : Database) (node : ℕ) : Type 0 where
  pub schema : db.schema ≡ floor_schema
  pub found : Row
  pub place : find (has_rowid (pos 1)) (rows_of tables.self db.trees) ≡ Some found
  pub version : version_in found ≡ Int (pos 2)
  pub of_node : node_in found ≡ Int (pos node)
