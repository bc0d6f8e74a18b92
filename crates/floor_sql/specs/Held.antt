-- The content of a store over SQLite, and its invariant.
use Rattle.std.specs.Prelude.{◌≡◌, ℕ, ◌+◌, ◌^◌, ◌<◌, ◌≤◌, false, List, ◌++◌, length, Option, None, Some, IsTrue, refl, slice_get}
use Rattle.std.specs.Option.{ForSome}
use Rattle.std.specs.Coded.{Coded, code_by, coded×, coded_ℕ, coded_list, coded_option}
use Rattle.sqlite.specs.Store.{Ghosts}
use Rattle.sqlite.specs.Tree.{Trees}
use Rattle.sqlite.specs.Held as sql
use Rattle.sqlite.specs.State.{State, HasCleanDisk}
use Rattle.sqlite.specs.Effect.{Database}
use Rattle.floor_store.specs.declared.fault.StoreFault.{StoreFault}
use Rattle.floor_store.specs.contracts.fault.StoreFault as fault
use Rattle.floor_store.specs.contracts.memory.MemStore as memory
use Rattle.floor_store.specs.Records.{PassRecord}
use Rattle.floor_store.specs.Content.{Content}
use Rattle.floor_store.specs.Fault.{is_failure}
use Rattle.floor_store.specs.Held.{Held}
use Rattle.floor_sql.specs.Schema.{schema_of}
use Rattle.floor_sql.specs.declared.schema.Format.{Format}
use Rattle.floor_sql.specs.declared.schema.Format.TheVariants.{Numbered}
use Rattle.floor_sql.specs.Staged.{passes_in, with_puts}
use Rattle.floor_sql.specs.Stored.{Holds}
use Rattle.floor_sql.specs.contracts.put.Put as put
use Rattle.floor_sql.specs.declared.put.Put.{Put}

-- the contract's view of a store over SQLite
pub record SqlHeld (S : Type 0) : Type 0 where
  pub conn : sql.Held S
  -- the content, and the puts that wait for their commit
  pub mirror : Content
  pub staged : List Put
  -- the number of committed passes
  pub passes : ℕ
  pub fault : Option StoreFault

-- a store by its parts
abbrev pub held_code : {S : Type 0} → Coded S → Coded (SqlHeld S)
held_code {S} store =
    code_by (sql.Held S × (Content × (List Put × (ℕ × Option StoreFault))))
    (coded× (sql.held_code store) (coded× memory.the_row.coded (coded× (coded_list put.the_row.coded)
    (coded× coded_ℕ (coded_option fault.the_row.coded)))))
    (λ h. (h.conn, (h.mirror, (h.staged, (h.passes, h.fault)))))
    (λ p. record { conn = p.0; mirror = p.1.0; staged = p.1.1.0; passes = p.1.1.1.0; fault = p.1.1.1.1 }) (λ _. refl)

-- outside a transaction the tables are of a store, with the content `c` and `count` passes
pub record Mirrors (s : State) (c : Content) (count : ℕ) : Type 0 where
  pub format : Format
  pub schema : s.now.schema ≡ schema_of format
  pub passes : List PassRecord
  pub holds : Holds format s.now.trees c passes
  pub counted : length passes ≡ count
  pub settled : s.now ≡ s.committed

-- while the disk is honest and the connection is open, its tables hold the mirror
pub record IsKept {S : Type 0} (g : Ghosts S) (conn : sql.Held S) (mirror : Content) (passes : ℕ) (fault : Option
    StoreFault) : Type 0 where
  pub idle : conn.in_transaction ≡ false
  pub is_open : fault ≡ None → HasCleanDisk (sql.state g conn) → IsTrue (sql.state g conn).is_open
  pub tables : HasCleanDisk (sql.state g conn) → IsTrue (sql.state g conn).is_open
      → Mirrors (sql.state g conn) mirror passes
  pub numbers : passes ≤ 2 ^ 62
  pub failing : ForSome fault (λ e. IsTrue (is_failure e))

-- While the disk is honest and the connection is open, its tables hold a base content. The mirror is the base after the
-- staged puts.
pub record IsStaged {S : Type 0} (g : Ghosts S) (conn : sql.Held S) (mirror : Content) (staged : List Put) (passes : ℕ)
    (fault : Option StoreFault) : Type 0 where
  pub base : Content
  pub kept : IsKept g conn base passes fault
  pub replayed : mirror ≡ with_puts base staged
  pub known : (i : ℕ) (put : Put) → slice_get staged i ≡ Some put → put.token < length base.rows
  pub room : passes + length (passes_in staged) ≤ 2 ^ 62

-- outside a transaction the tables hold a base content and `count` passes; the mirror is the base after the staged puts
pub record MirrorsLast (s : State) (mirror : Content) (staged : List Put) (count : ℕ) : Type 0 where
  pub base : Content
  pub replayed : mirror ≡ with_puts base staged
  pub tables : Mirrors s base count

-- the number of failures: one at most, since it breaks the store
abbrev pub failures_of : Option StoreFault → ℕ
failures_of None = 0
failures_of (Some e) = 1

-- an opening after a stop may find tables with the content `c`
pub record Leaves {S : Type 0} (g : Ghosts S) (conn : sql.Held S) (c : Content) : Type 0 where
  pub clean : HasCleanDisk (sql.state g conn)
  pub trees : Trees
  pub left : (sql.state g conn).may_leave trees
  pub format : Format
  pub passes : List PassRecord
  pub holds : Holds format trees c passes

-- the view of a store: its content is the mirror, and it is clean if the disk of its connection is clean
abbrev pub sql_held : {S : Type 0} → Ghosts S → SqlHeld S → Held
sql_held g store = record {
  content = store.mirror;
  fault = store.fault;
  failures = failures_of store.fault;
  is_clean = HasCleanDisk (sql.state g store.conn);
  leaves = Leaves g store.conn;
}

-- The tables of a database are of a format, and of a store of `node` with `tokens` tokens, the content `c` and `count`
-- passes.
pub record HasTablesAs (format : Format) (db : Database) (node tokens : ℕ) (c : Content) (count : ℕ) : Type 0 where
  pub schema : db.schema ≡ schema_of format
  pub passes : List PassRecord
  pub holds : Holds format db.trees c passes
  pub of_node : holds.node ≡ node
  pub of_tokens : length c.rows ≡ tokens
  pub counted : length passes ≡ count

-- the tables of a database are of version 2
abbrev pub HasTables : Database → ℕ → ℕ → Content → ℕ → Type 0
HasTables db node tokens c count = HasTablesAs Numbered db node tokens c count

-- while the connection is open, it has its old tables
pub record HasSame (old new : State) : Type 0 where
  pub now : IsTrue new.is_open → new.now ≡ old.now
  pub committed : IsTrue new.is_open → new.committed ≡ old.committed

-- the committed passes of a store, in order
pub record HasCommitted {S : Type 0} (g : Ghosts S) (store : SqlHeld S) (passes : List PassRecord) : Type 0 where
  pub base : Content
  pub replayed : store.mirror ≡ with_puts base store.staged
  pub format : Format
  pub holds : Holds format (sql.state g store.conn).committed.trees base passes

-- all passes of a store, in order: the committed ones, followed by the passes that wait for their commit
pub record HasAudit {S : Type 0} (g : Ghosts S) (store : SqlHeld S) (all : List PassRecord) : Type 0 where
  pub passes : List PassRecord
  pub committed : HasCommitted g store passes
  pub waiting : all ≡ passes ++ passes_in store.staged
