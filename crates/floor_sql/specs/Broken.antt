-- Small tables and connections, each of which breaks one field of a promise. No contract cites them.
use Rattle.std.specs.Prelude.{◌≡◌, ℕ, ℤ, zero, suc, pos, true, false, List, [], ◌∷◌, replicate, Option, None}
use Rattle.sqlite.specs.Effect.{Database}
use Rattle.sqlite.specs.Order.{Row}
use Rattle.sqlite.specs.State.{State}
use Rattle.sqlite.specs.Tree.{Trees}
use Rattle.floor_store.specs.Content.{Content}
use Rattle.floor_store.specs.Examples.{free_row}
use Rattle.floor_store.specs.Records.{PassRecord, RowRecord}
use Rattle.floor_store.specs.declared.fault.StoreFault.{StoreFault}
use Rattle.floor_sql.specs.declared.put.Put.{Put}
use Rattle.floor_sql.specs.declared.read.Refusal.{Refusal}
use Rattle.floor_sql.specs.Schema.{floor_schema, schema_of, undrifted_schema}
use Rattle.floor_sql.specs.declared.schema.Format.TheVariants.{Named}
use Rattle.floor_sql.specs.Stored.{drift_row, floor_row, self_row, version_row}

-- ---- connections

-- a database in which each table has the given number of rows
abbrev pub small_db : ℕ → Database
small_db rows = record { schema = floor_schema; trees = λ tree. replicate rows [] }

-- an open connection outside a transaction, which shows the database `small_db now` and has committed the other
abbrev pub small_state : ℕ → ℕ → State
small_state now committed = record {
  now = small_db now;
  committed = small_db committed;
  in_transaction = false;
  marks = [];
  is_open = true;
  is_clean = true;
  faults = 0;
  blamed = None;
  changes = 0;
  last_rowid = pos 0;
  step_limit = None;
  may_leave = λ trees. trees ≡ (small_db committed).trees;
  IsShielded = Unit {0};
}

-- the same connection, closed by a fault
abbrev pub shut_state : ℕ → ℕ → State
shut_state now committed = record (small_state now committed) { is_open = false }

-- an open connection outside a transaction, which shows `now` and has last committed `committed`
abbrev pub showing : Database → Database → State
showing now committed = record (small_state 0 0) { now = now; committed = committed }

-- the change leaves two rows in each table
abbrev pub IsSecond : Database → Database → Type 0
IsSecond old new = new ≡ small_db 2

-- the value is 1, for any tables
abbrev pub IsOne : Database → ℕ → Type 0
IsOne db value = value ≡ 1

-- the refusal with the given fault
abbrev pub refused : StoreFault → Refusal
refused fault = record { 0 = fault }

-- ---- tables

-- trees of which the first three have the given rows
abbrev pub later_trees : List Row → List Row → List Row → Trees
later_trees floor pass drift zero = floor
later_trees floor pass drift (suc zero) = pass
later_trees floor pass drift (suc (suc zero)) = drift
later_trees floor pass drift (suc (suc (suc tree))) = []

-- trees of which the first four have the given rows
abbrev pub trees_of : List Row → List Row → List Row → List Row → Trees
trees_of self floor pass drift zero = self
trees_of self floor pass drift (suc tree) = later_trees floor pass drift tree

-- the tables of node 1 without a token, at the given boot, with the given passes
abbrev pub tables_at : ℕ → List Row → Trees
tables_at boot passes = trees_of (self_row 1 0 boot ∷ []) [] passes []

-- a database with the same tables
abbrev pub db_at : ℕ → List Row → Database
db_at boot passes = record { schema = floor_schema; trees = tables_at boot passes }

-- the tables of node 1 without a token at boot 4, of version 3
abbrev pub named_db : Database
named_db = record { schema = schema_of Named; trees = trees_of (version_row 3 1 0 4 ∷ []) [] [] [] }

-- the tables of a store of version 2 with the given rows, and the tables of version 1
abbrev pub db_of : List Row → List Row → List Row → List Row → Database
db_of self floor pass drift = record { schema = floor_schema; trees = trees_of self floor pass drift }

abbrev pub old_db_of : List Row → List Row → List Row → Database
old_db_of self floor pass = record { schema = undrifted_schema; trees = trees_of self floor pass [] }

-- the tables of node 1 without a token, of version 1
abbrev pub old_db_at : ℕ → List Row → Database
old_db_at boot passes = old_db_of (version_row 1 1 0 boot ∷ []) [] passes

-- the tables of node 1 with one token at boot 4, which has the given row and drift
abbrev pub token_db_of : RowRecord → ℤ → Database
token_db_of row steps = db_of (self_row 1 1 4 ∷ []) (floor_row 0 row ∷ []) [] (drift_row 0 steps ∷ [])

-- the same tables, with the floor 9 and the drift 0
abbrev pub token_db : Database
token_db = token_db_of (free_row 9) (pos 0)

-- the same tables, of version 1
abbrev pub old_token_db : Database
old_token_db = old_db_of (version_row 1 1 1 4 ∷ []) (floor_row 0 (free_row 9) ∷ []) []

-- ---- contents and puts

-- the content without a token, at the given boot
abbrev pub small_content : ℕ → Content
small_content boot = record { rows = []; boot = boot; last = None }

-- the content of one token with the given row, at boot 4
abbrev pub token_content : RowRecord → Content
token_content row = record { rows = row ∷ []; boot = 4; last = None }

-- a put of the given row of the token, with the given pass
abbrev pub put_of : ℕ → RowRecord → Option PassRecord → Put
put_of token row pass = record { token = token; row = row; pass = pass }
