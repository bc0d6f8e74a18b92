-- What gives a store of version 3 further tokens. A floor is the first free factor of a token at a node.
use Rattle.std.specs.Prelude.{◌≡◌, ◌≢◌, ◌<◌, ◌⊎◌, ℕ, pos, List, ◌++◌, length, map}
use Rattle.sqlite.specs.Effect.{Database}
use Rattle.sqlite.specs.Tree.{Trees, put_row, without_rowid}
use Rattle.floor_store.specs.Content.{Content, opening_row}
use Rattle.floor_store.specs.Records.{PassRecord, RowRecord}
use Rattle.floor_sql.specs.Schema as tables
use Rattle.floor_sql.specs.Schema.{schema_of}
use Rattle.floor_sql.specs.Stored.{HasOneRow, HasVersion, HoldsRows, OthersStay, drift_row, floor_row, rows_of, version_row}
use Rattle.floor_sql.specs.Staged.{CanPut, HasRows, passes_in, with_puts}
use Rattle.floor_sql.specs.declared.put.Put.{Put}
use Rattle.floor_sql.specs.declared.schema.Format.TheVariants.{Named}
use Rattle.roster_sql.specs.Made.{IsStoreOf, IsUsableStoreOf}
use Rattle.roster_sql.specs.Roster.{BondRecord, HoldsNamed}
use Rattle.roster_sql.specs.declared.entry.Entry.{Entry}

-- ---- the rows

-- each table but `floor` and `drift` has its old rows
abbrev pub OthersStayBoth : Trees → Trees → Type 0
OthersStayBoth old new = (tree : ℕ) → tree ≢ tables.floor.tree → tree ≢ tables.drift.tree → new tree ≡ old tree

-- the opening row of a token is inserted into `floor` and `drift`
pub record AddsRow (token next : ℕ) (old new : Database) : Type 0 where
  pub schema : new.schema ≡ old.schema
  pub floor : rows_of tables.floor new.trees
      ≡ put_row (floor_row token (opening_row next)) (rows_of tables.floor old.trees)
  pub drift : rows_of tables.drift new.trees ≡ put_row (drift_row token (pos 0)) (rows_of tables.drift old.trees)
  pub others : OthersStayBoth old.trees new.trees

-- an opening row is inserted for each floor, after the rows of the tokens before `first`
pub record AddsRows (first : ℕ) (floors : List ℕ) (old new : Database) : Type 0 where
  pub schema : new.schema ≡ old.schema
  pub rows : (earlier : List RowRecord) → HoldsRows old.trees earlier → length earlier ≡ first
      → HoldsRows new.trees (earlier ++ map opening_row floors)
  pub others : OthersStayBoth old.trees new.trees

-- the row of `self` has the given number of tokens, and the other tables are unchanged
pub record SetsTokens (tokens : ℕ) (old new : Database) : Type 0 where
  pub schema : new.schema ≡ old.schema
  pub was : HasVersion old (schema_of Named) 3
  pub self : rows_of tables.self new.trees
      ≡ put_row (version_row 3 was.node tokens was.boot) (without_rowid (pos 1) (rows_of tables.self old.trees))
  pub others : OthersStay tables.self old.trees new.trees

-- ---- the whole

-- if there are puts, the tables are of a store with `count` passes, and have a row of each token of the puts
pub record MayPut (db : Database) (count : ℕ) (puts : List Put) : Type 0 where
  pub can : 0 < length puts → CanPut db count puts

-- a row that the puts or the number of tokens change is missing or doubled
pub record LacksOne (puts : List Put) (db : Database) : Type 0 where
  pub is : HasRows db.trees puts → ¬ HasOneRow (rows_of tables.self db.trees) 1

-- the content with an opening row for each floor, after the rows that it has
abbrev pub with_floors : List ℕ → Content → Content
with_floors floors c = record c { rows = c.rows ++ map opening_row floors }

-- A store of version 3 with `tokens` tokens has further ones, after the others. They have opening rows with the given
-- floors, and the given entries. The content, the passes, the entries, the bond and the node are the old ones.
abbrev pub Appends : ℕ → List ℕ → List Entry → Database → Database → Type 0
Appends tokens floors entries old new =
    (c : Content) (passes : List PassRecord) (former : List Entry) (own : BondRecord)
    → (was : HoldsNamed old c passes former own) → length c.rows ≡ tokens
    → (now : HoldsNamed new (with_floors floors c) passes (former ++ entries) own)
    × (now.holds.node ≡ was.holds.node)

-- the same, after rows of the tokens that are there were put; the store has `count` passes before
abbrev pub Grows : ℕ → ℕ → List Put → List ℕ → List Entry → Database → Database → Type 0
Grows tokens count puts floors entries old new =
    (c : Content) (passes : List PassRecord) (former : List Entry) (own : BondRecord)
    → (was : HoldsNamed old c passes former own) → length c.rows ≡ tokens → length passes ≡ count
    → (now : HoldsNamed new (with_floors floors (with_puts c puts)) (passes ++ passes_in puts) (former ++ entries) own)
    × (now.holds.node ≡ was.holds.node)

-- The tables are of a store of version 3, of `node` with `tokens` tokens. Whatever it holds with `count` passes, it
-- holds the same afterwards with the rows of the puts, followed by opening rows with the given floors and by the given
-- entries.
pub record Enrols (node tokens count : ℕ) (puts : List Put) (floors : List ℕ) (entries : List Entry)
    (old new : Database) : Type 0 where
  pub was : IsStoreOf Named old node tokens
  pub same : (c : Content) (passes : List PassRecord) (former : List Entry) (own : BondRecord)
      → HoldsNamed old c passes former own → length passes ≡ count
      → (now : HoldsNamed new (with_floors floors (with_puts c puts)) (passes ++ passes_in puts) (former ++ entries) own)
      × (now.holds.node ≡ node)

-- the tables are of no such store, or lack a row
abbrev pub LacksAny : ℕ → ℕ → List Put → Database → Type 0
LacksAny node tokens puts db = (¬ IsUsableStoreOf Named db node tokens) ⊎ LacksOne puts db
