-- The puts that wait for their commit.
use Rattle.std.specs.Prelude.{◌≡◌, ℕ, ◌<◌, List, [], ◌∷◌, ◌++◌, slice_get, Option, None, Some, length}
use Rattle.std.specs.Option.{option_to_list}
use Rattle.sqlite.specs.Effect.{Database}
use Rattle.sqlite.specs.Tree.{Trees}
use Rattle.floor_store.specs.Content.{Content, with_row}
use Rattle.floor_store.specs.Records.{PassRecord}
use Rattle.floor_sql.specs.Schema as tables
use Rattle.floor_sql.specs.Schema.{schema_of}
use Rattle.floor_sql.specs.declared.schema.Format.{Format}
use Rattle.floor_sql.specs.Stored.{HasOneRow, Holds, Raises, rows_of}
use Rattle.floor_sql.specs.declared.put.Put.{Put}

-- ---- contents

-- the content after the puts, in order
abbrev pub with_puts : Content → List Put → Content
with_puts c [] = c
with_puts c (put ∷ puts) = with_puts (with_row c put.token put.row put.pass) puts

-- the passes among the puts
abbrev pub passes_in : List Put → List PassRecord
passes_in [] = []
passes_in (put ∷ puts) = option_to_list put.pass ++ passes_in puts

-- the content with the given boot, if it is Some
abbrev pub with_boot : Option ℕ → Content → Content
with_boot None c = c
with_boot (Some boot) c = record c { boot = boot }

-- ---- tables

-- The tables are of a format, and hold a content and `count` passes before the puts. Afterwards they are of the same
-- format, and hold the content after the puts, and the passes followed by the passes among the puts.
abbrev pub MakesPuts : ℕ → List Put → Database → Database → Type 0
MakesPuts count puts old new =
    (format : Format) (c : Content) (passes : List PassRecord) → old.schema ≡ schema_of format
    → Holds format old.trees c passes → length passes ≡ count
    → (new.schema ≡ schema_of format) × Holds format new.trees (with_puts c puts) (passes ++ passes_in puts)

-- the puts are written, followed by the boot if it is Some
abbrev pub MakesAll : ℕ → List Put → Option ℕ → Database → Database → Type 0
MakesAll count puts None old new = MakesPuts count puts old new
MakesAll count puts (Some boot) old new = (mid : Database) × MakesPuts count puts old mid × Raises boot mid new

-- the tables are of a store with `count` passes, and have a row of each token of the puts
pub record CanPut (db : Database) (count : ℕ) (puts : List Put) : Type 0 where
  pub format : Format
  pub content : Content
  pub passes : List PassRecord
  pub schema : db.schema ≡ schema_of format
  pub holds : Holds format db.trees content passes
  pub counted : length passes ≡ count
  pub tokens : (i : ℕ) (put : Put) → slice_get puts i ≡ Some put → put.token < length content.rows

-- the token has exactly one row in `floor` and one in `drift`
pub record HasRowOnce (trees : Trees) (token : ℕ) : Type 0 where
  pub floor : HasOneRow (rows_of tables.floor trees) token
  pub drift : HasOneRow (rows_of tables.drift trees) token

-- each token of the puts has exactly one row in `floor` and one in `drift`
abbrev pub HasRows : Trees → List Put → Type 0
HasRows trees puts = (i : ℕ) (put : Put) → slice_get puts i ≡ Some put → HasRowOnce trees put.token

-- a row that the puts or the raise of the boot change is missing or doubled
abbrev pub LacksRow : Trees → List Put → Option ℕ → Type 0
LacksRow trees puts None = ¬ HasRows trees puts
LacksRow trees puts (Some boot) = HasRows trees puts → ¬ HasOneRow (rows_of tables.self trees) 1

-- A token with exactly one row keeps exactly one. The row of `self` is unchanged, and so is each table behind those of
-- the tokens.
pub record KeepsOneRows (old new : Trees) : Type 0 where
  pub self : rows_of tables.self new ≡ rows_of tables.self old
  pub floor : (token : ℕ) → HasOneRow (rows_of tables.floor old) token → HasOneRow (rows_of tables.floor new) token
  pub drift : (token : ℕ) → HasOneRow (rows_of tables.drift old) token → HasOneRow (rows_of tables.drift new) token
  pub others : (tree : ℕ) → 3 < tree → new tree ≡ old tree
