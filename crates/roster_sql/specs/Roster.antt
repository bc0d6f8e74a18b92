-- The names of a store's tokens, and the cluster that the store is bound to.
use Rattle.std.specs.Prelude.{◌≡◌, ℕ, pos, List, [], ◌∷◌, length, slice_get, Some}
use Rattle.sqlite.specs.declared.types.Value.TheVariants.{Null, Int, Blob}
use Rattle.sqlite.specs.Order.{Row, column}
use Rattle.sqlite.specs.Tree.{Trees, rowid}
use Rattle.sqlite.specs.Effect.{Database}
use Rattle.floor_store.specs.Content.{Content}
use Rattle.floor_store.specs.Records.{PassRecord}
use Rattle.floor_sql.specs.Schema as tables
use Rattle.floor_sql.specs.Schema.{schema_of}
use Rattle.floor_sql.specs.Stored.{HasRow, Holds, rows_of}
use Rattle.floor_sql.specs.declared.schema.Format.TheVariants.{Named}
use Rattle.roster_sql.specs.declared.entry.Entry.{Entry}

-- the cluster that a store is bound to: the word of its names, its life, and the number of its members
pub record BondRecord : Type 0 where
  pub names : List ℕ
  pub life : List ℕ
  pub members : ℕ

-- ---- the rows

-- the columns of a row of `roster`
abbrev pub entry_columns : Row → Row
entry_columns r = rowid r ∷ column r 2 ∷ column r 3 ∷ []

-- the columns of the row of `bond`
abbrev pub bond_columns : Row → Row
bond_columns r = rowid r ∷ column r 2 ∷ column r 3 ∷ column r 4 ∷ []

-- a row of `roster`
abbrev pub entry_values : ℕ → Entry → Row
entry_values token entry = Int (pos token) ∷ Blob entry.name ∷ Blob entry.seed ∷ []

-- the row of `bond`
abbrev pub bond_values : BondRecord → Row
bond_values bond = Int (pos 1) ∷ Blob bond.names ∷ Blob bond.life ∷ Int (pos bond.members) ∷ []

-- a row of `roster`, whose key is kept as its rowid
abbrev pub entry_row : ℕ → Entry → Row
entry_row token entry = Int (pos token) ∷ Null ∷ Blob entry.name ∷ Blob entry.seed ∷ []

-- the row of `bond`, kept likewise
abbrev pub bond_row : BondRecord → Row
bond_row bond = Int (pos 1) ∷ Null ∷ Blob bond.names ∷ Blob bond.life ∷ Int (pos bond.members) ∷ []

-- ---- the content

-- `roster` has the entry of a token
abbrev pub HoldsEntry : Trees → ℕ → Entry → Type 0
HoldsEntry trees token entry = HasRow (rows_of tables.roster trees) token entry_columns (entry_values token entry)

-- `roster` has the given entries, each under its token
abbrev pub HoldsRoster : Trees → List Entry → Type 0
HoldsRoster trees entries =
    (token : ℕ) (entry : Entry) → slice_get entries token ≡ Some entry → HoldsEntry trees token entry

-- `bond` has its row
abbrev pub HoldsBond : Trees → BondRecord → Type 0
HoldsBond trees bond = HasRow (rows_of tables.bond trees) 1 bond_columns (bond_values bond)

-- a store of version 3, with its content, its passes, the entry of each token, and its bond
pub record HoldsNamed (db : Database) (c : Content) (passes : List PassRecord) (entries : List Entry)
    (own : BondRecord) : Type 0 where
  pub schema : db.schema ≡ schema_of Named
  pub holds : Holds Named db.trees c passes
  pub roster : HoldsRoster db.trees entries
  pub counted : length entries ≡ length c.rows
  pub bond : HoldsBond db.trees own
