-- What makes a store of version 3 of one of version 2.
use Rattle.std.specs.Prelude.{◌≡◌, ℕ, pos, List, [], ◌∷◌, ◌++◌, length}
use Rattle.sqlite.specs.Effect.{Database}
use Rattle.sqlite.specs.Schema.{Schema}
use Rattle.sqlite.specs.Tree.{Trees, put_row, without_rowid}
use Rattle.floor_store.specs.Content.{Content}
use Rattle.floor_store.specs.Records.{PassRecord}
use Rattle.floor_sql.specs.Schema as tables
use Rattle.floor_sql.specs.Schema.{bond, drift, floor, pass, roster, schema_of, self, version_of}
use Rattle.floor_sql.specs.Stored.{HasVersion, Holds, HoldsSelf, OthersStay, rows_of, version_row}
use Rattle.floor_sql.specs.Usable.{HasUsableSelf, HasUsableVersion, IsNode}
use Rattle.floor_sql.specs.declared.schema.Format.{Format}
use Rattle.floor_sql.specs.declared.schema.Format.TheVariants.{Numbered, Named}
use Rattle.roster_sql.specs.Roster.{BondRecord, HoldsNamed, HoldsRoster, bond_row, entry_row}
use Rattle.roster_sql.specs.declared.entry.Entry.{Entry}

-- ---- the tables

-- the tables of version 2 and the table of names
abbrev pub roster_schema : Schema
roster_schema = record { tables = self ∷ floor ∷ pass ∷ drift ∷ roster ∷ []; indexes = []; views = [] }

-- the four tables of version 2 stay
pub record KeepsFour (old new : Trees) : Type 0 where
  pub self : rows_of tables.self new ≡ rows_of tables.self old
  pub floor : rows_of tables.floor new ≡ rows_of tables.floor old
  pub pass : rows_of tables.pass new ≡ rows_of tables.pass old
  pub drift : rows_of tables.drift new ≡ rows_of tables.drift old

-- the table `roster` is created without a row, beside the tables of version 2
pub record MakesRoster (old new : Database) : Type 0 where
  pub schema : new.schema ≡ roster_schema
  pub kept : KeepsFour old.trees new.trees
  pub roster : rows_of tables.roster new.trees ≡ []

-- the table `bond` is created without a row, beside all others
pub record MakesBond (old new : Database) : Type 0 where
  pub schema : new.schema ≡ schema_of Named
  pub kept : KeepsFour old.trees new.trees
  pub roster : rows_of tables.roster new.trees ≡ rows_of tables.roster old.trees
  pub bond : rows_of tables.bond new.trees ≡ []

-- ---- the rows

-- the entry of a token is inserted
pub record AddsEntry (token : ℕ) (entry : Entry) (old new : Database) : Type 0 where
  pub schema : new.schema ≡ old.schema
  pub roster : rows_of tables.roster new.trees ≡ put_row (entry_row token entry) (rows_of tables.roster old.trees)
  pub others : OthersStay tables.roster old.trees new.trees

-- the entries are inserted, after those of the tokens before `first`
pub record AddsEntries (first : ℕ) (entries : List Entry) (old new : Database) : Type 0 where
  pub schema : new.schema ≡ old.schema
  pub roster : (earlier : List Entry) → HoldsRoster old.trees earlier → length earlier ≡ first
      → HoldsRoster new.trees (earlier ++ entries)
  pub others : OthersStay tables.roster old.trees new.trees

-- the row of `bond` is inserted
pub record AddsBond (own : BondRecord) (old new : Database) : Type 0 where
  pub schema : new.schema ≡ old.schema
  pub bond : rows_of tables.bond new.trees ≡ put_row (bond_row own) (rows_of tables.bond old.trees)
  pub others : OthersStay tables.bond old.trees new.trees

-- the row of `self` is of version 3 instead of version 2, and the other tables are unchanged
pub record RaisesVersion (old new : Database) : Type 0 where
  pub schema : new.schema ≡ old.schema
  pub was : HasVersion old (schema_of Named) 2
  pub self : rows_of tables.self new.trees
      ≡ put_row (version_row 3 was.node was.tokens was.boot) (without_rowid (pos 1) (rows_of tables.self old.trees))
  pub others : OthersStay tables.self old.trees new.trees

-- ---- the whole

-- Tables of version 2 are of version 3 now. They are of the same node, with the same content and passes, an entry for
-- each token, and a bond.
abbrev pub Names : List Entry → BondRecord → Database → Database → Type 0
Names entries own old new =
    (c : Content) (passes : List PassRecord) (was : Holds Numbered old.trees c passes)
    → length entries ≡ length c.rows
    → (now : HoldsNamed new c passes entries own) × (now.holds.node ≡ was.node)

-- the tables are of a store of a format, of `node` with `tokens` tokens
pub record IsStoreOf (format : Format) (db : Database) (node tokens : ℕ) : Type 0 where
  pub schema : db.schema ≡ schema_of format
  pub boot : ℕ
  pub self : HoldsSelf format db.trees node tokens boot

-- the tables of a store of a format, of `node` with `tokens` tokens, and a boot in range
pub record IsUsableStoreOf (format : Format) (db : Database) (node tokens : ℕ) : Type 0 where
  pub schema : db.schema ≡ schema_of format
  pub of_node : IsNode node
  pub self : HasUsableVersion db.trees (version_of format) node tokens

-- the tables of a store of version 3, of a node and a number of tokens in range
pub record HasUsableNamed (db : Database) : Type 0 where
  pub schema : db.schema ≡ schema_of Named
  pub self : HasUsableSelf db.trees 3

-- a store of version 2, of `node` with a token for each entry, gets names and a bond
pub record NamesNode (node : ℕ) (entries : List Entry) (own : BondRecord) (old new : Database) : Type 0 where
  pub was : IsStoreOf Numbered old node (length entries)
  pub named : Names entries own old new
