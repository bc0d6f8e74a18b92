-- The tables that `open` accepts: the tables of a store, with values in range.
use Rattle.std.specs.Prelude.{◌≡◌, ℕ, ℤ, pos, ◌^◌, ◌<◌, ◌≤◌, List, [], ◌∷◌, filter, slice_get, length, Some}
use Rattle.std.specs.Option.{ForSome}
use Rattle.sqlite.specs.declared.types.Value.TheVariants.{Int}
use Rattle.sqlite.specs.Order.{Row}
use Rattle.sqlite.specs.Tree.{Trees, rowid, has_rowid}
use Rattle.sqlite.specs.Effect.{Database}
use Rattle.otp_core.specs.Range.{IsDrift, IsFactor, IsNext}
use Rattle.otp_core.specs.Gate.{IsGate}
use Rattle.floor_store.specs.Records.{ProposalRecord, RowRecord, PassRecord, SpanRecord, span_of}
use Rattle.floor_store.specs.Range.{IsCount, IsProposal, IsSpan, IsPass}
use Rattle.floor_sql.specs.Schema as tables
use Rattle.floor_sql.specs.Schema.{floor_schema, most_rows, schema_of, version_of}
use Rattle.floor_sql.specs.declared.schema.Format.{Format}
use Rattle.floor_sql.specs.declared.schema.Format.TheVariants.{Numbered}
use Rattle.floor_sql.specs.Stored.{HoldsPasses, node_in, rows_of, self_columns, version_in, version_values, floor_columns, floor_values, drift_columns, drift_values}

-- ---- ranges

-- the number of a node
pub record IsNode (node : ℕ) : Type 0 where
  pub first : 1 ≤ node
  pub last : node ≤ 9

-- the node, the number of tokens and the boot of a store of the given version
pub record IsOwn (version : ℕ) (own : ℕ × ℕ × ℕ) : Type 0 where
  pub node : IsNode own.0
  pub tokens : own.1 ≤ most_rows version
  pub boot : IsCount own.2

-- a span of factors in range
pub record IsSpanOfFactors (span : SpanRecord) : Type 0 where
  pub lo : IsFactor span.lo
  pub hi : IsFactor span.hi
  pub spanned : IsSpan span.lo span.hi

-- the columns of a grant
pub record IsGrant (grant : ProposalRecord × SpanRecord) : Type 0 where
  pub proposal : IsProposal grant.0
  pub span : IsSpanOfFactors grant.1

-- the values of a row of `floor`, without the drift
pub record IsRow (row : RowRecord) : Type 0 where
  pub next : IsNext row.next
  pub grant : ForSome row.grant IsGrant
  pub gate : IsGate row.gate.fails row.gate.until

-- the values of a row of `pass`, in a store of at most `most` tokens
pub record IsAudit (most : ℕ) (pass : PassRecord) : Type 0 where
  pub whole : IsPass pass
  pub token : pass.token < most
  pub span : IsSpanOfFactors (span_of pass.lo pass.hi)

-- the values of all rows of `pass`
abbrev pub AreAudit : ℕ → List PassRecord → Type 0
AreAudit most passes = (i : ℕ) (pass : PassRecord) → slice_get passes i ≡ Some pass → IsAudit most pass

-- ---- tables

-- exactly one row of the table has the given key, with the given columns
pub record HasOnly (rows : List Row) (key : ℕ) (columns : Row → Row) (values : Row) : Type 0 where
  pub found : Row
  pub only : filter (has_rowid (pos key)) rows ≡ found ∷ []
  pub shows : columns found ≡ values

-- the one row of `self` is of version 2 and names a node
pub record HasUsableNode (db : Database) : Type 0 where
  pub schema : db.schema ≡ floor_schema
  pub found : Row
  pub only : filter (has_rowid (pos 1)) (rows_of tables.self db.trees) ≡ found ∷ []
  pub keyed : rowid found ≡ Int (pos 1)
  pub version : version_in found ≡ Int (pos 2)
  pub node : ℕ
  pub of_node : node_in found ≡ Int (pos node)
  pub range : IsNode node

-- the one row of `self` is of the given version, node and number of tokens, with a boot in range
pub record HasUsableVersion (trees : Trees) (version node tokens : ℕ) : Type 0 where
  pub boot : ℕ
  pub range : IsCount boot
  pub only : HasOnly (rows_of tables.self trees) 1 self_columns (version_values version node tokens boot)

-- the one row of `self` is of a node and a number of tokens in range
pub record HasUsableSelf (trees : Trees) (version : ℕ) : Type 0 where
  pub node : ℕ
  pub of_node : IsNode node
  pub tokens : ℕ
  pub of_tokens : tokens ≤ most_rows version
  pub self : HasUsableVersion trees version node tokens

-- the token has one row in `floor`, with values in range
pub record HasUsableFloor (trees : Trees) (token : ℕ) : Type 0 where
  pub row : RowRecord
  pub range : IsRow row
  pub only : HasOnly (rows_of tables.floor trees) token floor_columns (floor_values token row)

-- the token has one row in `drift`, with a drift in range
pub record HasUsableDrift (trees : Trees) (token : ℕ) : Type 0 where
  pub steps : ℤ
  pub range : IsDrift steps
  pub only : HasOnly (rows_of tables.drift trees) token drift_columns (drift_values token steps)

-- the token has one row in each of the two tables, with values in range
pub record HasUsableRow (trees : Trees) (token : ℕ) : Type 0 where
  pub floor : HasUsableFloor trees token
  pub drift : HasUsableDrift trees token

-- the passes have the numbers 1, 2, 3 and so on, and values in range; the store has at most `most` tokens
pub record HasUsablePasses (trees : Trees) (most : ℕ) : Type 0 where
  pub passes : List PassRecord
  pub ranges : AreAudit most passes
  pub room : length passes ≤ 2 ^ 62
  pub holds : HoldsPasses trees passes

-- a store of a format, of `node` with `tokens` tokens
pub record IsUsableAs (format : Format) (db : Database) (node tokens : ℕ) : Type 0 where
  pub schema : db.schema ≡ schema_of format
  pub of_node : IsNode node
  pub few : tokens ≤ most_rows (version_of format)
  pub self : HasUsableVersion db.trees (version_of format) node tokens
  pub rows : (token : ℕ) → token < tokens → HasUsableRow db.trees token
  pub passes : HasUsablePasses db.trees (most_rows (version_of format))

-- a store of version 2, of `node` with `tokens` tokens
abbrev pub IsUsable : Database → ℕ → ℕ → Type 0
IsUsable db node tokens = IsUsableAs Numbered db node tokens
