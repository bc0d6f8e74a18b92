-- What the texts mean.
use Rattle.std.proofs.Common.{◌≡◌, ℕ, List, false, Some, slice_get, refl}
use Rattle.sqlite.specs.Change.{without_table}
use Rattle.sqlite.specs.Command.TheVariants.{DropTable}
use Rattle.sqlite.specs.Listing.{understood}
use Rattle.sqlite.specs.Schema.{Schema}
use Rattle.sqlite.specs.Table.{Table}
use Rattle.sqlite.proofs.Callers.{IsPlain, command_of}
use Rattle.sqlite_tied.specs.Compute.{everything}
use Rattle.floor_sql.specs.Created.{first_schema, no_schema, second_schema}
use Rattle.floor_sql.specs.Schema.{bond, drift, floor, floor_schema, pass, roster, schema_of, self, undrifted_schema}
use Rattle.floor_sql.specs.declared.schema.Format.TheVariants.{Named}
use Rattle.roster_sql.specs.Made.{roster_schema}
use Rattle.roster_renewal.specs.Text.{drop_bond, drop_drift, drop_floor, drop_pass, drop_roster, drop_self}

-- the text drops a table of the schema `old`, which counts no rowids, and leaves the schema `new`
pub record IsDrop (text : List ℕ) (old new : Schema) : Type 0 where
  pub at : ℕ
  pub table : Table
  pub there : slice_get old.tables at ≡ Some table
  pub uncounted : table.is_counted ≡ false
  pub left : without_table old table.tree ≡ new
  pub is : command_of (understood old text) ≡ DropTable at
  pub plain : IsPlain (understood old text)

pub bond_dropped : IsDrop drop_bond (schema_of Named) roster_schema
unfolding understood everything
bond_dropped = record { at = 5; table = bond; there = refl; uncounted = refl; left = refl; is = refl; plain = (refl, refl) }

pub roster_dropped : IsDrop drop_roster roster_schema floor_schema
unfolding understood everything
roster_dropped = record { at = 4; table = roster; there = refl; uncounted = refl; left = refl; is = refl; plain = (refl, refl) }

pub drift_dropped : IsDrop drop_drift floor_schema undrifted_schema
unfolding understood everything
drift_dropped = record { at = 3; table = drift; there = refl; uncounted = refl; left = refl; is = refl; plain = (refl, refl) }

pub pass_dropped : IsDrop drop_pass undrifted_schema second_schema
unfolding understood everything
pass_dropped = record { at = 2; table = pass; there = refl; uncounted = refl; left = refl; is = refl; plain = (refl, refl) }

pub floor_dropped : IsDrop drop_floor second_schema first_schema
unfolding understood everything
floor_dropped = record { at = 1; table = floor; there = refl; uncounted = refl; left = refl; is = refl; plain = (refl, refl) }

pub self_dropped : IsDrop drop_self first_schema no_schema
unfolding understood everything
self_dropped = record { at = 0; table = self; there = refl; uncounted = refl; left = refl; is = refl; plain = (refl, refl) }
