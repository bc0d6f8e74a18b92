-- A new store of version 2 whose tokens get names is a new store of version 3.
use Rattle.std.proofs.Common.{◌≡◌, ℕ, List, [], length, refl, sym, ◌∙◌}
use Rattle.std.proofs.lemmas.List.{length-map}
use Rattle.sqlite.specs.Effect.{Database}
use Rattle.floor_store.specs.Content.{opening_content_at, opening_row}
use Rattle.floor_sql.specs.Created.{Opens}
use Rattle.floor_sql.specs.Schema.{floor_schema}
use Rattle.floor_sql.specs.Stored.{HasVersion}
use Rattle.roster_sql.specs.Made.{Names}
use Rattle.roster_sql.specs.Opened.{OpensNamed}
use Rattle.roster_sql.specs.Roster.{BondRecord}
use Rattle.roster_sql.specs.declared.entry.Entry.{Entry}

module _ (node boot : ℕ) (floors : List ℕ) (none made : Database) (opened : Opens node boot floors none made) where
  pub has_version : HasVersion made floor_schema 2
  has_version = record { schema = opened.schema; node = opened.holds.node; tokens = _; boot = boot; held = opened.holds.self }

  pub opens_named : (entries : List Entry) (own : BondRecord) (new : Database) → length entries ≡ length floors → Names entries own made new
      → OpensNamed node boot floors entries own none new
  opens_named entries own new counted names =
      let it = names (opening_content_at boot floors) [] opened.holds (counted ∙ sym (length-map floors opening_row)) in
      record { whole = it.0; of_node = it.1 ∙ opened.of_node }
