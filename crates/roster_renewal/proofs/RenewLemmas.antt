-- A new store of version 3 into whose rows puts are made.
use Rattle.std.proofs.Common.{◌≡◌, ℕ, List, [], length, refl, sym, ◌∙◌, arith}
use Rattle.std.proofs.lemmas.List.{length-map}
use Rattle.sqlite.specs.Effect.{Database}
use Rattle.floor_store.specs.Content.{opening_content_at, opening_row}
use Rattle.floor_sql.specs.Staged.{CanPut, KeepsOneRows, MakesPuts, passes_in, with_puts}
use Rattle.floor_sql.specs.Stored.{self_columns, version_values}
use Rattle.floor_sql.specs.declared.put.Put.{Put}
use Rattle.floor_sql.specs.declared.schema.Format.TheVariants.{Named}
use Rattle.floor_sql.proofs.ContentLemmas.{one_shown, row_stays}
use Rattle.floor_sql.proofs.StagedLemmas.{length_with_puts}
use Rattle.roster_sql.specs.Opened.{OpensNamed}
use Rattle.roster_sql.specs.Roster.{BondRecord, HoldsNamed, bond_columns, bond_values, entry_columns, entry_values}
use Rattle.roster_sql.specs.declared.entry.Entry.{Entry}
use Rattle.roster_renewal.specs.Renewed.{AreOf, Renews}

module _ (node boot : ℕ) (floors : List ℕ) (entries : List Entry) (own : BondRecord) (puts : List Put) (old mid : Database)
    (opened : OpensNamed node boot floors entries own old mid) where
  pub can_put : AreOf (length floors) puts → CanPut mid 0 puts
  can_put within = record {
    format = Named;
    content = opening_content_at boot floors;
    passes = [];
    schema = opened.whole.schema;
    holds = opened.whole.holds;
    counted = refl;
    tokens = λ i put at. let low = within i put at in omega (arith, low, length-map floors opening_row);
  }

  -- puts leave the entries, the bond and the node
  pub renews : (new : Database) → MakesPuts 0 puts mid new → KeepsOneRows mid.trees new.trees → Renews node boot floors entries own puts old new
  renews new made keeps =
      let was = opened.whole in
      let c = opening_content_at boot floors in
      let it = made Named c [] was.schema was.holds refl in
      let whole : HoldsNamed new (with_puts c puts) (passes_in puts) entries own = record {
        schema = it.0;
        holds = it.1;
        roster = λ token entry got. row_stays (mid.trees 4) (new.trees 4) token entry_columns (entry_values token entry) (keeps.others 4 (omega arith)) (was.roster token entry got);
        counted = was.counted ∙ sym (length_with_puts c puts);
        bond = row_stays (mid.trees 5) (new.trees 5) 1 bond_columns (bond_values own) (keeps.others 5 (omega arith)) was.bond;
      } in
      let values : version_values 3 it.1.node (length (with_puts c puts).rows) (with_puts c puts).boot ≡ version_values 3 was.holds.node (length c.rows) c.boot =
      one_shown (new.trees 0) 1 self_columns _ _ it.1.self (row_stays (mid.trees 0) (new.trees 0) 1 self_columns (version_values 3 was.holds.node (length c.rows) c.boot) keeps.self was.holds.self) in
      let same : it.1.node ≡ was.holds.node = cc in
      record { whole = whole; of_node = same ∙ opened.of_node }
