-- A store of version 2 whose tokens were given names is the same store, of version 3.
use Rattle.std.proofs.Common.{◌≡◌, ℕ, pos, List, [], length, refl, subst, ◌∙◌, arith}
use Rattle.sqlite.specs.Tree.{put_row, without_rowid}
use Rattle.sqlite.specs.Effect.{Database}
use Rattle.floor_sql.specs.Schema.{floor_schema, schema_of}
use Rattle.floor_sql.specs.Stored.{HasRow, HasVersion, self_columns, version_row, version_values}
use Rattle.floor_sql.specs.declared.schema.Format.TheVariants.{Named, Numbered}
use Rattle.floor_sql.proofs.ContentLemmas.{one_shown, passes_stay, row_stays, rows_stay}
use Rattle.floor_sql.proofs.HoldLemmas.{put_in}
use Rattle.roster_sql.specs.Made.{AddsBond, AddsEntries, IsStoreOf, MakesBond, MakesRoster, Names, NamesNode, RaisesVersion}
use Rattle.roster_sql.specs.Roster.{BondRecord, HoldsRoster, bond_columns, bond_row, bond_values, entry_columns, entry_values}
use Rattle.roster_sql.specs.declared.entry.Entry.{Entry}
use Rattle.roster_sql.proofs.MakingLemmas.{no_entries}

module _ (s0 s1 s2 s3 s4 : Database) (entries : List Entry) (own : BondRecord) where
  -- the row of `self` stays until its version is raised
  pub self_kept : MakesRoster s0 s1 → MakesBond s1 s2 → AddsEntries 0 entries s2 s3 → AddsBond own s3 s4 → s4.trees 0 ≡ s0.trees 0
  self_kept first second added bonded =
      bonded.others 0 (λ (e : 0 ≡ 5). omega arith) ∙ added.others 0 (λ (e : 0 ≡ 4). omega arith) ∙ second.kept.self ∙ first.kept.self

  pub version_stays : HasVersion s0 floor_schema 2 → MakesRoster s0 s1 → MakesBond s1 s2 → AddsEntries 0 entries s2 s3 → AddsBond own s3 s4
      → HasVersion s4 (schema_of Named) 2
  version_stays it first second added bonded = record {
    schema = bonded.schema ∙ added.schema ∙ second.schema;
    node = it.node;
    tokens = it.tokens;
    boot = it.boot;
    held = row_stays (s0.trees 0) (s4.trees 0) 1 self_columns (version_values 2 it.node it.tokens it.boot) (self_kept first second added bonded) it.held;
  }

module _ (s0 s1 s2 s3 s4 s5 : Database) (entries : List Entry) (own : BondRecord) where
  pub names_made : MakesRoster s0 s1 → MakesBond s1 s2 → AddsEntries 0 entries s2 s3 → AddsBond own s3 s4 → RaisesVersion s4 s5 → Names entries own s0 s5
  names_made first second added bonded raised c passes was counted =
      let it = raised.was in
      let kept = self_kept s0 s1 s2 s3 s4 entries own first second added bonded in
      let held : HasRow (s4.trees 0) 1 self_columns (version_values 2 was.node (length c.rows) c.boot) =
      row_stays (s0.trees 0) (s4.trees 0) 1 self_columns _ kept was.self in
      let same : version_values 2 it.node it.tokens it.boot ≡ version_values 2 was.node (length c.rows) c.boot = one_shown (s4.trees 0) 1 self_columns _ _ it.held held in
      let node : it.node ≡ was.node = cc in
      let tokens : it.tokens ≡ length c.rows = cc in
      let boot : it.boot ≡ c.boot = cc in
      let row : s5.trees 0 ≡ put_row (version_row 3 was.node (length c.rows) c.boot) (without_rowid (pos 1) (s4.trees 0)) =
      raised.self ∙ (λ i. put_row (version_row 3 (node i) (tokens i) (boot i)) (without_rowid (pos 1) (s4.trees 0))) in
      let floors : s5.trees 1 ≡ s0.trees 1 =
      raised.others 1 (λ (e : 1 ≡ 0). omega arith) ∙ bonded.others 1 (λ (e : 1 ≡ 5). omega arith) ∙ added.others 1 (λ (e : 1 ≡ 4). omega arith) ∙ second.kept.floor ∙ first.kept.floor in
      let audit : s5.trees 2 ≡ s0.trees 2 =
      raised.others 2 (λ (e : 2 ≡ 0). omega arith) ∙ bonded.others 2 (λ (e : 2 ≡ 5). omega arith) ∙ added.others 2 (λ (e : 2 ≡ 4). omega arith) ∙ second.kept.pass ∙ first.kept.pass in
      let drifts : s5.trees 3 ≡ s0.trees 3 =
      raised.others 3 (λ (e : 3 ≡ 0). omega arith) ∙ bonded.others 3 (λ (e : 3 ≡ 5). omega arith) ∙ added.others 3 (λ (e : 3 ≡ 4). omega arith) ∙ second.kept.drift ∙ first.kept.drift in
      let names : s5.trees 4 ≡ s3.trees 4 = raised.others 4 (λ (e : 4 ≡ 0). omega arith) ∙ bonded.others 4 (λ (e : 4 ≡ 5). omega arith) in
      let all : HoldsRoster s3.trees entries = added.roster [] (no_entries s2.trees) refl in
      let one : HasRow (s4.trees 5) 1 bond_columns (bond_values own) = put_in bond_columns (s3.trees 5) (s4.trees 5) 1 (bond_row own) (bond_values own) refl refl bonded.bond in (
        record {
          schema = raised.schema ∙ bonded.schema ∙ added.schema ∙ second.schema;
          holds = record {
            rows = rows_stay s0.trees s5.trees c.rows floors drifts was.rows;
            node = was.node;
            self = put_in self_columns (without_rowid (pos 1) (s4.trees 0)) (s5.trees 0) 1 (version_row 3 was.node (length c.rows) c.boot) (version_values 3 was.node (length c.rows) c.boot) refl refl row;
            pass = passes_stay s0.trees s5.trees passes audit was.pass;
            last = was.last;
          };
          roster = λ token entry got. row_stays (s3.trees 4) (s5.trees 4) token entry_columns (entry_values token entry) names (all token entry got);
          counted = counted;
          bond = row_stays (s4.trees 5) (s5.trees 5) 1 bond_columns (bond_values own) (raised.others 5 (λ (e : 5 ≡ 0). omega arith)) one;
        },
        refl,
      )

pub of_node : (node : ℕ) (entries : List Entry) (own : BondRecord) (old new : Database) → IsStoreOf Numbered old node (length entries) → Names entries own old new → NamesNode node entries own old new
of_node node entries own old new was named = record { was = was; named = named }
