-- What the migration makes of the tables.
use Rattle.std.proofs.Common.{◌≡◌, ◌+◌, ℕ, pos, List, [], ◌∷◌, ◌++◌, length, Ok, refl, sym, ap, subst, ◌∙◌, arith, length-append}
use Rattle.sqlite.specs.declared.types.Value.TheVariants.{Null, Int}
use Rattle.sqlite.specs.Order.{Row, column}
use Rattle.sqlite.specs.Term.{eval_all}
use Rattle.sqlite.specs.Query.{IsAnswer}
use Rattle.sqlite.specs.Program.{overlay}
use Rattle.sqlite.specs.Tree.{Trees, rowid, has_rowid, put_row, without_rowid}
use Rattle.sqlite.specs.Command.TheVariants.{Update}
use Rattle.sqlite.specs.Edit.{edit_of, edited}
use Rattle.sqlite.specs.Rowids.TheVariants.{Given}
use Rattle.sqlite.specs.Effect.{Database}
use Rattle.sqlite.specs.State.{State, HasCleanDisk, Survives, Executes}
use Rattle.sqlite.proofs.StateLemmas.{survives_then}
use Rattle.sqlite.proofs.Callers.{runs_as}
use Rattle.sqlite_rules.specs.Calls.{ids_of}
use Rattle.sqlite_rules.proofs.ListLemmas.{has_found}
use Rattle.floor_store.specs.Records.{RowRecord}
use Rattle.floor_sql.specs.Schema.{self, undrifted_schema, floor_schema}
use Rattle.floor_sql.specs.declared.schema.Format.TheVariants.{Numbered}
use Rattle.floor_sql.specs.Stored.{HasRow, HasVersion, HoldsFloor, HoldsSelf, Commits, MayCommit, drift_columns, drift_values, self_columns, version_values, self_row}
use Rattle.floor_sql.specs.Created.{AddsTable, AddsDrifts}
use Rattle.floor_sql.specs.Migrate.{HasUndrifted, IsUndrifted, RaisesVersion, AddsVersion, Migrates}
use Rattle.floor_sql.specs.Text.{update_version}
use Rattle.floor_sql.proofs.ListLemmas.{only}
use Rattle.floor_sql.proofs.TextLemmas.{by_one, version_terms, version_query, plain_program, update_version_is, update_version_plain}
use Rattle.floor_sql.proofs.BootLemmas.{picks_one}
use Rattle.floor_sql.proofs.UpdateLemmas.{changed_row, updated, cast_int, cast_null}
use Rattle.floor_sql.proofs.HoldLemmas.{put_in}
use Rattle.floor_sql.proofs.ContentLemmas.{one_shown, row_stays, passes_stay}
use Rattle.floor_sql.proofs.ReadLemmas.{rows_more}
use Rattle.floor_sql.proofs.CreateLemmas.{rows_drifted}

pub version_raised : (old new : State) → HasVersion old.now floor_schema 1 → Executes update_version [] old new (Ok 1) → RaisesVersion old.now new.now
version_raised old new it h =
    let params : Row = [] in
    let db = old.now.trees in
    let was = it.held.found in
    let shows = it.held.shows in
    let keyed : rowid was ≡ Int (pos 1) = cc in
    let node : column was 3 ≡ Int (pos it.node) = cc in
    let tokens : column was 4 ≡ Int (pos it.tokens) = cc in
    let boot : column was 5 ≡ Int (pos it.boot) = cc in
    let there = (has_found (has_rowid (pos 1)) (db 0) was it.held.place).0 in
    let w = runs_as update_version params old new floor_schema it.schema (Update 0 (plain_program version_query)) update_version_is update_version_plain 1 h in
    let u = updated Numbered 0 self refl version_query _ params old new 1 it.schema w in
    let one = only u.shown (sym u.counted) in
    let row : one.0 ≡ eval_all version_terms (params ∷ was ∷ []) =
    changed_row by_one version_terms params 0 db was one.0 refl there (picks_one params was keyed)
    (subst (IsAnswer version_query (overlay db []) params) one.1 u.answer) in
    let out : Row = Int (pos 1) ∷ Int (pos 1) ∷ Null ∷ Int (pos 2) ∷ Int (pos it.node) ∷ Int (pos it.tokens) ∷ Int (pos it.boot) ∷ [] in
    let eval : eval_all version_terms (params ∷ was ∷ []) ≡ out = rw (keyed, node, tokens, boot) in
    let shown : u.shown ≡ out ∷ [] = one.1 ∙ ap (λ r. r ∷ []) (row ∙ eval) in
    let edit : edited db (edit_of db self (ids_of (out ∷ [])) Given 1 (out ∷ [])) ≡ put_row (self_row it.node it.tokens it.boot) (without_rowid (pos 1) (db 0)) =
    rw (cast_null, cast_int (pos 1), cast_int (pos 2), cast_int (pos it.node), cast_int (pos it.tokens), cast_int (pos it.boot)) in
    record {
      schema = u.schema ∙ it.schema;
      was = it;
      self = u.applies.rows ∙ ap (λ rows. edited db (edit_of db self (ids_of rows) Given 1 rows)) shown ∙ edit;
      others = λ tree apart. u.applies.others tree apart tt;
    }

-- the row of `self` stays as the table of drifts is filled
pub version_stays : (old mid new : Database) (tokens : ℕ) → HasVersion old undrifted_schema 1 → AddsTable old mid → AddsDrifts tokens mid new → HasVersion new floor_schema 1
version_stays old mid new tokens it made added = record {
  schema = added.schema;
  node = it.node;
  tokens = it.tokens;
  boot = it.boot;
  held = row_stays (old.trees 0) (new.trees 0) 1 self_columns (version_values 1 it.node it.tokens it.boot) (added.others 0 (λ (e : 0 ≡ 3). omega arith) ∙ made.self) it.held;
}

pub version_added : (old mid last new : Database) (tokens : ℕ) → HasVersion old undrifted_schema 1 → AddsTable old mid → AddsDrifts tokens mid last
    → RaisesVersion last new → AddsVersion tokens old new
version_added old mid last new tokens it made added raised =
    let was = raised.was in
    let held : HasRow (last.trees 0) 1 self_columns (version_values 1 it.node it.tokens it.boot) =
    row_stays (old.trees 0) (last.trees 0) 1 self_columns _ (added.others 0 (λ (e : 0 ≡ 3). omega arith) ∙ made.self) it.held in
    let same : version_values 1 was.node was.tokens was.boot ≡ version_values 1 it.node it.tokens it.boot = one_shown (last.trees 0) 1 self_columns _ _ was.held held in
    let node : was.node ≡ it.node = cc in
    let count : was.tokens ≡ it.tokens = cc in
    let boot : was.boot ≡ it.boot = cc in
    let row : new.trees 0 ≡ put_row (self_row it.node it.tokens it.boot) (without_rowid (pos 1) (last.trees 0)) =
    raised.self ∙ (λ i. put_row (self_row (node i) (count i) (boot i)) (without_rowid (pos 1) (last.trees 0))) in
    record {
      schema = raised.schema;
      was = it;
      self = put_in self_columns (without_rowid (pos 1) (last.trees 0)) (new.trees 0) 1 (self_row it.node it.tokens it.boot) (version_values 2 it.node it.tokens it.boot) refl refl row;
      floor = raised.others 1 (λ (e : 1 ≡ 0). omega arith) ∙ added.others 1 (λ (e : 1 ≡ 3). omega arith) ∙ made.floor;
      pass = raised.others 2 (λ (e : 2 ≡ 0). omega arith) ∙ added.others 2 (λ (e : 2 ≡ 3). omega arith) ∙ made.pass;
      drift = λ token low. subst (λ (rows : List Row). HasRow rows token drift_columns (drift_values token (pos 0))) (sym (raised.others 3 (λ (e : 3 ≡ 0). omega arith))) (added.drift token low);
    }

-- the old tables and the new ones have the same content
pub migrated : (old new : Database) (node tokens : ℕ) → IsUndrifted old node tokens → AddsVersion tokens old new → Migrates node tokens old new
migrated old new node tokens it added =
    let c = it.0 in
    let passes = it.1 in
    let held = it.2 in
    let was = added.was in
    let same : version_values 1 was.node was.tokens was.boot ≡ version_values 1 node tokens c.boot = one_shown (old.trees 0) 1 self_columns _ _ was.held held.self in
    let own : was.node ≡ node = cc in
    let count : was.tokens ≡ length c.rows = let k : was.tokens ≡ tokens = cc in k ∙ sym held.of_tokens in
    let boot : was.boot ≡ c.boot = cc in
    let self : HoldsSelf Numbered new.trees node (length c.rows) c.boot =
    subst (HasRow (new.trees 0) 1 self_columns) (λ i. version_values 2 (own i) (count i) (boot i)) added.self in
    record {
      content = c;
      passes = passes;
      was = held;
      schema = added.schema;
      holds = record {
        rows = rows_drifted old.trees new.trees c.rows held.floors added.floor (λ token low. added.drift token (omega (arith, held.of_tokens))) held.undrifted;
        node = node;
        self = self;
        pass = passes_stay old.trees new.trees passes added.pass held.pass;
        last = held.last;
      };
      of_node = refl;
      floor = added.floor;
      pass = added.pass;
    }

pub commits_migrated : (old mid new : State) (node tokens : ℕ) → mid.now ≡ old.now → IsUndrifted old.now node tokens → Commits (AddsVersion tokens) mid new → Commits (Migrates node tokens) old new
commits_migrated old mid new node tokens same it done = record {
  is_open = done.is_open;
  committed = migrated old.now new.committed node tokens it (subst (λ db. AddsVersion tokens db new.committed) same done.committed);
  now = done.now;
}

pub migrated_survives : (old mid new : State) (node tokens : ℕ) → (HasCleanDisk mid → mid.now ≡ old.now) → (HasCleanDisk mid → IsUndrifted old.now node tokens) → Survives old mid (λ _. ⊥)
    → Survives mid new (MayCommit (AddsVersion tokens) mid) → Survives old new (MayCommit (Migrates node tokens) old)
migrated_survives old mid new node tokens same it one two = survives_then old mid new _ _ (MayCommit (Migrates node tokens) old) (λ _ db none. absurd none)
    (λ clean db may.
    let early : HasCleanDisk mid = omega (arith, two.clean) in
    (may.0, migrated old.now may.0 node tokens (it early) (subst (λ (d : Database). AddsVersion tokens d may.0) (same early) may.1), may.2)) one two

-- ---- the rows of floors that were read

pub none_read : (trees : Trees) → HasUndrifted trees 0
none_read trees = record { rows = []; counted = refl; floors = λ token row got. absurd (cc); undrifted = λ token row got. absurd (cc) }

pub one_more_read : (trees : Trees) (tokens : ℕ) (row : RowRecord) → HasUndrifted trees tokens → HoldsFloor trees tokens row → row.drift ≡ pos 0 → HasUndrifted trees (tokens + 1)
one_more_read trees tokens row it held none =
    let here : HoldsFloor trees (length it.rows) row = subst (λ k. HoldsFloor trees k row) (sym it.counted) held in
    record {
      rows = it.rows ++ row ∷ [];
      counted = length-append it.rows (row ∷ []) ∙ ap (λ n. n + 1) it.counted;
      floors = rows_more (HoldsFloor trees) it.rows row it.floors here;
      undrifted = rows_more (λ token (r : RowRecord). r.drift ≡ pos 0) it.rows row it.undrifted none;
    }
