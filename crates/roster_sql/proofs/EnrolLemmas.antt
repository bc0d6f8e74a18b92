-- A store of version 3 that gets further tokens.
use Rattle.std.proofs.Common.{◌≡◌, ◌≢◌, ◌<◌, ◌+◌, ℕ, pos, List, [], ◌∷◌, ◌++◌, get_or, length, map, take, inl, inr, Result, Ok, Err, OnOk, IfErr, refl, sym, ap, subst, ◌∙◌, arith, append_assoc, append-nil, length-append}
use Rattle.std.proofs.lemmas.List.{length-map, length-take-le, map_more}
use Rattle.sqlite.specs.declared.types.Value.TheVariants.{Null, Int}
use Rattle.sqlite.specs.Command.TheVariants.{Update}
use Rattle.sqlite.specs.Edit.{edit_of, edited}
use Rattle.sqlite.specs.Rowids.TheVariants.{Given}
use Rattle.sqlite.specs.Order.{Row, column}
use Rattle.sqlite.specs.Term.{eval_all}
use Rattle.sqlite.specs.Query.{IsAnswer}
use Rattle.sqlite.specs.Program.{overlay}
use Rattle.sqlite.specs.Tree.{rowid, has_rowid, put_row, without_rowid}
use Rattle.sqlite.specs.Effect.{Database}
use Rattle.sqlite.specs.Store.{Ghosts}
use Rattle.sqlite.specs.Held.{state}
use Rattle.sqlite.specs.State.{State, Executes}
use Rattle.sqlite.specs.declared.transaction.Transaction.{Transaction}
use Rattle.sqlite.proofs.Callers.{runs_as}
use Rattle.sqlite_rules.specs.Calls.{ids_of}
use Rattle.sqlite_rules.proofs.ListLemmas.{has_found}
use Rattle.floor_store.specs.Content.{Content, opening_row}
use Rattle.floor_store.specs.Records.{PassRecord, RowRecord}
use Rattle.floor_store.specs.declared.fault.StoreFault.{StoreFault}
use Rattle.floor_store.specs.declared.fault.StoreFault.TheVariants.{Unusable}
use Rattle.floor_sql.specs.Created.{AddsDrift, AddsFloor}
use Rattle.floor_sql.specs.Refusals.{ChangesNotOne}
use Rattle.floor_sql.specs.Schema.{self, schema_of}
use Rattle.floor_sql.specs.Steps.{Changes}
use Rattle.floor_sql.specs.declared.read.Refusal.{Refusal}
use Rattle.floor_sql.specs.Stored.{HasOneRow, HasRow, HasVersion, HoldsRow, HoldsRows, drift_columns, drift_row, drift_values, floor_columns, floor_row, floor_values, rows_of, self_columns, version_row, version_values}
use Rattle.floor_sql.specs.declared.schema.Format.TheVariants.{Named}
use Rattle.floor_sql.specs.Staged.{CanPut, KeepsOneRows, MakesPuts, passes_in, with_puts}
use Rattle.floor_sql.specs.declared.put.Put.{Put}
use Rattle.floor_sql.proofs.StagedLemmas.{length_with_puts}
use Rattle.floor_sql.proofs.BootLemmas.{picks_one}
use Rattle.floor_sql.proofs.ContentLemmas.{one_shown, passes_stay, row_stays, rows_stay}
use Rattle.floor_sql.proofs.HoldLemmas.{floor_shows, put_in, stays_beside}
use Rattle.floor_sql.proofs.ListLemmas.{only}
use Rattle.floor_sql.proofs.PassLemmas.{low_index}
use Rattle.floor_sql.proofs.ReadLemmas.{by_one_picks, rows_more}
use Rattle.floor_sql.proofs.RefusalLemmas.{never_of_text}
use Rattle.floor_sql.proofs.TextLemmas.{by_one, plain_program}
use Rattle.floor_sql.proofs.UpdateLemmas.{picks, changed_row, updated, cast_int, cast_null}
use Rattle.floor_sql.proofs.UsableLemmas.{only_shown, filter_same}
use Rattle.roster_sql.specs.Enrolled.{AddsRow, AddsRows, Appends, Enrols, Grows, LacksOne, SetsTokens, with_floors}
use Rattle.roster_sql.specs.Made.{AddsEntries, IsStoreOf}
use Rattle.roster_sql.specs.Roster.{BondRecord, HoldsNamed, HoldsRoster, bond_columns, bond_values, entry_columns, entry_values}
use Rattle.roster_sql.specs.Text.{update_tokens}
use Rattle.roster_sql.specs.declared.entry.Entry.{Entry}
use Rattle.roster_sql.proofs.TextLemmas.{tokens_terms, tokens_query, update_tokens_is, update_tokens_plain}

-- ---- the number of tokens

pub tokens_set : (old new : State) (tokens : ℕ) → HasVersion old.now (schema_of Named) 3 → Executes update_tokens (Int (pos tokens) ∷ []) old new (Ok 1) → SetsTokens tokens old.now new.now
tokens_set old new tokens it h =
    let params : Row = Int (pos tokens) ∷ [] in
    let db = old.now.trees in
    let was = it.held.found in
    let shows = it.held.shows in
    let keyed : rowid was ≡ Int (pos 1) = cc in
    let version : column was 2 ≡ Int (pos 3) = cc in
    let node : column was 3 ≡ Int (pos it.node) = cc in
    let boot : column was 5 ≡ Int (pos it.boot) = cc in
    let there = (has_found (has_rowid (pos 1)) (db 0) was it.held.place).0 in
    let w = runs_as update_tokens params old new (schema_of Named) it.schema (Update 0 (plain_program tokens_query)) update_tokens_is update_tokens_plain 1 h in
    let u = updated Named 0 self refl tokens_query _ params old new 1 it.schema w in
    let one = only u.shown (sym u.counted) in
    let row : one.0 ≡ eval_all tokens_terms (params ∷ was ∷ []) =
    changed_row by_one tokens_terms params 0 db was one.0 refl there (picks_one params was keyed)
    (subst (IsAnswer tokens_query (overlay db []) params) one.1 u.answer) in
    let out : Row = Int (pos 1) ∷ Int (pos 1) ∷ Null ∷ Int (pos 3) ∷ Int (pos it.node) ∷ Int (pos tokens) ∷ Int (pos it.boot) ∷ [] in
    let eval : eval_all tokens_terms (params ∷ was ∷ []) ≡ out = rw (keyed, version, node, boot) in
    let shown : u.shown ≡ out ∷ [] = one.1 ∙ ap (λ r. r ∷ []) (row ∙ eval) in
    let edit : edited db (edit_of db self (ids_of (out ∷ [])) Given 1 (out ∷ [])) ≡ put_row (version_row 3 it.node tokens it.boot) (without_rowid (pos 1) (db 0)) =
    rw (cast_null, cast_int (pos 1), cast_int (pos 3), cast_int (pos it.node), cast_int (pos tokens), cast_int (pos it.boot)) in
    record {
      schema = u.schema;
      was = it;
      self = u.applies.rows ∙ ap (λ rows. edited db (edit_of db self (ids_of rows) Given 1 rows)) shown ∙ edit;
      others = λ tree apart. u.applies.others tree apart tt;
    }

module _ (old new : State) (params : Row) (has : old.now.schema ≡ schema_of Named) where
  tokens_counted : (count : ℕ) → Executes update_tokens params old new (Ok count) → HasOneRow (old.now.trees 0) 1 → count ≡ 1
  tokens_counted count h it =
      let db = old.now.trees in
      let w = runs_as update_tokens params old new (schema_of Named) has (Update 0 (plain_program tokens_query)) update_tokens_is update_tokens_plain count h in
      let u = updated Named 0 self refl tokens_query _ params old new count has w in
      let one = filter_same (picks by_one params) (has_rowid (pos 1)) (by_one_picks params) (db 0) ∙ it.only in
      u.counted ∙ ap length (only_shown by_one tokens_terms params 0 db u.shown it.found refl u.answer one)

  pub tokens_unusable : (fault : StoreFault) → ChangesNotOne update_tokens params old new fault → fault ≡ Unusable → ¬ HasOneRow (old.now.trees 0) 1
  tokens_unusable fault (inl cause) is one =
      never_of_text update_tokens params old new (schema_of Named) has
      (Update 0 (plain_program tokens_query)) update_tokens_is update_tokens_plain tt fault cause is
  tokens_unusable fault (inr ran) is one = ran.1 (tokens_counted ran.0 ran.2 one)

-- ---- the rows, one after the other

pub row_added : (old mid new : Database) (token next : ℕ) → AddsFloor token next old mid → AddsDrift token mid new → AddsRow token next old new
row_added old mid new token next one two = record {
  schema = two.schema ∙ one.schema;
  floor = two.others 1 (λ (e : 1 ≡ 3). omega arith) ∙ one.floor;
  drift = two.drift ∙ ap (put_row (drift_row token (pos 0))) (one.others 3 (λ (e : 3 ≡ 1). omega arith));
  others = λ tree apart far. two.others tree far ∙ one.others tree apart;
}

-- the opening row of the next token goes beside the others
row_beside : (old new : Database) (rows : List RowRecord) (next : ℕ) → HoldsRows old.trees rows → AddsRow (length rows) next old new → HoldsRows new.trees (rows ++ opening_row next ∷ [])
row_beside old new rows next held one =
    let token = length rows in
    let row = opening_row next in
    rows_more (HoldsRow new.trees) rows row
    (λ other r got.
    let low = low_index rows other r got in
    let apart : other ≢ token = λ e. omega arith in
    let was = held other r got in
    record {
      floor = stays_beside floor_columns (old.trees 1) (new.trees 1) token other (floor_row token row) (floor_values other r) refl one.floor apart was.floor;
      drift = stays_beside drift_columns (old.trees 3) (new.trees 3) token other (drift_row token (pos 0)) (drift_values other r.drift) refl one.drift apart was.drift;
    })
    (record {
      floor = put_in floor_columns (old.trees 1) (new.trees 1) token (floor_row token row) (floor_values token row) refl (floor_shows token row) one.floor;
      drift = put_in drift_columns (old.trees 3) (new.trees 3) token (drift_row token (pos 0)) (drift_values token (pos 0)) refl refl one.drift;
    })

pub rows_none : (first : ℕ) (old : Database) → AddsRows first [] old old
rows_none first old = record {
  schema = refl;
  rows = λ earlier held counted. subst (HoldsRows old.trees) (sym (append-nil earlier)) held;
  others = λ tree apart far. refl;
}

pub next_rows : (first : ℕ) (floors : List ℕ) (i token next : ℕ) (old mid new : Database) → i < length floors → next ≡ get_or floors i next → token ≡ first + i
    → AddsRow token next mid new → AddsRows first (take i floors) old mid → AddsRows first (take (i + 1) floors) old new
next_rows first floors i token next old mid new low is numbered one was =
    let some = map opening_row (take i floors) in
    let more : map opening_row (take (i + 1) floors) ≡ some ++ opening_row next ∷ [] =
    map_more opening_row floors i next low ∙ ap (λ x. some ++ opening_row x ∷ []) (sym is) in
    let few : length some ≡ i = length-map (take i floors) opening_row ∙ length-take-le i floors (omega arith) in
    record {
      schema = one.schema ∙ was.schema;
      rows = λ earlier held counted.
          let before = earlier ++ some in
          let len : length before ≡ token = length-append earlier some ∙ omega (arith, few, counted, numbered) in
          let next_one : AddsRow (length before) next mid new = subst (λ (k : ℕ). AddsRow k next mid new) (sym len) one in
          let all : before ++ opening_row next ∷ [] ≡ earlier ++ map opening_row (take (i + 1) floors) =
          append_assoc earlier some (opening_row next ∷ []) ∙ ap (λ (l : List RowRecord). earlier ++ l) (sym more) in
          subst (HoldsRows new.trees) all (row_beside mid new before next (was.rows earlier held counted) next_one);
      others = λ tree apart far. one.others tree apart far ∙ was.others tree apart far;
    }

-- ---- the whole

module _ (s0 s1 s2 : Database) (tokens : ℕ) (floors : List ℕ) (entries : List Entry) (rows : AddsRows tokens floors s0 s1) (added : AddsEntries tokens entries s1 s2) where
  -- the row of `self` stays until its number of tokens is set
  pub self_kept : s2.trees 0 ≡ s0.trees 0
  self_kept = added.others 0 (λ (e : 0 ≡ 4). omega arith) ∙ rows.others 0 (λ (e : 0 ≡ 1). omega arith) (λ (e : 0 ≡ 3). omega arith)

  pub version_stays : HasVersion s0 (schema_of Named) 3 → HasVersion s2 (schema_of Named) 3
  version_stays it = record {
    schema = added.schema ∙ rows.schema ∙ it.schema;
    node = it.node;
    tokens = it.tokens;
    boot = it.boot;
    held = row_stays (s0.trees 0) (s2.trees 0) 1 self_columns (version_values 3 it.node it.tokens it.boot) self_kept it.held;
  }

  pub appended : (s3 : Database) → length entries ≡ length floors → SetsTokens (tokens + length floors) s2 s3 → Appends tokens floors entries s0 s3
  appended s3 paired sets c passes former own was counted =
      let it = sets.was in
      let held : HasRow (s2.trees 0) 1 self_columns (version_values 3 was.holds.node (length c.rows) c.boot) =
      row_stays (s0.trees 0) (s2.trees 0) 1 self_columns _ self_kept was.holds.self in
      let same : version_values 3 it.node it.tokens it.boot ≡ version_values 3 was.holds.node (length c.rows) c.boot = one_shown (s2.trees 0) 1 self_columns _ _ it.held held in
      let node : it.node ≡ was.holds.node = cc in
      let boot : it.boot ≡ c.boot = cc in
      let all = c.rows ++ map opening_row floors in
      let len : tokens + length floors ≡ length all = omega (arith, counted, length-append c.rows (map opening_row floors), length-map floors opening_row) in
      let row : s3.trees 0 ≡ put_row (version_row 3 was.holds.node (length all) c.boot) (without_rowid (pos 1) (s2.trees 0)) =
      sets.self ∙ (λ i. put_row (version_row 3 (node i) (len i) (boot i)) (without_rowid (pos 1) (s2.trees 0))) in
      let floor : s3.trees 1 ≡ s1.trees 1 = sets.others 1 (λ (e : 1 ≡ 0). omega arith) ∙ added.others 1 (λ (e : 1 ≡ 4). omega arith) in
      let audit : s3.trees 2 ≡ s0.trees 2 =
      sets.others 2 (λ (e : 2 ≡ 0). omega arith) ∙ added.others 2 (λ (e : 2 ≡ 4). omega arith) ∙ rows.others 2 (λ (e : 2 ≡ 1). omega arith) (λ (e : 2 ≡ 3). omega arith) in
      let drift : s3.trees 3 ≡ s1.trees 3 = sets.others 3 (λ (e : 3 ≡ 0). omega arith) ∙ added.others 3 (λ (e : 3 ≡ 4). omega arith) in
      let before : s1.trees 4 ≡ s0.trees 4 = rows.others 4 (λ (e : 4 ≡ 1). omega arith) (λ (e : 4 ≡ 3). omega arith) in
      let names : s3.trees 4 ≡ s2.trees 4 = sets.others 4 (λ (e : 4 ≡ 0). omega arith) in
      let bond : s3.trees 5 ≡ s0.trees 5 =
      sets.others 5 (λ (e : 5 ≡ 0). omega arith) ∙ added.others 5 (λ (e : 5 ≡ 4). omega arith) ∙ rows.others 5 (λ (e : 5 ≡ 1). omega arith) (λ (e : 5 ≡ 3). omega arith) in
      let roster : HoldsRoster s1.trees former = λ token entry got. row_stays (s0.trees 4) (s1.trees 4) token entry_columns (entry_values token entry) before (was.roster token entry got) in
      let both : HoldsRoster s2.trees (former ++ entries) = added.roster former roster (was.counted ∙ counted) in (
        record {
          schema = sets.schema ∙ added.schema ∙ rows.schema ∙ was.schema;
          holds = record {
            rows = rows_stay s1.trees s3.trees all floor drift (rows.rows c.rows was.holds.rows counted);
            node = was.holds.node;
            self = put_in self_columns (without_rowid (pos 1) (s2.trees 0)) (s3.trees 0) 1 (version_row 3 was.holds.node (length all) c.boot) (version_values 3 was.holds.node (length all) c.boot) refl refl row;
            pass = passes_stay s0.trees s3.trees passes audit was.holds.pass;
            last = was.holds.last;
          };
          roster = λ token entry got. row_stays (s2.trees 4) (s3.trees 4) token entry_columns (entry_values token entry) names (both token entry got);
          counted = omega (arith, was.counted, paired, length-append former entries, length-append c.rows (map opening_row floors), length-map floors opening_row);
          bond = row_stays (s0.trees 5) (s3.trees 5) 1 bond_columns (bond_values own) bond was.bond;
        },
        refl,
      )

-- rows are put, and further ones are appended
pub grown : (tokens count : ℕ) (puts : List Put) (floors : List ℕ) (entries : List Entry) (old mid new : Database) → MakesPuts count puts old mid
    → KeepsOneRows old.trees mid.trees → Appends tokens floors entries mid new → Grows tokens count puts floors entries old new
grown tokens count puts floors entries old mid new made keeps appends c passes former own was long counted =
    let it = made Named c passes was.schema was.holds counted in
    let rows : length (with_puts c puts).rows ≡ length c.rows = length_with_puts c puts in
    let mid_held : HoldsNamed mid (with_puts c puts) (passes ++ passes_in puts) former own = record {
      schema = it.0;
      holds = it.1;
      roster = λ token entry got. row_stays (old.trees 4) (mid.trees 4) token entry_columns (entry_values token entry) (keeps.others 4 (omega arith)) (was.roster token entry got);
      counted = was.counted ∙ sym rows;
      bond = row_stays (old.trees 5) (mid.trees 5) 1 bond_columns (bond_values own) (keeps.others 5 (omega arith)) was.bond;
    } in
    let values : version_values 3 it.1.node (length (with_puts c puts).rows) (with_puts c puts).boot ≡ version_values 3 was.holds.node (length c.rows) c.boot =
    one_shown (mid.trees 0) 1 self_columns _ _ it.1.self (row_stays (old.trees 0) (mid.trees 0) 1 self_columns (version_values 3 was.holds.node (length c.rows) c.boot) keeps.self was.holds.self) in
    let node : it.1.node ≡ was.holds.node = cc in
    let last = appends (with_puts c puts) (passes ++ passes_in puts) former own mid_held (rows ∙ long) in
    (last.0, last.1 ∙ node)

-- no rows are put, and further ones are appended
grown_alone : (tokens count : ℕ) (puts : List Put) (floors : List ℕ) (entries : List Entry) (old new : Database) → length puts ≡ 0
    → Appends tokens floors entries old new → Grows tokens count puts floors entries old new
grown_alone tokens count [] floors entries old new none appends c passes former own was long counted =
    subst (λ (all : List PassRecord). (now : HoldsNamed new (with_floors floors c) all (former ++ entries) own) × (now.holds.node ≡ was.holds.node))
    (sym (append-nil passes)) (appends c passes former own was long)
grown_alone tokens count (put ∷ puts) floors entries old new none appends c passes former own was long counted = absurd (omega (arith, none))

-- what a result has, and what follows
on_ok : {A : Type 0} (r : Result A Refusal) {P Q : Type 0} → (P → Q) → OnOk r P → OnOk r Q
on_ok (Ok a) f p = f p
on_ok (Err e) f p = tt

if_err : {A : Type 0} (r : Result A Refusal) {P Q : Refusal → Type 0} → ((e : Refusal) → P e → Q e) → IfErr r P → IfErr r Q
if_err (Ok a) f p = tt
if_err (Err e) f p = f e p

pub only_grows : {S A : Type 0} (g : Ghosts S) (tokens count : ℕ) (puts : List Put) (floors : List ℕ) (entries : List Entry) {old new : Transaction S}
    {r : Result A Refusal} → length puts ≡ 0
    → Changes g old new (Appends tokens floors entries) (λ db. ¬ HasOneRow (rows_of self db.trees) 1) r
    → Changes g old new (Grows tokens count puts floors entries) (LacksOne puts) r
only_grows g tokens count puts floors entries {old} {new} {r} none it = record {
  steps = it.steps;
  made = λ clean. on_ok r (grown_alone tokens count puts floors entries (state g old.conn.now).now (state g new.conn.now).now none) (it.made clean);
  unusable = λ clean. if_err r (λ e lacks same. record { is = λ rows. lacks same }) (it.unusable clean);
}

pub version_kept : (count : ℕ) (puts : List Put) (old mid : Database) → CanPut old count puts → MakesPuts count puts old mid → KeepsOneRows old.trees mid.trees
    → HasVersion old (schema_of Named) 3 → HasVersion mid (schema_of Named) 3
version_kept count puts old mid can made keeps it = record {
  schema = (made can.format can.content can.passes can.schema can.holds can.counted).0 ∙ sym can.schema ∙ it.schema;
  node = it.node;
  tokens = it.tokens;
  boot = it.boot;
  held = row_stays (old.trees 0) (mid.trees 0) 1 self_columns (version_values 3 it.node it.tokens it.boot) keeps.self it.held;
}

pub enrolled : (node tokens count : ℕ) (puts : List Put) (floors : List ℕ) (entries : List Entry) (old new : Database) → IsStoreOf Named old node tokens
    → Grows tokens count puts floors entries old new → Enrols node tokens count puts floors entries old new
enrolled node tokens count puts floors entries old new was grows = record {
  was = was;
  same = λ c passes former own held numbered.
      let values : version_values 3 node tokens was.boot ≡ version_values 3 held.holds.node (length c.rows) c.boot = one_shown (old.trees 0) 1 self_columns _ _ was.self held.holds.self in
      let of_node : held.holds.node ≡ node = cc in
      let counted : length c.rows ≡ tokens = cc in
      let it = grows c passes former own held counted numbered in
      (it.0, it.1 ∙ of_node);
}
