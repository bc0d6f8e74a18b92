-- What the statements make that give the tokens of a store names.
use Rattle.std.proofs.Common.{◌≡◌, ◌≢◌, ◌⊎◌, ℕ, zero, suc, pos, ◌+◌, List, [], ◌∷◌, ◌++◌, length, take, get_or, slice_get, ◌<◌, false, None, Some, inl, inr, Ok, Err, Result, IsOk, refl, sym, ap, subst, ◌∙◌, arith, append_assoc, append-nil, length-append}
use Rattle.std.proofs.lemmas.List.{length-take-le}
use Rattle.std.proofs.lemmas.Option.{slice_get-get_or}
use Rattle.sqlite.specs.declared.types.Value.TheVariants.{Null, Int, Blob}
use Rattle.sqlite.specs.Source.TheVariants.{Values}
use Rattle.sqlite.specs.Command.TheVariants.{Insert, Update, CreateTable}
use Rattle.sqlite.specs.Edit.{edit_of, edited, put_all, Applies}
use Rattle.sqlite.specs.Rowids.TheVariants.{Chosen, Given}
use Rattle.sqlite.specs.Does.{Tally, Does, lacks_sequence}
use Rattle.sqlite.specs.Change.{created, next_tree, KeepsRows}
use Rattle.sqlite.specs.Schema.{Schema}
use Rattle.sqlite.specs.Rows.{Written}
use Rattle.sqlite.specs.Order.{Row, column}
use Rattle.sqlite.specs.Table.{Table}
use Rattle.sqlite.specs.Term.{eval_all}
use Rattle.sqlite.specs.Query.{IsAnswer}
use Rattle.sqlite.specs.Program.{overlay}
use Rattle.sqlite.specs.Tree.{Trees, rowid, has_rowid, put_row, without_rowid}
use Rattle.sqlite.specs.Effect.{Database}
use Rattle.sqlite.specs.Listing.{understood}
use Rattle.sqlite.specs.State.{State, mode_of, Writes, Executes, ExecutesInside}
use Rattle.sqlite.specs.Compile.{table_defined_by}
use Rattle.sqlite.proofs.Callers.{statement_of, runs_as, one_step}
use Rattle.sqlite_rules.specs.Calls.{ids_of}
use Rattle.sqlite_rules.proofs.ListLemmas.{has_found}
use Rattle.sqlite_schema.specs.declared.schema.Keys.TheVariants.{Enforced}
use Rattle.floor_store.specs.declared.fault.StoreFault.{StoreFault}
use Rattle.floor_store.specs.declared.fault.StoreFault.TheVariants.{Unusable}
use Rattle.floor_sql.specs.Refusals.{IsFaultOf, ChangesNotOne}
use Rattle.floor_sql.specs.Schema.{self, roster, bond, floor_schema, schema_of}
use Rattle.floor_sql.specs.Stored.{HasOneRow, HasRow, HasVersion, version_row}
use Rattle.floor_sql.specs.declared.schema.Format.TheVariants.{Named}
use Rattle.floor_sql.proofs.BootLemmas.{picks_one}
use Rattle.floor_sql.proofs.HoldLemmas.{put_in, stays_beside}
use Rattle.floor_sql.proofs.ListLemmas.{only}
use Rattle.floor_sql.proofs.ReadLemmas.{by_one_picks}
use Rattle.floor_sql.proofs.RefusalLemmas.{never_of_text}
use Rattle.floor_sql.proofs.TextLemmas.{by_one, plain_program}
use Rattle.floor_sql.proofs.UpdateLemmas.{picks, changed_row, updated, went, same_value, cast_int, cast_null}
use Rattle.floor_sql.proofs.UsableLemmas.{only_shown, filter_same}
use Rattle.roster_sql.specs.Made.{AddsBond, AddsEntries, AddsEntry, MakesBond, MakesRoster, RaisesVersion, roster_schema}
use Rattle.roster_sql.specs.Roster.{BondRecord, HoldsRoster, entry_columns, entry_row, entry_values, bond_row}
use Rattle.roster_sql.specs.Text.{create_roster, create_bond, insert_entry, insert_bond, update_version}
use Rattle.roster_sql.specs.declared.entry.Entry.{Entry}
use Rattle.roster_sql.proofs.TextLemmas.{create_roster_is, create_roster_plain, create_bond_is, create_bond_plain, entry_terms, insert_entry_is, insert_entry_plain, bond_terms, insert_bond_is, insert_bond_plain, version_terms, version_query, update_version_is, update_version_plain}

-- ---- the tables

pub creates_roster : (old new : State) (count : ℕ) → old.now.schema ≡ floor_schema → Executes create_roster [] old new (Ok count) → MakesRoster old.now new.now
creates_roster old new count has h =
    let w = subst (λ t. Writes old new None CreateTable t [] count) create_roster_is.1 (runs_as create_roster [] old new floor_schema has CreateTable create_roster_is.0 create_roster_plain count h) in
    let all = went w.changed in
    let first = went all.1 in
    let made = first.1 in
    let both : ◌≡◌ {A = Result Table _} (Ok made.table) (Ok (record roster { tree = 0 })) = sym made.defined ∙ create_roster_is.2 in
    let same : made.table ≡ (record roster { tree = 0 }) = same_value both in
    let schema : first.0.schema ≡ roster_schema = made.is ∙ ap (λ s. created s made.table) has ∙ ap (created floor_schema) same in
    let plain : lacks_sequence first.0.schema ≡ false = ap lacks_sequence schema in
    let now : new.now ≡ first.0 = ap (λ (p : Tally × Database). p.1) (same_value all.2) ∙ same_value (rw plain at first.2) in
    let others = subst (λ (s : Schema). KeepsRows s.tables old.now.trees first.0.trees) has made.others in
    record {
      schema = ap (λ (d : Database). d.schema) now ∙ schema;
      kept = record {
        self = ap (λ (d : Database). d.trees 0) now ∙ others.0;
        floor = ap (λ (d : Database). d.trees 1) now ∙ others.1.0;
        pass = ap (λ (d : Database). d.trees 2) now ∙ others.1.1.0;
        drift = ap (λ (d : Database). d.trees 3) now ∙ others.1.1.1.0;
      };
      roster = ap (λ (d : Database). d.trees 4) now ∙ subst (λ s. first.0.trees (next_tree s) ≡ []) has made.empty;
    }

pub creates_bond : (old new : State) (count : ℕ) → old.now.schema ≡ roster_schema → Executes create_bond [] old new (Ok count) → MakesBond old.now new.now
creates_bond old new count has h =
    let w = subst (λ t. Writes old new None CreateTable t [] count) create_bond_is.1 (runs_as create_bond [] old new roster_schema has CreateTable create_bond_is.0 create_bond_plain count h) in
    let all = went w.changed in
    let first = went all.1 in
    let made = first.1 in
    let both : ◌≡◌ {A = Result Table _} (Ok made.table) (Ok (record bond { tree = 0 })) = sym made.defined ∙ create_bond_is.2 in
    let same : made.table ≡ (record bond { tree = 0 }) = same_value both in
    let schema : first.0.schema ≡ schema_of Named = made.is ∙ ap (λ s. created s made.table) has ∙ ap (created roster_schema) same in
    let plain : lacks_sequence first.0.schema ≡ false = ap lacks_sequence schema in
    let now : new.now ≡ first.0 = ap (λ (p : Tally × Database). p.1) (same_value all.2) ∙ same_value (rw plain at first.2) in
    let others = subst (λ (s : Schema). KeepsRows s.tables old.now.trees first.0.trees) has made.others in
    record {
      schema = ap (λ (d : Database). d.schema) now ∙ schema;
      kept = record {
        self = ap (λ (d : Database). d.trees 0) now ∙ others.0;
        floor = ap (λ (d : Database). d.trees 1) now ∙ others.1.0;
        pass = ap (λ (d : Database). d.trees 2) now ∙ others.1.1.0;
        drift = ap (λ (d : Database). d.trees 3) now ∙ others.1.1.1.0;
      };
      roster = ap (λ (d : Database). d.trees 4) now ∙ others.1.1.1.1.0;
      bond = ap (λ (d : Database). d.trees 5) now ∙ subst (λ s. first.0.trees (next_tree s) ≡ []) has made.empty;
    }

-- ---- their rows

pub entry_added : (old new : State) (token : ℕ) (entry : Entry) (count : ℕ) → old.now.schema ≡ schema_of Named
    → Executes insert_entry (entry_values token entry) old new (Ok count) → AddsEntry token entry old.now new.now
entry_added old new token entry count has h =
    let values : Row = entry_values token entry in
    let row : Row = entry_row token entry in
    let db = old.now.trees in
    let command = Insert 4 (Values entry_terms 4) in
    let w = runs_as insert_entry values old new (schema_of Named) has command insert_entry_is insert_entry_plain count h in
    let text = statement_of insert_entry (understood (schema_of Named) insert_entry) in
    let done = went (subst (λ s. Does old.step_limit (mode_of old) values (record old.now { schema = s }) text None command (Ok (w.tally, new.now))) has w.changed) in
    let now = ap (λ (p : Tally × Database). p.1) (same_value (went (went done.2).2).2) in
    let given = went done.1 in
    let written = went (went given.2).2 in
    let counted = went written.2 in
    let trees : written.0 ≡ new.now.trees = sym (ap (λ (d : Database). d.trees) now ∙ ap (λ (it : Written). it.trees) (same_value counted.2) ∙ same_value counted.1) in
    let made = edit_of db roster [] Chosen 0 given.0 in
    let applies = subst (Applies (schema_of Named) Enforced db made) trees (one_step (schema_of Named) Enforced db written.0 made refl written.1) in
    let news : made.news ≡ row ∷ [] = ap (λ all. (edit_of db roster [] Chosen 0 all).news) given.1.1 ∙ rw (cast_null, cast_int (pos token)) in
    let rows : new.now.trees 4 ≡ put_row row (db 4) = applies.rows ∙ ap (put_all (db 4)) news in
    record {
      schema = ap (λ (d : Database). d.schema) now ∙ sym has;
      roster = rows;
      others = λ tree apart. applies.others tree apart tt;
    }

pub bond_added : (old new : State) (own : BondRecord) (count : ℕ) → old.now.schema ≡ schema_of Named
    → Executes insert_bond (Blob own.names ∷ Blob own.life ∷ Int (pos own.members) ∷ []) old new (Ok count) → AddsBond own old.now new.now
bond_added old new own count has h =
    let values : Row = Blob own.names ∷ Blob own.life ∷ Int (pos own.members) ∷ [] in
    let row : Row = bond_row own in
    let db = old.now.trees in
    let command = Insert 5 (Values bond_terms 5) in
    let w = runs_as insert_bond values old new (schema_of Named) has command insert_bond_is insert_bond_plain count h in
    let text = statement_of insert_bond (understood (schema_of Named) insert_bond) in
    let done = went (subst (λ s. Does old.step_limit (mode_of old) values (record old.now { schema = s }) text None command (Ok (w.tally, new.now))) has w.changed) in
    let now = ap (λ (p : Tally × Database). p.1) (same_value (went (went done.2).2).2) in
    let given = went done.1 in
    let written = went (went given.2).2 in
    let counted = went written.2 in
    let trees : written.0 ≡ new.now.trees = sym (ap (λ (d : Database). d.trees) now ∙ ap (λ (it : Written). it.trees) (same_value counted.2) ∙ same_value counted.1) in
    let made = edit_of db bond [] Chosen 0 given.0 in
    let applies = subst (Applies (schema_of Named) Enforced db made) trees (one_step (schema_of Named) Enforced db written.0 made refl written.1) in
    let news : made.news ≡ row ∷ [] = ap (λ all. (edit_of db bond [] Chosen 0 all).news) given.1.1 ∙ rw (cast_null, cast_int (pos 1), cast_int (pos own.members)) in
    let rows : new.now.trees 5 ≡ put_row row (db 5) = applies.rows ∙ ap (put_all (db 5)) news in
    record {
      schema = ap (λ (d : Database). d.schema) now ∙ sym has;
      bond = rows;
      others = λ tree apart. applies.others tree apart tt;
    }

-- ---- the version

pub version_raised : (old new : State) → HasVersion old.now (schema_of Named) 2 → Executes update_version [] old new (Ok 1) → RaisesVersion old.now new.now
version_raised old new it h =
    let params : Row = [] in
    let db = old.now.trees in
    let was = it.held.found in
    let shows = it.held.shows in
    let keyed : rowid was ≡ Int (pos 1) = cc in
    let node : column was 3 ≡ Int (pos it.node) = cc in
    let tokens : column was 4 ≡ Int (pos it.tokens) = cc in
    let boot : column was 5 ≡ Int (pos it.boot) = cc in
    let there = (has_found (has_rowid (pos 1)) (db 0) was it.held.place).0 in
    let w = runs_as update_version params old new (schema_of Named) it.schema (Update 0 (plain_program version_query)) update_version_is update_version_plain 1 h in
    let u = updated Named 0 self refl version_query _ params old new 1 it.schema w in
    let one = only u.shown (sym u.counted) in
    let row : one.0 ≡ eval_all version_terms (params ∷ was ∷ []) =
    changed_row by_one version_terms params 0 db was one.0 refl there (picks_one params was keyed)
    (subst (IsAnswer version_query (overlay db []) params) one.1 u.answer) in
    let out : Row = Int (pos 1) ∷ Int (pos 1) ∷ Null ∷ Int (pos 3) ∷ Int (pos it.node) ∷ Int (pos it.tokens) ∷ Int (pos it.boot) ∷ [] in
    let eval : eval_all version_terms (params ∷ was ∷ []) ≡ out = rw (keyed, node, tokens, boot) in
    let shown : u.shown ≡ out ∷ [] = one.1 ∙ ap (λ r. r ∷ []) (row ∙ eval) in
    let edit : edited db (edit_of db self (ids_of (out ∷ [])) Given 1 (out ∷ [])) ≡ put_row (version_row 3 it.node it.tokens it.boot) (without_rowid (pos 1) (db 0)) =
    rw (cast_null, cast_int (pos 1), cast_int (pos 3), cast_int (pos it.node), cast_int (pos it.tokens), cast_int (pos it.boot)) in
    record {
      schema = u.schema;
      was = it;
      self = u.applies.rows ∙ ap (λ rows. edited db (edit_of db self (ids_of rows) Given 1 rows)) shown ∙ edit;
      others = λ tree apart. u.applies.others tree apart tt;
    }

version_counted : (old new : State) (count : ℕ) → old.now.schema ≡ schema_of Named
    → Executes update_version [] old new (Ok count) → HasOneRow (old.now.trees 0) 1 → count ≡ 1
version_counted old new count has h it =
    let params : Row = [] in
    let db = old.now.trees in
    let w = runs_as update_version params old new (schema_of Named) has (Update 0 (plain_program version_query)) update_version_is update_version_plain count h in
    let u = updated Named 0 self refl version_query _ params old new count has w in
    let one = filter_same (picks by_one params) (has_rowid (pos 1)) (by_one_picks params) (db 0) ∙ it.only in
    u.counted ∙ ap length (only_shown by_one version_terms params 0 db u.shown it.found refl u.answer one)

-- ---- no refusal of one of these statements is one of its text

module _ (old new : State) (fault : StoreFault) where
  pub roster_made : old.now.schema ≡ floor_schema → IsFaultOf (λ error. ExecutesInside 0 create_roster [] old new (Err error)) fault → fault ≢ Unusable
  roster_made has cause =
      let own = subst (λ text. IsOk (table_defined_by text)) (sym create_roster_is.1) (subst IsOk (sym create_roster_is.2) refl) in
      never_of_text create_roster [] old new floor_schema has CreateTable create_roster_is.0 create_roster_plain own fault cause

  pub bond_made : old.now.schema ≡ roster_schema → IsFaultOf (λ error. ExecutesInside 0 create_bond [] old new (Err error)) fault → fault ≢ Unusable
  bond_made has cause =
      let own = subst (λ text. IsOk (table_defined_by text)) (sym create_bond_is.1) (subst IsOk (sym create_bond_is.2) refl) in
      never_of_text create_bond [] old new roster_schema has CreateTable create_bond_is.0 create_bond_plain own fault cause

  pub entry_kept : (params : Row) → old.now.schema ≡ schema_of Named → IsFaultOf (λ error. ExecutesInside 0 insert_entry params old new (Err error)) fault → fault ≢ Unusable
  entry_kept params has cause = never_of_text insert_entry params old new (schema_of Named) has (Insert 4 (Values entry_terms 4)) insert_entry_is insert_entry_plain tt fault cause

  pub bond_kept : (params : Row) → old.now.schema ≡ schema_of Named → IsFaultOf (λ error. ExecutesInside 0 insert_bond params old new (Err error)) fault → fault ≢ Unusable
  bond_kept params has cause = never_of_text insert_bond params old new (schema_of Named) has (Insert 5 (Values bond_terms 5)) insert_bond_is insert_bond_plain tt fault cause

  pub version_unusable : old.now.schema ≡ schema_of Named → ChangesNotOne update_version [] old new fault → fault ≡ Unusable → ¬ HasOneRow (old.now.trees 0) 1
  version_unusable has (inl cause) is one =
      never_of_text update_version [] old new (schema_of Named) has
      (Update 0 (plain_program version_query)) update_version_is update_version_plain tt fault cause is
  version_unusable has (inr ran) is one = ran.1 (version_counted old new ran.0 has ran.2 one)

-- ---- the entries, one after the other

get_more : (xs : List Entry) (x y : Entry) (i : ℕ) → slice_get (xs ++ x ∷ []) i ≡ Some y → (slice_get xs i ≡ Some y) ⊎ ((i ≡ length xs) × (x ≡ y))
get_more [] x y zero got = inr (refl, cc)
get_more [] x y (suc i) got = absurd (cc)
get_more (z ∷ xs) x y zero got = inl got
get_more (z ∷ xs) x y (suc i) got = elim (get_more xs x y i got) [ inl there ↦ inl there | inr last ↦ inr (ap suc last.0, last.1) ]

low_entry : (xs : List Entry) (i : ℕ) (x : Entry) → slice_get xs i ≡ Some x → i < length xs
low_entry [] i x got = absurd (cc)
low_entry (y ∷ xs) zero x got = omega arith
low_entry (y ∷ xs) (suc i) x got = let low = low_entry xs i x got in omega arith

take_next : (xs : List Entry) (i : ℕ) (x : Entry) → slice_get xs i ≡ Some x → take (suc i) xs ≡ take i xs ++ x ∷ []
take_next [] i x is = absurd (cc)
take_next (y ∷ xs) zero x is = let same : y ≡ x = cc in ap (λ (z : Entry). z ∷ []) same
take_next (y ∷ xs) (suc i) x is = ap (λ (l : List Entry). y ∷ l) (take_next xs i x is)

-- the entry at a place of the list
pub entry_at : {entry : Entry} (entries : List Entry) (i : ℕ) → i < length entries → entry ≡ get_or entries i entry → slice_get entries i ≡ Some entry
entry_at {entry} entries i inside is = slice_get-get_or entries i entry inside ∙ ap Some (sym is)

pub no_entries : (trees : Trees) → HoldsRoster trees []
no_entries trees token entry got = absurd (cc)

-- the entry of the next token goes beside the others
entry_beside : (old new : Trees) (entries : List Entry) (entry : Entry) → HoldsRoster old entries → new 4 ≡ put_row (entry_row (length entries) entry) (old 4)
    → HoldsRoster new (entries ++ entry ∷ [])
entry_beside old new entries entry held is token other got = elim (get_more entries entry other token got) [
  | inl there ↦
      let low = low_entry entries token other there in
      let apart : token ≢ length entries = λ e. omega arith in
      stays_beside entry_columns (old 4) (new 4) (length entries) token (entry_row (length entries) entry) (entry_values token other) refl is apart (held token other there)
  | inr last ↦
      let here = put_in entry_columns (old 4) (new 4) (length entries) (entry_row (length entries) entry) (entry_values (length entries) entry) refl refl is in
      subst (λ (e : Entry). HasRow (new 4) token entry_columns (entry_values token e)) last.1
      (subst (λ (t : ℕ). HasRow (new 4) t entry_columns (entry_values t entry)) (sym last.0) here)
]

pub entries_none : (first : ℕ) (old : Database) → AddsEntries first [] old old
entries_none first old = record {
  schema = refl;
  roster = λ earlier held counted. subst (HoldsRoster old.trees) (sym (append-nil earlier)) held;
  others = λ tree apart. refl;
}

pub next_entries : {entry : Entry} (first : ℕ) (entries : List Entry) (i token : ℕ) (old mid new : Database) → AddsEntry token entry mid new → slice_get entries i ≡ Some entry → token ≡ first + i
    → AddsEntries first (take i entries) old mid → AddsEntries first (take (i + 1) entries) old new
next_entries {entry} first entries i token old mid new one is numbered was =
    let low = low_entry entries i entry is in
    let more : take (i + 1) entries ≡ take i entries ++ entry ∷ [] =
    (let next : i + 1 ≡ suc i = omega arith in ap (λ (n : ℕ). take n entries) next) ∙ take_next entries i entry is in
    record {
      schema = one.schema ∙ was.schema;
      roster = λ earlier held counted.
          let before = earlier ++ take i entries in
          let len : length before ≡ token = length-append earlier (take i entries) ∙ (let few = length-take-le i entries (omega (arith, low)) in omega (arith, few, counted, numbered)) in
          let put : new.trees 4 ≡ put_row (entry_row (length before) entry) (mid.trees 4) = one.roster ∙ ap (λ (k : ℕ). put_row (entry_row k entry) (mid.trees 4)) (sym len) in
          let all : before ++ entry ∷ [] ≡ earlier ++ take (i + 1) entries = append_assoc earlier (take i entries) (entry ∷ []) ∙ ap (λ (l : List Entry). earlier ++ l) (sym more) in
          subst (HoldsRoster new.trees) all (entry_beside mid.trees new.trees before entry (was.roster earlier held counted) put);
      others = λ tree apart. one.others tree apart ∙ was.others tree apart;
    }
