-- What the queries say of the tables of names.
use Rattle.std.proofs.Common.{◌≡◌, ℕ, pos, List, [], ◌∷◌, ◌++◌, length, inl, inr, refl, sym, ap, subst, ◌∙◌}
use Rattle.sqlite.specs.declared.types.Value.TheVariants.{Null, Int}
use Rattle.sqlite.specs.Order.{Row}
use Rattle.sqlite.specs.Query.{IsAnswer}
use Rattle.sqlite.specs.Program.{overlay}
use Rattle.sqlite.specs.Tree.{Trees, has_rowid}
use Rattle.sqlite.specs.State.{State, Shown}
use Rattle.sqlite.proofs.Callers.{reads_as}
use Rattle.floor_sql.specs.Schema.{schema_of}
use Rattle.floor_sql.specs.Usable.{HasOnly}
use Rattle.floor_sql.specs.declared.schema.Format.TheVariants.{Named}
use Rattle.floor_sql.proofs.ReadLemmas.{by_one_picks, by_param_picks, find_same, get_more, shown_row}
use Rattle.floor_sql.proofs.TextLemmas.{by_one, by_param}
use Rattle.floor_sql.proofs.UpdateLemmas.{picks}
use Rattle.floor_sql.proofs.UsableLemmas.{filter_same, only_shown}
use Rattle.roster_sql.specs.Read.{bond_shown, entry_shown}
use Rattle.roster_sql.specs.Roster.{BondRecord, HoldsBond, HoldsEntry, HoldsRoster, bond_columns, bond_values, entry_columns, entry_values}
use Rattle.roster_sql.specs.Text.{select_bond, select_entry}
use Rattle.roster_sql.specs.declared.entry.Entry.{Entry}
use Rattle.roster_sql.proofs.TextLemmas.{bond_query, bond_read, entry_query, entry_read, select_entry_is, select_entry_plain, select_bond_is, select_bond_plain}

pub entry_held : (old new : State) (rows : List Row) (shown : Row) (token : ℕ) (entry : Entry) → old.now.schema ≡ schema_of Named
    → Shown select_entry (Int (pos token) ∷ []) old new rows → rows ≡ shown ∷ [] → entry_shown shown ≡ entry_values token entry
    → HoldsEntry old.now.trees token entry
entry_held old new rows shown token entry has h one values =
    let db = old.now.trees in
    let params : Row = Int (pos token) ∷ [] in
    let read = reads_as select_entry params old new (schema_of Named) has _ select_entry_is.0 select_entry_plain select_entry_is.1 rows h in
    let a : IsAnswer entry_query (overlay db []) params (shown ∷ []) = subst (IsAnswer entry_query (overlay db []) params) one (read.answer Null) in
    let it = shown_row by_param entry_read params 4 db shown refl a in
    record {
      found = it.0;
      place = sym (find_same (picks by_param params) (has_rowid (pos token)) (by_param_picks (pos token) []) (db 4)) ∙ it.1;
      shows = ap entry_shown (sym it.2) ∙ values;
    }

pub entry_shows : (old new : State) (rows : List Row) (token : ℕ) (values : Row) → old.now.schema ≡ schema_of Named → Shown select_entry (Int (pos token) ∷ []) old new rows
    → HasOnly (old.now.trees 4) token entry_columns values → (shown : Row) × (rows ≡ shown ∷ []) × (entry_shown shown ≡ values)
entry_shows old new rows token values has h it =
    let db = old.now.trees in
    let params : Row = Int (pos token) ∷ [] in
    let read = reads_as select_entry params old new (schema_of Named) has _ select_entry_is.0 select_entry_plain select_entry_is.1 rows h in
    let one = filter_same (picks by_param params) (has_rowid (pos token)) (by_param_picks (pos token) []) (db 4) ∙ it.only in
    (entry_columns it.found, only_shown by_param entry_read params 4 db rows it.found refl (read.answer Null) one, it.shows)

pub roster_more : (trees : Trees) (entries : List Entry) (entry : Entry) → HoldsRoster trees entries → HoldsEntry trees (length entries) entry → HoldsRoster trees (entries ++ entry ∷ [])
roster_more trees entries entry held more token other got = elim (get_more entries entry other token got) [
  | inl there ↦ held token other there
  | inr last ↦
      subst (HoldsEntry trees token) last.1 (subst (λ (t : ℕ). HoldsEntry trees t entry) (sym last.0) more)
]

-- ---- the row of `bond`

pub bond_held : (old new : State) (rows : List Row) (shown : Row) (own : BondRecord) → old.now.schema ≡ schema_of Named
    → Shown select_bond [] old new rows → rows ≡ shown ∷ [] → bond_shown shown ≡ bond_values own
    → HoldsBond old.now.trees own
bond_held old new rows shown own has h one values =
    let db = old.now.trees in
    let read = reads_as select_bond [] old new (schema_of Named) has _ select_bond_is.0 select_bond_plain select_bond_is.1 rows h in
    let a : IsAnswer bond_query (overlay db []) [] (shown ∷ []) = subst (IsAnswer bond_query (overlay db []) []) one (read.answer Null) in
    let it = shown_row by_one bond_read [] 5 db shown refl a in
    record {
      found = it.0;
      place = sym (find_same (picks by_one []) (has_rowid (pos 1)) (by_one_picks []) (db 5)) ∙ it.1;
      shows = ap bond_shown (sym it.2) ∙ values;
    }

pub bond_shows : (old new : State) (rows : List Row) (values : Row) → old.now.schema ≡ schema_of Named → Shown select_bond [] old new rows
    → HasOnly (old.now.trees 5) 1 bond_columns values → (shown : Row) × (rows ≡ shown ∷ []) × (bond_shown shown ≡ values)
bond_shows old new rows values has h it =
    let db = old.now.trees in
    let read = reads_as select_bond [] old new (schema_of Named) has _ select_bond_is.0 select_bond_plain select_bond_is.1 rows h in
    let one = filter_same (picks by_one []) (has_rowid (pos 1)) (by_one_picks []) (db 5) ∙ it.only in
    (bond_columns it.found, only_shown by_one bond_read [] 5 db rows it.found refl (read.answer Null) one, it.shows)
