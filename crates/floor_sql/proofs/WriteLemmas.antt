-- The reasons why a write of a store is refused: if exactly one row has the key, the reason is not the table.
use Rattle.std.proofs.Common.{◌≡◌, ◌≢◌, ℕ, pos, ◌∷◌, length, Ok, Err, inl, inr, refl, ap, ◌∙◌}
use Rattle.sqlite.specs.declared.types.Value.TheVariants.{Int}
use Rattle.sqlite.specs.declared.error.Error.{Error}
use Rattle.sqlite.specs.Order.{Row}
use Rattle.sqlite.specs.Tree.{has_rowid}
use Rattle.sqlite.specs.Command.TheVariants.{Update, Insert}
use Rattle.sqlite.specs.Source.TheVariants.{Values}
use Rattle.sqlite.specs.State.{State, Executes, ExecutesInside}
use Rattle.sqlite.specs.Steps.{FailsToCommit}
use Rattle.sqlite.proofs.Callers.{runs_as}
use Rattle.floor_store.specs.declared.fault.StoreFault.{StoreFault}
use Rattle.floor_store.specs.declared.fault.StoreFault.TheVariants.{Unusable}
use Rattle.floor_sql.specs.Schema.{self, floor, drift, floor_schema, schema_of, IsOfFormat}
use Rattle.floor_sql.specs.declared.schema.Format.TheVariants.{Numbered}
use Rattle.floor_sql.specs.Stored.{HasOneRow}
use Rattle.floor_sql.specs.Refusals.{fault_of, IsFaultOf, ChangesNotOne}
use Rattle.floor_sql.specs.Text.{update_floor, update_drift, update_boot, update_version, insert_pass}
use Rattle.floor_sql.proofs.TextLemmas.{by_param, by_one, changed_query, floor_terms, drift_terms, boot_terms, boot_query, version_terms, version_query, pass_terms, plain_program, update_floor_is, update_floor_plain, update_drift_is, update_drift_plain, update_boot_is, update_boot_plain, update_version_is, update_version_plain, insert_pass_is, insert_pass_plain}
use Rattle.floor_sql.proofs.UpdateLemmas.{picks, updated}
use Rattle.floor_sql.proofs.ReadLemmas.{by_param_picks, by_one_picks}
use Rattle.floor_sql.proofs.UsableLemmas.{only_shown, filter_same}
use Rattle.floor_sql.proofs.RefusalLemmas.{not_of_text, never_of_text, commit_free}

-- ---- one row is changed

floor_counted : (old new : State) (token : ℕ) (more : Row) (count : ℕ) → IsOfFormat old.now.schema
    → Executes update_floor (Int (pos token) ∷ more) old new (Ok count) → HasOneRow (old.now.trees 1) token → count ≡ 1
floor_counted old new token more count has h it =
    let params : Row = Int (pos token) ∷ more in
    let db = old.now.trees in
    let query = changed_query 1 floor_terms in
    let w = runs_as update_floor params old new (schema_of has.0) has.1 (Update 1 (plain_program query)) (update_floor_is has.0) (update_floor_plain has.0) count h in
    let u = updated has.0 1 floor refl query _ params old new count has.1 w in
    let one = filter_same (picks by_param params) (has_rowid (pos token)) (by_param_picks (pos token) more) (db 1) ∙ it.only in
    u.counted ∙ ap length (only_shown by_param floor_terms params 1 db u.shown it.found refl u.answer one)

drift_counted : (old new : State) (token : ℕ) (more : Row) (count : ℕ) → IsOfFormat old.now.schema
    → Executes update_drift (Int (pos token) ∷ more) old new (Ok count) → HasOneRow (old.now.trees 3) token → count ≡ 1
drift_counted old new token more count has h it =
    let params : Row = Int (pos token) ∷ more in
    let db = old.now.trees in
    let query = changed_query 3 drift_terms in
    let w = runs_as update_drift params old new (schema_of has.0) has.1 (Update 3 (plain_program query)) (update_drift_is has.0) (update_drift_plain has.0) count h in
    let u = updated has.0 3 drift refl query _ params old new count has.1 w in
    let one = filter_same (picks by_param params) (has_rowid (pos token)) (by_param_picks (pos token) more) (db 3) ∙ it.only in
    u.counted ∙ ap length (only_shown by_param drift_terms params 3 db u.shown it.found refl u.answer one)

self_counted : (old new : State) (params : Row) (count : ℕ) → IsOfFormat old.now.schema
    → Executes update_boot params old new (Ok count) → HasOneRow (old.now.trees 0) 1 → count ≡ 1
self_counted old new params count has h it =
    let db = old.now.trees in
    let w = runs_as update_boot params old new (schema_of has.0) has.1 (Update 0 (plain_program boot_query)) (update_boot_is has.0) (update_boot_plain has.0) count h in
    let u = updated has.0 0 self refl boot_query _ params old new count has.1 w in
    let one = filter_same (picks by_one params) (has_rowid (pos 1)) (by_one_picks params) (db 0) ∙ it.only in
    u.counted ∙ ap length (only_shown by_one boot_terms params 0 db u.shown it.found refl u.answer one)

version_counted : (old new : State) (params : Row) (count : ℕ) → old.now.schema ≡ floor_schema
    → Executes update_version params old new (Ok count) → HasOneRow (old.now.trees 0) 1 → count ≡ 1
version_counted old new params count has h it =
    let db = old.now.trees in
    let w = runs_as update_version params old new floor_schema has (Update 0 (plain_program version_query)) update_version_is update_version_plain count h in
    let u = updated Numbered 0 self refl version_query _ params old new count has w in
    let one = filter_same (picks by_one params) (has_rowid (pos 1)) (by_one_picks params) (db 0) ∙ it.only in
    u.counted ∙ ap length (only_shown by_one version_terms params 0 db u.shown it.found refl u.answer one)

-- ---- why a statement is refused

module _ (old new : State) (fault : StoreFault) (has : IsOfFormat old.now.schema) where
  pub floor_unusable : (token : ℕ) (more : Row) → ChangesNotOne update_floor (Int (pos token) ∷ more) old new fault → fault ≡ Unusable → ¬ HasOneRow (old.now.trees 1) token
  floor_unusable token more (inl cause) is one =
      never_of_text update_floor (Int (pos token) ∷ more) old new (schema_of has.0) has.1
      (Update 1 (plain_program (changed_query 1 floor_terms))) (update_floor_is has.0) (update_floor_plain has.0) tt fault cause is
  floor_unusable token more (inr ran) is one = ran.1 (floor_counted old new token more ran.0 has ran.2 one)

  pub drift_unusable : (token : ℕ) (more : Row) → ChangesNotOne update_drift (Int (pos token) ∷ more) old new fault → fault ≡ Unusable → ¬ HasOneRow (old.now.trees 3) token
  drift_unusable token more (inl cause) is one =
      never_of_text update_drift (Int (pos token) ∷ more) old new (schema_of has.0) has.1
      (Update 3 (plain_program (changed_query 3 drift_terms))) (update_drift_is has.0) (update_drift_plain has.0) tt fault cause is
  drift_unusable token more (inr ran) is one = ran.1 (drift_counted old new token more ran.0 has ran.2 one)

  pub boot_unusable : (params : Row) → ChangesNotOne update_boot params old new fault → fault ≡ Unusable → ¬ HasOneRow (old.now.trees 0) 1
  boot_unusable params (inl cause) is one = never_of_text update_boot params old new (schema_of has.0) has.1 (Update 0 (plain_program boot_query)) (update_boot_is has.0) (update_boot_plain has.0) tt fault cause is
  boot_unusable params (inr ran) is one = ran.1 (self_counted old new params ran.0 has ran.2 one)

  pub pass_kept : (params : Row) → IsFaultOf (λ error. ExecutesInside 0 insert_pass params old new (Err error)) fault → fault ≢ Unusable
  pass_kept params cause = never_of_text insert_pass params old new (schema_of has.0) has.1 (Insert 2 (Values pass_terms 7)) (insert_pass_is has.0) (insert_pass_plain has.0) tt fault cause

pub version_unusable : (old new : State) (fault : StoreFault) → old.now.schema ≡ floor_schema → (params : Row) → ChangesNotOne update_version params old new fault → fault ≡ Unusable → ¬ HasOneRow (old.now.trees 0) 1
version_unusable old new fault has params (inl cause) is one =
    never_of_text update_version params old new floor_schema has
    (Update 0 (plain_program version_query)) update_version_is update_version_plain tt fault cause is
version_unusable old new fault has params (inr ran) is one = ran.1 (version_counted old new params ran.0 has ran.2 one)

pub commit_refused : (old new : State) (e : Error) → FailsToCommit old new e → fault_of e ≢ Unusable
commit_refused old new e h = not_of_text e (commit_free old new e h)
