-- What a write makes of the small tables is computed, and is what they hold then.
use Rattle.std.proofs.Common.{◌≡◌, ◌≢◌, ◌+◌, ℕ, zero, suc, List, [], ◌∷◌, find, length, Some, None, refl, ap, sym, ◌∙◌, subst, append-nil, arith}
use Rattle.std.specs.Prelude.{ℤ, pos}
use Rattle.std.proofs.lemmas.List.Sorted.{length_permutation}
use Rattle.sqlite.specs.Order.{Row}
use Rattle.sqlite.specs.Schema.{Schema}
use Rattle.sqlite.specs.Tree.{has_rowid, without_rowid}
use Rattle.sqlite_value.specs.Order.{value_cmp}
use Rattle.floor_store.specs.Examples.{free_row}
use Rattle.floor_sql.specs.Broken.{db_at, small_content, tables_at, token_content, token_db, token_db_of, trees_of}
use Rattle.floor_sql.specs.Schema as tables
use Rattle.floor_sql.specs.Schema.{floor_schema, undrifted_schema, version_of}
use Rattle.floor_sql.specs.declared.schema.Format.TheVariants.{Numbered}
use Rattle.floor_sql.specs.Stored.{HasRow, Holds, OthersStay, IsDrifted, IsUpdated, PutsRow, drift_row, floor_columns, floor_row, floor_values, self_row, version_row}
use Rattle.floor_sql.proofs.BrokenLemmas.{none_holds, own_row_has, own_row_is, token_holds}
use Rattle.floor_sql.proofs.ContentLemmas.{puts}
use Rattle.floor_sql.proofs.RowLemmas.{find-put_row}
use Rattle.floor_sql.proofs.laws.writes_can_be_broken.Goals as goal

-- all tables but `floor` stay, and all but `drift`
but_floor : (self old new pass drift : List Row) (tree : ℕ) → tree ≢ 1
    → trees_of self new pass drift tree ≡ trees_of self old pass drift tree
but_floor self old new pass drift zero differs = refl
but_floor self old new pass drift (suc zero) differs = absurd (differs refl)
but_floor self old new pass drift (suc (suc tree)) differs = refl

but_drift : (self floor pass old new : List Row) (tree : ℕ) → tree ≢ 3
    → trees_of self floor pass new tree ≡ trees_of self floor pass old tree
but_drift self floor pass old new zero differs = refl
but_drift self floor pass old new (suc zero) differs = refl
but_drift self floor pass old new (suc (suc zero)) differs = refl
but_drift self floor pass old new (suc (suc (suc zero))) differs = absurd (differs refl)
but_drift self floor pass old new (suc (suc (suc (suc tree)))) differs = refl

-- the row of the token is changed, and its drift
is_updated : IsUpdated 0 (floor_row 0 (free_row 10)) token_db (token_db_of (free_row 10) (pos 0))
unfolding value_cmp lib.Ieee.is_nan lib.Ieee.lt
is_updated = record {
  schema = refl;
  floor = refl;
  others = but_floor (self_row 1 1 4 ∷ []) (floor_row 0 (free_row 9) ∷ []) (floor_row 0 (free_row 10) ∷ []) [] (drift_row 0 (pos 0) ∷ []);
}

is_drifted : (next : ℕ) (steps : ℤ) → IsDrifted 0 steps (token_db_of (free_row next) (pos 0)) (token_db_of (free_row next) steps)
unfolding value_cmp lib.Ieee.is_nan lib.Ieee.lt
is_drifted next steps = record {
  schema = refl;
  drift = refl;
  others = but_drift (self_row 1 1 4 ∷ []) (floor_row 0 (free_row next) ∷ []) [] (drift_row 0 (pos 0) ∷ []) (drift_row 0 steps ∷ []);
}

pub returns-clause-updated : goal.returns-clause-updated
returns-clause-updated c = is_updated

pub returns-clause-updated_floor : goal.returns-clause-updated_floor
unfolding value_cmp lib.Ieee.is_nan lib.Ieee.lt
returns-clause-updated_floor c = λ next h.
    let rows : floor_row 0 (free_row next) ∷ [] ≡ floor_row 0 (free_row (next + 1)) ∷ [] = h.floor in
    let e : next ≡ next + 1 = cc in
    omega (arith, e)

-- the drift of the token doesn't stay
no_drift_stays : (next : ℕ) → OthersStay tables.floor token_db.trees (token_db_of (free_row next) (pos 1)).trees → ⊥
no_drift_stays next others =
    let rows : drift_row 0 (pos 1) ∷ [] ≡ drift_row 0 (pos 0) ∷ [] = others 3 (λ e. omega (arith, e)) in absurd cc

pub returns-clause-updated_others : goal.returns-clause-updated_others
returns-clause-updated_others c = λ next h. no_drift_stays next h.others

pub returns-clause-drifted : goal.returns-clause-drifted
returns-clause-drifted c = is_drifted 9 (pos 1)

pub returns-clause-drifted_drift : goal.returns-clause-drifted_drift
unfolding value_cmp lib.Ieee.is_nan lib.Ieee.lt
returns-clause-drifted_drift c h =
    let rows : drift_row 0 (pos 0) ∷ [] ≡ drift_row 0 (pos 1) ∷ [] = h.drift in absurd cc

-- the token's row in `floor` doesn't stay either
no_floor_stays : (steps : ℤ) → OthersStay tables.drift token_db.trees (token_db_of (free_row 10) steps).trees → ⊥
no_floor_stays steps others =
    let rows : floor_row 0 (free_row 10) ∷ [] ≡ floor_row 0 (free_row 9) ∷ [] = others 1 (λ e. omega (arith, e)) in absurd cc

pub returns-clause-drifted_others : goal.returns-clause-drifted_others
returns-clause-drifted_others c = λ steps h. no_floor_stays steps h.others

pub returns-clause-made : goal.returns-clause-made
returns-clause-made c = λ format content passes schema held counted.
    let change : PutsRow 0 (free_row 10) token_db (token_db_of (free_row 10) (pos 0)) =
    (token_db_of (free_row 10) (pos 0), is_updated, is_drifted 10 (pos 0)) in
    puts 0 (free_row 10) 0 None content format token_db (token_db_of (free_row 10) (pos 0)) passes schema held counted change

pub returns-clause-made_schema : goal.returns-clause-made_schema
returns-clause-made_schema c = λ boot h.
    let made : (undrifted_schema ≡ floor_schema) × Holds Numbered (tables_at boot []) (small_content boot) [] =
    h Numbered (small_content boot) [] refl (none_holds boot) refl in
    let schema = made.0 in
    let tables : 3 ≡ 4 = ap (λ (schema : Schema). length schema.tables) schema in
    omega (arith, tables)

-- the row of a free factor is found with its next one
next_is : (next other : ℕ) → HasRow (floor_row 0 (free_row next) ∷ []) 0 floor_columns (floor_values 0 (free_row other)) → next ≡ other
unfolding value_cmp lib.Ieee.is_nan lib.Ieee.lt
next_is next other h =
    let one : Some (floor_row 0 (free_row next)) ≡ Some h.found = h.place in
    let found : floor_row 0 (free_row next) ≡ h.found = cc in
    let shows : floor_values 0 (free_row next) ≡ floor_values 0 (free_row other) = ap floor_columns found ∙ h.shows in
    cc

pub returns-clause-made_content : goal.returns-clause-made_content
returns-clause-made_content c = λ next h.
    let held : Holds Numbered token_db.trees (token_content (free_row (next + 10))) [] =
    (h Numbered (token_content (free_row 9)) [] refl token_holds refl).1 in
    let same = next_is 9 (next + 10) (held.rows 0 (free_row (next + 10)) refl).floor in
    omega (arith, same)

pub returns-clause-made_pass : goal.returns-clause-made_pass
returns-clause-made_pass c h =
    let lengths : 1 ≡ 0 = length_permutation _ _ (h Numbered (small_content 4) [] refl (none_holds 4) refl).1.pass in
    omega (arith, lengths)

-- the rows of `self` are no other table's
but_self : (old new : List Row) (tree : ℕ) → tree ≢ 0 → trees_of new [] [] [] tree ≡ trees_of old [] [] [] tree
but_self old new zero differs = absurd (differs refl)
but_self old new (suc tree) differs = refl

pub returns-clause-raised : goal.returns-clause-raised
unfolding value_cmp lib.Ieee.is_nan lib.Ieee.lt
returns-clause-raised c = (
  db_at 4 [],
  λ format content passes schema held counted. (schema, subst (Holds format (db_at 4 []).trees content) (sym (append-nil passes)) held),
  record {
    schema = refl;
    was = (Numbered, record { schema = refl; node = 1; tokens = 0; boot = 4; held = own_row_has 2 1 0 4 });
    self = refl;
    others = but_self (self_row 1 0 4 ∷ []) (self_row 1 0 5 ∷ []);
  },
)

pub returns-clause-not_raised : goal.returns-clause-not_raised
unfolding value_cmp lib.Ieee.is_nan lib.Ieee.lt
returns-clause-not_raised c = λ boot h.
    let row = version_row (version_of h.2.was.0) h.2.was.1.node h.2.was.1.tokens (boot + 1) in
    let found : Some (self_row 1 0 boot) ≡ Some row =
    ap (find (has_rowid (pos 1))) h.2.self ∙ find-put_row (pos 1) row refl (without_rowid (pos 1) (h.0.trees 0)) in
    let e : boot ≡ boot + 1 = cc in
    omega (arith, e)

pub returns-clause-raised_unasked : goal.returns-clause-raised_unasked
returns-clause-raised_unasked c h =
    let held = (h Numbered (small_content 4) [] refl (none_holds 4) refl).1 in
    let boot = (own_row_is 2 1 0 5 2 held.node 0 4 held.self).3 in
    omega (arith, boot)
