-- A key that just one row has, before and after a put.
use Rattle.std.proofs.Common.{◌≡◌, ◌≢◌, ℕ, ℤ, pos, ◌<◌, Bool, true, false, not, cond, List, [], ◌∷◌, filter, Option, None, Some, Ordering, Less, Equal, Greater, is_eq, refl, sym, ap, ◌∙◌, subst, inl, inr, arith}
use Rattle.sqlite.specs.declared.types.Value.TheVariants.{Int}
use Rattle.sqlite.specs.Order.{Row, value_cmp}
use Rattle.sqlite_trees.specs.Tree.{Trees, rowid, has_rowid, put_row, without_rowid}
use Rattle.sqlite.specs.Effect.{Database}
use Rattle.floor_store.specs.Records.{RowRecord, PassRecord}
use Rattle.floor_sql.specs.Staged.{KeepsOneRows}
use Rattle.floor_sql.specs.Stored.{HasOneRow, Puts, PutsRow, floor_row, drift_row}
use Rattle.floor_sql.proofs.HoldLemmas.{same_or_not}
use Rattle.floor_sql.proofs.RowLemmas.{Put, finds_new, not_other}

module _ (id : ℤ) where
  -- none has the key of the row that is taken out
  filter-without_rowid : (rows : List Row) → filter (has_rowid id) (without_rowid id rows) ≡ []
  filter-without_rowid [] = refl
  filter-without_rowid (r ∷ rows) = go (has_rowid id r) refl (filter-without_rowid rows)
    where
      go : (b : Bool) → has_rowid id r ≡ b → filter (has_rowid id) (without_rowid id rows) ≡ [] → filter (has_rowid id) (cond (not b) (r ∷ without_rowid id rows) (without_rowid id rows)) ≡ []
      go true is later = later
      go false is later = rw (is, later)

  module _ (new : Row) (keyed : rowid new ≡ Int id) where
    -- the row that is put is the only one with its key
    filter-put_row : (rows : List Row) → filter (has_rowid id) rows ≡ [] → filter (has_rowid id) (put_row new rows) ≡ new ∷ []
    filter-put_row [] none = rw (finds_new id new keyed)
    filter-put_row (r ∷ rows) none = split (has_rowid id r) refl none (filter-put_row rows)
      where
        go : (o : Ordering) → value_cmp (rowid r) (rowid new) ≡ o → has_rowid id r ≡ false → filter (has_rowid id) rows ≡ []
            → filter (has_rowid id) (put_row new rows) ≡ new ∷ [] → filter (has_rowid id) (Put o new r rows) ≡ new ∷ []
        go Less is other rest later = rw (other, later)
        go Equal is other rest later =
            let also : has_rowid id r ≡ true = ap (λ v. is_eq (value_cmp (rowid r) v)) (sym keyed) ∙ ap is_eq is in
            let never : true ≡ false = sym also ∙ other in absurd (cc)
        go Greater is other rest later = rw (finds_new id new keyed, other, rest)

        split : (b : Bool) → has_rowid id r ≡ b → cond b (r ∷ filter (has_rowid id) rows) (filter (has_rowid id) rows) ≡ []
            → (filter (has_rowid id) rows ≡ [] → filter (has_rowid id) (put_row new rows) ≡ new ∷ []) → filter (has_rowid id) (put_row new (r ∷ rows)) ≡ new ∷ []
        split true is all later = absurd (cc)
        split false is rest later = go (value_cmp (rowid r) (rowid new)) refl is rest (later rest)

module _ (id other : ℤ) (apart : other ≢ id) where
  filter_other-put_row : (new : Row) → rowid new ≡ Int id → (rows : List Row) → filter (has_rowid other) (put_row new rows) ≡ filter (has_rowid other) rows
  filter_other-put_row new keyed [] = rw (not_other id other apart new (finds_new id new keyed))
  filter_other-put_row new keyed (r ∷ rows) = go (value_cmp (rowid r) (rowid new)) refl (filter_other-put_row new keyed rows)
    where
      go : (o : Ordering) → value_cmp (rowid r) (rowid new) ≡ o → filter (has_rowid other) (put_row new rows) ≡ filter (has_rowid other) rows
          → filter (has_rowid other) (Put o new r rows) ≡ filter (has_rowid other) (r ∷ rows)
      go Less is later = ap (λ (l : List Row). cond (has_rowid other r) (r ∷ l) l) later
      go Equal is later =
          let e : has_rowid id r ≡ true = ap (λ v. is_eq (value_cmp (rowid r) v)) (sym keyed) ∙ ap is_eq is in
          rw (not_other id other apart new (finds_new id new keyed), not_other id other apart r e)
      go Greater is later = rw (not_other id other apart new (finds_new id new keyed))

  filter_other-without_rowid : (rows : List Row) → filter (has_rowid other) (without_rowid id rows) ≡ filter (has_rowid other) rows
  filter_other-without_rowid [] = refl
  filter_other-without_rowid (r ∷ rows) = go (has_rowid id r) refl (filter_other-without_rowid rows)
    where
      go : (b : Bool) → has_rowid id r ≡ b → filter (has_rowid other) (without_rowid id rows) ≡ filter (has_rowid other) rows
          → filter (has_rowid other) (cond (not b) (r ∷ without_rowid id rows) (without_rowid id rows)) ≡ filter (has_rowid other) (r ∷ rows)
      go true is later = rw (not_other id other apart r is, later)
      go false is later = ap (λ (l : List Row). cond (has_rowid other r) (r ∷ l) l) later

-- a row that is put in place of the one with its key
one_updated : (old new : List Row) (key other : ℕ) (row : Row) → rowid row ≡ Int (pos key) → new ≡ put_row row (without_rowid (pos key) old) → HasOneRow old other → HasOneRow new other
one_updated old new key other row keyed is it =
    elim (same_or_not other key) [
      | inl same ↦
          let here : HasOneRow new key = record {
            found = row;
            only = ap (filter (has_rowid (pos key))) is ∙ filter-put_row (pos key) row keyed (without_rowid (pos key) old) (filter-without_rowid (pos key) old);
          } in
          subst (HasOneRow new) (sym same) here
      | inr apart ↦
          let differ : pos other ≢ pos key = λ e. apart (cc) in
          record {
            found = it.found;
            only = ap (filter (has_rowid (pos other))) is ∙ filter_other-put_row (pos key) (pos other) differ row keyed (without_rowid (pos key) old)
                ∙ filter_other-without_rowid (pos key) (pos other) differ old ∙ it.only;
          }
    ]

row_keeps : (token : ℕ) (row : RowRecord) (old new : Database) → PutsRow token row old new → KeepsOneRows old.trees new.trees
row_keeps token row old new it =
    let mid = it.0 in
    let floor : new.trees 1 ≡ put_row (floor_row token row) (without_rowid (pos token) (old.trees 1)) =
    it.2.others 1 (λ (e : 1 ≡ 3). omega arith) ∙ it.1.floor in
    let drift : new.trees 3 ≡ put_row (drift_row token row.drift) (without_rowid (pos token) (old.trees 3)) =
    it.2.drift ∙ ap (λ (rows : List Row). put_row (drift_row token row.drift) (without_rowid (pos token) rows)) (it.1.others 3 (λ (e : 3 ≡ 1). omega arith)) in
    record {
      self = it.2.others 0 (λ (e : 0 ≡ 3). omega arith) ∙ it.1.others 0 (λ (e : 0 ≡ 1). omega arith);
      floor = λ other one. one_updated (old.trees 1) (new.trees 1) token other (floor_row token row) refl floor one;
      drift = λ other one. one_updated (old.trees 3) (new.trees 3) token other (drift_row token row.drift) refl drift one;
      others = λ tree high. it.2.others tree (λ (e : tree ≡ 3). omega (arith, high, e)) ∙ it.1.others tree (λ (e : tree ≡ 1). omega (arith, high, e));
    }

-- of one put
pub put_keeps : (token : ℕ) (row : RowRecord) (number : ℕ) (pass : Option PassRecord) (old new : Database) → Puts token row number pass old new → KeepsOneRows old.trees new.trees
put_keeps token row number None old new it = row_keeps token row old new it
put_keeps token row number (Some p) old new it =
    let first = row_keeps token row old it.0 it.1 in
    record {
      self = it.2.others 0 (λ (e : 0 ≡ 2). omega arith) ∙ first.self;
      floor = λ other one. subst (λ (rows : List Row). HasOneRow rows other) (sym (it.2.others 1 (λ (e : 1 ≡ 2). omega arith))) (first.floor other one);
      drift = λ other one. subst (λ (rows : List Row). HasOneRow rows other) (sym (it.2.others 3 (λ (e : 3 ≡ 2). omega arith))) (first.drift other one);
      others = λ tree high. it.2.others tree (λ (e : tree ≡ 2). omega (arith, high, e)) ∙ first.others tree high;
    }

pub none_keeps : (trees : Trees) → KeepsOneRows trees trees
none_keeps trees = record { self = refl; floor = λ other one. one; drift = λ other one. one; others = λ tree high. refl }

-- of one after another
pub keeps_then : (old mid new : Trees) → KeepsOneRows old mid → KeepsOneRows mid new → KeepsOneRows old new
keeps_then old mid new first last = record {
  self = last.self ∙ first.self;
  floor = λ other one. last.floor other (first.floor other one);
  drift = λ other one. last.drift other (first.drift other one);
  others = λ tree high. last.others tree high ∙ first.others tree high;
}
