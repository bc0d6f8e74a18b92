-- What the small tables hold by which promises are broken: each row is computed.
use Rattle.std.proofs.Common.{◌≡◌, ℕ, zero, suc, List, [], ◌∷◌, length, Some, refl, ap, ◌∙◌, subst, arith}
use Rattle.std.specs.Prelude.{ℤ, pos}
use Rattle.std.specs.List.Sorted.{IsPermutation}
use Rattle.std.proofs.lemmas.List.Sorted.{IsPermutation-refl, length_permutation}
use Rattle.sqlite.specs.Tree.{Trees}
use Rattle.sqlite_value.specs.Order.{value_cmp}
use Rattle.floor_store.specs.Examples.{free_row}
use Rattle.floor_store.specs.Records.{PassRecord, RowRecord}
use Rattle.floor_sql.specs.Broken.{small_content, tables_at, token_content, token_db}
use Rattle.floor_sql.specs.declared.schema.Format.TheVariants.{Numbered}
use Rattle.floor_sql.specs.Stored.{HasOneRow, HasRow, Holds, HoldsFloor, HoldsFloors, HoldsRow, HoldsRows, drift_columns, drift_row, drift_values, floor_row, pass_rows, self_columns, self_row, version_values, version_row}
use Rattle.floor_sql.proofs.PassLemmas.{length_rows}

-- the row of `self` has its columns
pub own_row_has : (version node tokens boot : ℕ)
    → HasRow (version_row version node tokens boot ∷ []) 1 self_columns (version_values version node tokens boot)
unfolding value_cmp lib.Ieee.is_nan lib.Ieee.lt
own_row_has version node tokens boot = record { found = version_row version node tokens boot; place = refl; shows = refl }

-- and stands there once
pub own_row_once : (version node tokens boot : ℕ) → HasOneRow (version_row version node tokens boot ∷ []) 1
unfolding value_cmp lib.Ieee.is_nan lib.Ieee.lt
own_row_once version node tokens boot = record { found = version_row version node tokens boot; only = refl }

-- and no others
pub own_row_is : (version node tokens boot v n t b : ℕ)
    → HasRow (version_row version node tokens boot ∷ []) 1 self_columns (version_values v n t b)
    → (version ≡ v) × (node ≡ n) × (tokens ≡ t) × (boot ≡ b)
unfolding value_cmp lib.Ieee.is_nan lib.Ieee.lt
own_row_is version node tokens boot v n t b h =
    let one : Some (version_row version node tokens boot) ≡ Some h.found = h.place in
    let found : version_row version node tokens boot ≡ h.found = cc in
    let shows : version_values version node tokens boot ≡ version_values v n t b = ap self_columns found ∙ h.shows in
    (cc, cc, cc, cc)

-- the row of a drift has no other
pub drift_row_is : (steps other : ℤ) → HasRow (drift_row 0 steps ∷ []) 0 drift_columns (drift_values 0 other) → steps ≡ other
unfolding value_cmp lib.Ieee.is_nan lib.Ieee.lt
drift_row_is steps other h =
    let one : Some (drift_row 0 steps) ≡ Some h.found = h.place in
    let found : drift_row 0 steps ≡ h.found = cc in
    let shows : drift_values 0 steps ≡ drift_values 0 other = ap drift_columns found ∙ h.shows in
    cc

-- the rows of one token are these alone
pub one_floor : (trees : Trees) (row : RowRecord) → HoldsFloor trees 0 row → HoldsFloors trees (row ∷ [])
one_floor trees row is zero other e = let same : row ≡ other = cc in subst (HoldsFloor trees 0) same is
one_floor trees row is (suc token) other e = absurd cc

pub one_row : (trees : Trees) (row : RowRecord) → HoldsRow trees 0 row → HoldsRows trees (row ∷ [])
one_row trees row is zero other e = let same : row ≡ other = cc in subst (HoldsRow trees 0) same is
one_row trees row is (suc token) other e = absurd cc

-- the row of the small tables
pub token_floor : HoldsFloor token_db.trees 0 (free_row 9)
unfolding value_cmp lib.Ieee.is_nan lib.Ieee.lt
token_floor = record { found = floor_row 0 (free_row 9); place = refl; shows = refl }

-- the tables of one token hold its row
unfoldable pub token_holds : Holds Numbered token_db.trees (token_content (free_row 9)) []
unfolding value_cmp lib.Ieee.is_nan lib.Ieee.lt
token_holds = record {
  rows = one_row token_db.trees (free_row 9)
      (record { floor = token_floor; drift = record { found = drift_row 0 (pos 0); place = refl; shows = refl } });
  node = 1;
  self = record { found = self_row 1 1 4; place = refl; shows = refl };
  pass = IsPermutation-refl [];
  last = refl;
}

-- the tables without a token hold the content that they are made of
pub none_holds : (boot : ℕ) → Holds Numbered (tables_at boot []) (small_content boot) []
unfolding value_cmp lib.Ieee.is_nan lib.Ieee.lt
none_holds boot = record {
  rows = λ token row e. absurd cc;
  node = 1;
  self = record { found = self_row 1 0 boot; place = refl; shows = refl };
  pass = IsPermutation-refl [];
  last = refl;
}

-- without a row there are no passes
pub count_of_none : (passes : List PassRecord) → IsPermutation (pass_rows 1 passes) [] → length passes ≡ 0
count_of_none passes h =
    let lengths : 0 ≡ length (pass_rows 1 passes) = length_permutation _ _ h in
    let same = length_rows 1 passes in
    omega (arith, lengths, same)
