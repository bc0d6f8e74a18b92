-- The greatest floor of a seed, row by row, and the indexes of it.
use Rattle.std.proofs.Common.{◌≡◌, ◌⊎◌, ℕ, ◌+◌, ◌<◌, ◌≤◌, Bool, true, false, cond, ◌&&◌, nat_lt, List, [], ◌∷◌, ◌++◌, length, take, get_or, Option, Some, None, inl, inr, BTreeMap, refl, sym, ap, subst, ◌∙◌, arith}
use Rattle.std.specs.Ordering.{nat_cmp}
use Rattle.std.specs.Cmp.Lexicographic.{slice_cmp}
use Rattle.std.specs.Str.{bytes_eq}
use Rattle.std.specs.BTreeMap as tree
use Rattle.std.proofs.lemmas.Bool.{cases_lt, le-ltb, lt-ltb}
use Rattle.std.proofs.lemmas.List.{append-nil, take_more}
use Rattle.std.proofs.lemmas.List.Elements.{filter_more}
use Rattle.std.proofs.lemmas.Map.Text.{is_eq-slice_cmp}
use Rattle.std.proofs.lemmas.Slice.Eq.{bytes_eq-Decides}
use Rattle.named_store.specs.Floors.{lifted_by, raised_floor}
use Rattle.retired_rows.specs.declared.row.NumberedRow.{NumberedRow}
use Rattle.retired_rows.specs.Staying.{AddsRow, HasGreatestOf, entries_in, floors_in, greatest, named_rows}

-- ---- the greater of floors

-- a floor that is lifted is the greater of the two
pub lift_is : (top floor : ℕ) → (floor ≤ lifted_by (Some top) floor) × (top ≤ lifted_by (Some top) floor)
    × ((lifted_by (Some top) floor ≡ top) ⊎ (lifted_by (Some top) floor ≡ floor))
lift_is top floor =
    elim (cases_lt floor top) [
      | inl low ↦
          let is : lifted_by (Some top) floor ≡ top = ap (λ (t : Bool). cond t top floor) (lt-ltb floor top low) in
          (omega (arith, low, is), omega (arith, is), inl is)
      | inr high ↦
          let is : lifted_by (Some top) floor ≡ floor = ap (λ (t : Bool). cond t top floor) (le-ltb floor top high) in
          (omega (arith, is), omega (arith, high, is), inr is)
    ]

-- the order of two floors makes no difference
lift_swap : (top : Option ℕ) (a b : ℕ) → lifted_by (Some (lifted_by top b)) a ≡ lifted_by (Some (lifted_by top a)) b
lift_swap None a b =
    let one = lift_is b a in
    let two = lift_is a b in
    omega (arith, one.0, one.1, one.2, two.0, two.1, two.2)
lift_swap (Some m) a b =
    let one = lift_is m b in
    let two = lift_is m a in
    let left = lift_is (lifted_by (Some m) b) a in
    let right = lift_is (lifted_by (Some m) a) b in
    omega (arith, one.0, one.1, one.2, two.0, two.1, two.2, left.0, left.1, left.2, right.0, right.1, right.2)

-- a floor is lifted by two others, one after the other
lift_twice : (top : Option ℕ) (next floor : ℕ) → lifted_by top (lifted_by (Some next) floor)
    ≡ lifted_by (Some (lifted_by top next)) floor
lift_twice None next floor = refl
lift_twice (Some m) next floor =
    let one = lift_is next floor in
    let two = lift_is m next in
    let left = lift_is m (lifted_by (Some next) floor) in
    let right = lift_is (lifted_by (Some m) next) floor in
    omega (arith, one.0, one.1, one.2, two.0, two.1, two.2, left.0, left.1, left.2, right.0, right.1, right.2)

-- ---- one row more

both_orders : (t u : Bool) (top : Option ℕ) (a b : ℕ)
    → cond t (Some (lifted_by (cond u (Some (lifted_by top b)) top) a)) (cond u (Some (lifted_by top b)) top)
    ≡ cond u (Some (lifted_by (cond t (Some (lifted_by top a)) top) b)) (cond t (Some (lifted_by top a)) top)
both_orders true true top a b = ap Some (lift_swap top a b)
both_orders true false top a b = refl
both_orders false true top a b = refl
both_orders false false top a b = refl

-- the row behind the others
greatest_behind : (rows : List NumberedRow) (x : NumberedRow) (seed : List ℕ) → greatest (rows ++ x ∷ []) seed
    ≡ cond (bytes_eq x.entry.seed seed) (Some (lifted_by (greatest rows seed) x.row.next)) (greatest rows seed)
greatest_behind [] x seed = refl
greatest_behind (row ∷ rows) x seed =
    ap (λ (g : Option ℕ). cond (bytes_eq row.entry.seed seed) (Some (lifted_by g row.row.next)) g)
    (greatest_behind rows x seed)
    ∙ both_orders (bytes_eq row.entry.seed seed) (bytes_eq x.entry.seed seed)
    (greatest rows seed) row.row.next x.row.next

same_seed : (t : Bool) (rows : List NumberedRow) (x : NumberedRow) (seed : List ℕ) → bytes_eq x.entry.seed seed ≡ t
    → cond t (Some (lifted_by (greatest rows x.entry.seed) x.row.next)) (greatest rows seed)
    ≡ cond t (Some (lifted_by (greatest rows seed) x.row.next)) (greatest rows seed)
same_seed true rows x seed is =
    ap (λ (s : List ℕ). Some (lifted_by (greatest rows s) x.row.next)) ((bytes_eq-Decides x.entry.seed seed).0 is)
same_seed false rows x seed is = refl

-- the index with the row behind the others
has_behind : (rows : List NumberedRow) (x : NumberedRow) (old new : BTreeMap (List ℕ) ℕ) → HasGreatestOf rows old
    → AddsRow x old new
    → HasGreatestOf (rows ++ x ∷ []) new
has_behind rows x old new has adds = λ seed.
    adds.updates.0 seed
    ∙ ap (λ (t : Bool). cond t (Some (lifted_by (tree.get (slice_cmp nat_cmp) old x.entry.seed) x.row.next))
    (tree.get (slice_cmp nat_cmp) old seed)) (is_eq-slice_cmp x.entry.seed seed)
    ∙ (λ i. cond (bytes_eq x.entry.seed seed) (Some (lifted_by (has x.entry.seed i) x.row.next)) (has seed i))
    ∙ same_seed (bytes_eq x.entry.seed seed) rows x seed refl
    ∙ sym (greatest_behind rows x seed)

pub has_more : {row : NumberedRow} (rows : List NumberedRow) (n : ℕ) (old new : BTreeMap (List ℕ) ℕ)
    → AddsRow row old new → n < length rows
    → row ≡ get_or rows n row → HasGreatestOf (take n rows) old → HasGreatestOf (take (n + 1) rows) new
has_more {row} rows n old new adds low is has =
    subst (λ (l : List NumberedRow). HasGreatestOf l new)
    (sym (take_more rows n row low ∙ ap (λ (x : NumberedRow). take n rows ++ x ∷ []) (sym is)))
    (has_behind (take n rows) row old new has adds)

-- the rows that the users file has, with one row more
named_at : (rows : List NumberedRow) (n : ℕ) (row : NumberedRow) (t : Bool) → n < length rows → row ≡ get_or rows n row
    → row.is_named ≡ t
    → named_rows (take (n + 1) rows) ≡ named_rows (take n rows) ++ cond t (row ∷ []) []
named_at rows n row t low is named =
    filter_more (λ (r : NumberedRow). r.is_named) rows n row low
    ∙ ap (λ (x : NumberedRow). named_rows (take n rows) ++ cond x.is_named (x ∷ []) []) (sym is)
    ∙ ap (λ (u : Bool). named_rows (take n rows) ++ cond u (row ∷ []) []) named

pub named_more : {row : NumberedRow} (rows : List NumberedRow) (n : ℕ) (old new : BTreeMap (List ℕ) ℕ)
    → AddsRow row old new → n < length rows
    → row ≡ get_or rows n row → row.is_named ≡ true → HasGreatestOf (named_rows (take n rows)) old
    → HasGreatestOf (named_rows (take (n + 1) rows)) new
named_more {row} rows n old new adds low is named has =
    subst (λ (l : List NumberedRow). HasGreatestOf l new) (sym (named_at rows n row true low is named))
    (has_behind (named_rows (take n rows)) row old new has adds)

pub named_same : {row : NumberedRow} (rows : List NumberedRow) (n : ℕ) (index : BTreeMap (List ℕ) ℕ) → n < length rows
    → row ≡ get_or rows n row
    → row.is_named ≡ false → HasGreatestOf (named_rows (take n rows)) index
    → HasGreatestOf (named_rows (take (n + 1) rows)) index
named_same {row} rows n index low is named has =
    subst (λ (l : List NumberedRow). HasGreatestOf l index)
    (sym (named_at rows n row false low is named ∙ append-nil (named_rows (take n rows)))) has

-- ---- the floor of an enrolment

lift_at : (t : Bool) (top : Option ℕ) (next floor : ℕ) → lifted_by top (cond (t && nat_lt floor next) next floor)
    ≡ lifted_by (cond t (Some (lifted_by top next)) top) floor
lift_at true top next floor = lift_twice top next floor
lift_at false top next floor = refl

-- all rows raise a floor as the greatest floor of its seed lifts it
pub raised_is : (rows : List NumberedRow) (seed : List ℕ) (floor : ℕ)
    → raised_floor (entries_in rows) (floors_in rows) seed floor ≡ lifted_by (greatest rows seed) floor
raised_is [] seed floor = refl
raised_is (row ∷ rows) seed floor =
    raised_is rows seed (cond (bytes_eq row.entry.seed seed && nat_lt floor row.row.next) row.row.next floor)
    ∙ lift_at (bytes_eq row.entry.seed seed) (greatest rows seed) row.row.next floor
