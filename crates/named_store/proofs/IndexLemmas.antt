-- The rows of names, and the index of a roster.
use Rattle.std.proofs.Common.{◌≡◌, ℕ, zero, suc, ◌+◌, ◌<◌, Bool, true, false, cond, ◌||◌, List, [], ◌∷◌, ◌++◌, length, take, drop, get_or, Option, Some, None, is_some, BTreeMap, refl, sym, ap, subst, ◌∙◌, true≢false, arith}
use Rattle.std.specs.Ordering.{nat_cmp}
use Rattle.std.specs.Cmp.Lexicographic.{slice_cmp}
use Rattle.std.specs.Str.{bytes_eq}
use Rattle.std.specs.BTreeMap as tree
use Rattle.std.proofs.lemmas.List.{take_more, take-append-drop, length-take-le}
use Rattle.std.proofs.lemmas.List.Folds.{list_any-append, list_any_at}
use Rattle.std.proofs.lemmas.List.Quantifiers.{all_pairs_push}
use Rattle.std.proofs.lemmas.Map.Text.{is_eq-slice_cmp}
use Rattle.std.proofs.lemmas.Slice.Eq.{bytes_eq-Decides}
use Rattle.roster_sql.specs.declared.entry.Entry.{Entry}
use Rattle.named_store.specs.Seating.{AddsName, AreDistinct, HasRowsOf, IsRowOf, has_name, name_at}

abbrev present : List ℕ → Option (List ℕ)
present x = Some x

pub some_is : (x y : List ℕ) → present x ≡ present y → x ≡ y
some_is x y e = cc

-- ---- the name in a row

-- the name in a row stays when rows are appended
pub name_stays : (rows more : List Entry) (row : ℕ) (name : List ℕ) → name_at rows row ≡ Some name → name_at (rows ++ more) row ≡ Some name
name_stays [] more row name at = absurd cc
name_stays (x ∷ rows) more zero name at = at
name_stays (x ∷ rows) more (suc row) name at = name_stays rows more row name at

-- the row behind the others has its own name
pub name_behind : (rows : List Entry) (e : Entry) → name_at (rows ++ e ∷ []) (length rows) ≡ Some e.name
name_behind [] e = refl
name_behind (x ∷ rows) e = name_behind rows e

-- a row with a name is one of the rows
pub name_within : (rows : List Entry) (row : ℕ) (name : List ℕ) → name_at rows row ≡ Some name → row < length rows
name_within [] row name at = absurd cc
name_within (x ∷ rows) zero name at = omega arith
name_within (x ∷ rows) (suc row) name at = let low = name_within rows row name at in omega (arith, low)

pub name_is : (rows : List Entry) (row : ℕ) (name : List ℕ) (d : Entry) → name_at rows row ≡ Some name → (get_or rows row d).name ≡ name
name_is [] row name d at = absurd cc
name_is (x ∷ rows) zero name d at = some_is x.name name at
name_is (x ∷ rows) (suc row) name d at = name_is rows row name d at

-- a name that a row has
pub has_named : (rows : List Entry) (row : ℕ) (name : List ℕ) (d : Entry) → name_at rows row ≡ Some name → has_name rows name ≡ true
has_named rows row name d at =
    list_any_at (λ e. bytes_eq e.name name) rows row d (name_within rows row name at)
    ((bytes_eq-Decides (get_or rows row d).name name).1 (name_is rows row name d at))

-- a name that no row has is none of the rows' names
pub no_row : (rows : List Entry) (row : ℕ) (name : List ℕ) (d : Entry) → has_name rows name ≡ false → row < length rows → (get_or rows row d).name ≡ name → ⊥
no_row rows row name d none low same =
    true≢false (sym (list_any_at (λ e. bytes_eq e.name name) rows row d low ((bytes_eq-Decides (get_or rows row d).name name).1 same)) ∙ none)

-- ---- the index

row_of_more : (rows : List Entry) (e : Entry) (q : List ℕ) (t : Bool) (found : Option ℕ) → bytes_eq e.name q ≡ t → IsRowOf rows q found
    → IsRowOf (rows ++ e ∷ []) q (cond t (Some (length rows)) found)
row_of_more rows e q true found is has = name_behind rows e ∙ ap Some ((bytes_eq-Decides e.name q).0 is)
row_of_more rows e q false None is has =
    list_any-append (λ row. bytes_eq row.name q) rows (e ∷ []) ∙ ap (λ b. b || (bytes_eq e.name q || false)) has ∙ ap (λ b. b || false) is
row_of_more rows e q false (Some row) is has = name_stays rows (e ∷ []) row q has

-- the index with one more row
pub rows_more : (rows : List Entry) (e : Entry) (n : ℕ) (key : List ℕ) (old new : BTreeMap (List ℕ) ℕ) → n ≡ length rows → key ≡ e.name
    → HasRowsOf rows old → tree.Updates (slice_cmp nat_cmp) old new key (Some n) → HasRowsOf (rows ++ e ∷ []) new
rows_more rows e n key old new long is has updates = λ q.
    let got : Option ℕ = tree.get (slice_cmp nat_cmp) old q in
    let there : tree.get (slice_cmp nat_cmp) new q ≡ cond (bytes_eq e.name q) (Some (length rows)) got =
    updates.0 q ∙ ap (λ t. cond t (Some n) got) (is_eq-slice_cmp key q) ∙ (λ i. cond (bytes_eq (is i) q) (Some (long i)) got) in
    subst (IsRowOf (rows ++ e ∷ []) q) (sym there) (row_of_more rows e q (bytes_eq e.name q) got refl (has q))

-- the names of the rows differ, with one more that none of them has
pub distinct_more : (rows : List Entry) (e : Entry) → AreDistinct rows → has_name rows e.name ≡ false → AreDistinct (rows ++ e ∷ [])
distinct_more rows e distinct none =
    all_pairs_push (λ a b. a.name ≡ b.name → ⊥) rows e distinct (λ k d low same. no_row rows k e.name d none low same)

-- two rows have the name
pub not_distinct : (roster : List Entry) (n row : ℕ) (d : Entry) → n < length roster → name_at (take n roster) row ≡ Some (get_or roster n d).name
    → AreDistinct roster → ⊥
not_distinct roster n row d low at distinct =
    let name : List ℕ = (get_or roster n d).name in
    let short = length-take-le n roster (omega (arith, low)) in
    let within = name_within (take n roster) row name at in
    let whole : name_at roster row ≡ Some name =
    subst (λ (rows : List Entry). name_at rows row ≡ Some name) (take-append-drop n roster) (name_stays (take n roster) (drop n roster) row name at) in
    distinct row n d (omega (arith, short, within)) low (name_is roster row name d whole)

-- ---- one step of the index

-- a name that the index has already
pub repeats : (roster : List Entry) (n : ℕ) (d : Entry) (key : List ℕ) (index : BTreeMap (List ℕ) ℕ) (former : Option ℕ) → n < length roster
    → key ≡ (get_or roster n d).name → HasRowsOf (take n roster) index → former ≡ tree.get (slice_cmp nat_cmp) index key → is_some former ≡ true
    → AreDistinct roster → ⊥
repeats roster n d key index None low is has got some distinct = absurd cc
repeats roster n d key index (Some row) low is has got some distinct =
    let at : name_at (take n roster) row ≡ Some key = subst (IsRowOf (take n roster) key) (sym got) (has key) in
    not_distinct roster n row d low (at ∙ ap Some is) distinct

not_had : (rows : List Entry) (key : List ℕ) (index : BTreeMap (List ℕ) ℕ) (former : Option ℕ) → HasRowsOf rows index
    → former ≡ tree.get (slice_cmp nat_cmp) index key → is_some former ≡ false → has_name rows key ≡ false
not_had rows key index None has got none = subst (IsRowOf rows key) (sym got) (has key)
not_had rows key index (Some row) has got none = absurd cc

-- the index and the rows so far, with one more
pub more_rows : (roster : List Entry) (n : ℕ) (d : Entry) (key : List ℕ) (old new : BTreeMap (List ℕ) ℕ) → n < length roster
    → key ≡ (get_or roster n d).name → HasRowsOf (take n roster) old → tree.Updates (slice_cmp nat_cmp) old new key (Some n)
    → HasRowsOf (take (n + 1) roster) new
more_rows roster n d key old new low is has updates =
    let long : n ≡ length (take n roster) = sym (length-take-le n roster (omega (arith, low))) in
    subst (λ (rows : List Entry). HasRowsOf rows new) (sym (take_more roster n d low))
    (rows_more (take n roster) (get_or roster n d) n key old new long is has updates)

pub more_distinct : (roster : List Entry) (n : ℕ) (d : Entry) (key : List ℕ) (index : BTreeMap (List ℕ) ℕ) (former : Option ℕ) → n < length roster
    → key ≡ (get_or roster n d).name → HasRowsOf (take n roster) index → former ≡ tree.get (slice_cmp nat_cmp) index key → is_some former ≡ false
    → AreDistinct (take n roster) → AreDistinct (take (n + 1) roster)
more_distinct roster n d key index former low is has got none distinct =
    let absent : has_name (take n roster) (get_or roster n d).name ≡ false =
    ap (has_name (take n roster)) (sym is) ∙ not_had (take n roster) key index former has got none in
    subst AreDistinct (sym (take_more roster n d low)) (distinct_more (take n roster) (get_or roster n d) distinct absent)

-- no row yet
pub none_distinct : AreDistinct []
none_distinct = λ i j d before low. absurd (omega (arith, low))

-- ---- the same, by what was read of a row

pub repeats_at : {e : Entry} (roster : List Entry) (n : ℕ) (old new : BTreeMap (List ℕ) ℕ) (former : Option ℕ) → AddsName e n former old new
    → n < length roster → e ≡ get_or roster n e → HasRowsOf (take n roster) old → is_some former ≡ true → AreDistinct roster → ⊥
repeats_at {e} roster n old new former adds low is has some distinct =
    repeats roster n e e.name old former low (ap (λ (x : Entry). x.name) is) has adds.was some distinct

pub rows_at : {e : Entry} (roster : List Entry) (n : ℕ) (old new : BTreeMap (List ℕ) ℕ) (former : Option ℕ) → AddsName e n former old new
    → n < length roster → e ≡ get_or roster n e → HasRowsOf (take n roster) old → HasRowsOf (take (n + 1) roster) new
rows_at {e} roster n old new former adds low is has = more_rows roster n e e.name old new low (ap (λ (x : Entry). x.name) is) has adds.updates

pub distinct_at : {e : Entry} (roster : List Entry) (n : ℕ) (old new : BTreeMap (List ℕ) ℕ) (former : Option ℕ) → AddsName e n former old new
    → n < length roster → e ≡ get_or roster n e → HasRowsOf (take n roster) old → is_some former ≡ false → AreDistinct (take n roster)
    → AreDistinct (take (n + 1) roster)
distinct_at {e} roster n old new former adds low is has none distinct =
    more_distinct roster n e e.name old former low (ap (λ (x : Entry). x.name) is) has adds.was none distinct
