-- The places of names in rows, and rows that are merged.
use Rattle.std.proofs.Common.{◌≡◌, ℕ, zero, suc, ◌+◌, ◌<◌, Bool, true, false, cond, List, [], ◌∷◌, ◌++◌, length, get_or, Option, Some, None, refl, sym, ap, subst, ◌∙◌, arith}
use Rattle.std.specs.Prelude.{set, IfSome, OnOk, Result, Ok, Err}
use Rattle.std.specs.Ordering.{nat_cmp}
use Rattle.std.specs.Cmp.Lexicographic.{slice_cmp}
use Rattle.std.specs.Str.{bytes_eq}
use Rattle.std.specs.BTreeMap as tree
use Rattle.std.specs.BTreeMap.{BTreeMap}
use Rattle.std.proofs.lemmas.Map.Text.{is_eq-slice_cmp}
use Rattle.std.proofs.lemmas.Slice.Eq.{bytes_eq-Decides}
use Rattle.floors_file.specs.declared.named.NamedFloor.{NamedFloor}
use Rattle.floors_file.specs.Gathered.{greater}
use Rattle.floors_file.specs.NamedRows.{HasPlaces, place_from, place_of_name, raised, raised_at, with_row}

abbrev present : {A : Type 0} → A → Option A
present x = Some x

some_is : {A : Type 0} (x y : A) → present x ≡ present y → x ≡ y
some_is x y e = cc

-- ---- a place is below the length

below_at : (p n : ℕ) (t : Bool) (o : Option ℕ) (k : ℕ) → cond t (Some p) o ≡ Some n → p < k → (o ≡ Some n → n < k) → n < k
below_at p n true o k e h f = let same : p ≡ n = some_is p n e in omega (arith, same, h)
below_at p n false o k e h f = f e

place_below : (p : ℕ) (name : List ℕ) (rows : List NamedFloor) (n : ℕ) → place_from p name rows ≡ Some n → n < p + length rows
place_below p name [] n e = absurd cc
place_below p name (row ∷ rows) n e =
    below_at p n (bytes_eq row.name name) (place_from (p + 1) name rows) (p + length (row ∷ rows)) e (omega arith)
    (λ h. let k = place_below (p + 1) name rows n h in omega (arith, k))

pub place_within : (name : List ℕ) (rows : List NamedFloor) (place : Option ℕ) → place ≡ place_of_name name rows → IfSome place (λ n. n < length rows)
place_within name rows None is = tt
place_within name rows (Some n) is = let low = place_below 0 name rows n (sym is) in omega (arith, low)

-- ---- one more row

-- the first of two places that there is
abbrev or_place : Option ℕ → Option ℕ → Option ℕ
or_place (Some n) other = Some n
or_place None other = other

place_at : (p : ℕ) (t : Bool) (longer shorter last : Option ℕ) → longer ≡ or_place shorter last → cond t (Some p) longer ≡ or_place (cond t (Some p) shorter) last
place_at p true longer shorter last e = refl
place_at p false longer shorter last e = e

place_more : (p : ℕ) (name : List ℕ) (rows : List NamedFloor) (row : NamedFloor)
    → place_from p name (rows ++ row ∷ []) ≡ or_place (place_from p name rows) (cond (bytes_eq row.name name) (Some (p + length rows)) None)
place_more p name [] row = let same : p ≡ p + 0 = omega arith in ap (λ k. cond (bytes_eq row.name name) (Some k) None) same
place_more p name (other ∷ rows) row =
    let same : p + 1 + length rows ≡ p + suc (length rows) = omega arith in
    place_at p (bytes_eq other.name name) (place_from (p + 1) name (rows ++ row ∷ [])) (place_from (p + 1) name rows)
    (cond (bytes_eq row.name name) (Some (p + suc (length rows))) None)
    (place_more (p + 1) name rows row ∙ ap (λ k. or_place (place_from (p + 1) name rows) (cond (bytes_eq row.name name) (Some k) None)) same)

joined : (o : Option ℕ) (b : Bool) (n k : ℕ) → n ≡ k → (b ≡ true → o ≡ None) → cond b (Some n) o ≡ or_place o (cond b (Some k) None)
joined o true n k same none = ap present same ∙ ap (λ (x : Option ℕ). or_place x (Some k)) (sym (none refl))
joined None false n k same none = refl
joined (Some m) false n k same none = refl

place_pushed : (rows : List NamedFloor) (row : NamedFloor) (n : ℕ) (name : List ℕ) → place_of_name row.name rows ≡ None → n ≡ length rows
    → cond (bytes_eq row.name name) (Some n) (place_of_name name rows) ≡ place_of_name name (rows ++ row ∷ [])
place_pushed rows row n name new same =
    joined (place_of_name name rows) (bytes_eq row.name name) n (0 + length rows) (omega (arith, same))
    (λ is. subst (λ (x : List ℕ). place_of_name x rows ≡ None) ((bytes_eq-Decides row.name name).0 is) new)
    ∙ sym (place_more 0 name rows row)

pub has_places_pushed : (rows : List NamedFloor) (row : NamedFloor) (old new : BTreeMap (List ℕ) ℕ) (key : List ℕ) (n : ℕ) → HasPlaces rows old
    → key ≡ row.name → n ≡ length rows → place_of_name row.name rows ≡ None → tree.Updates (slice_cmp nat_cmp) old new key (Some n)
    → HasPlaces (rows ++ row ∷ []) new
has_places_pushed rows row old new key n has is at none updates = λ name.
    updates.0 name
    ∙ ap (λ (t : Bool). cond t (Some n) (tree.get (slice_cmp nat_cmp) old name)) (is_eq-slice_cmp key name)
    ∙ ap (λ (k : List ℕ). cond (bytes_eq k name) (Some n) (tree.get (slice_cmp nat_cmp) old name)) is
    ∙ ap (cond (bytes_eq row.name name) (Some n)) (has name)
    ∙ place_pushed rows row n name none at

-- ---- a floor that is raised

place_raised : (p : ℕ) (name : List ℕ) (place next : ℕ) (rows : List NamedFloor) → place_from p name (raised_at place next rows) ≡ place_from p name rows
place_raised p name place next [] = refl
place_raised p name zero next (row ∷ rows) = refl
place_raised p name (suc place) next (row ∷ rows) = ap (cond (bytes_eq row.name name) (Some p)) (place_raised (p + 1) name place next rows)

pub has_places_raised : (rows : List NamedFloor) (place next : ℕ) (index : BTreeMap (List ℕ) ℕ) → HasPlaces rows index → HasPlaces (raised_at place next rows) index
has_places_raised rows place next index has = λ name. has name ∙ sym (place_raised 0 name place next rows)

pub raised_is : (rows : List NamedFloor) (place next : ℕ) (row : NamedFloor) → place < length rows → row ≡ get_or rows place row
    → set rows place (raised row next) ≡ raised_at place next rows
raised_is [] place next row low is = absurd (omega (arith, low))
raised_is (other ∷ rows) zero next row low is = ap (λ (r : NamedFloor). raised r next ∷ rows) is
raised_is (other ∷ rows) (suc place) next row low is = ap (λ (l : List NamedFloor). other ∷ l) (raised_is rows place next row (omega (arith, low)) is)

-- the row at a place is replaced by one with the greater floor
pub raised_so : (rows : List NamedFloor) (place next new : ℕ) (row : NamedFloor) → place < length rows → row ≡ get_or rows place row
    → new ≡ greater row.next next → set rows place (record row { next = new }) ≡ raised_at place next rows
raised_so rows place next new row low is more =
    ap (λ (n : ℕ). set rows place (record row { next = n })) more ∙ raised_is rows place next row low is

-- ---- a row that is merged

record IsMergedAt (p place : ℕ) (rows : List NamedFloor) (row : NamedFloor) : Type 0 where
  n : ℕ
  is : place ≡ p + n
  merged : with_row rows row ≡ raised_at n row.next rows

merged_here : (p place : ℕ) (other : NamedFloor) (rows : List NamedFloor) (row : NamedFloor) (t : Bool) → bytes_eq other.name row.name ≡ t
    → cond t (Some p) (place_from (p + 1) row.name rows) ≡ Some place
    → (place_from (p + 1) row.name rows ≡ Some place → IsMergedAt (p + 1) place rows row) → IsMergedAt p place (other ∷ rows) row
merged_here p place other rows row true is e rest = record {
  n = 0;
  is = (let same : p ≡ place = some_is p place e in omega (arith, same));
  merged = ap (λ (t : Bool). cond t (raised other row.next ∷ rows) (other ∷ with_row rows row)) is;
}
merged_here p place other rows row false is e rest =
    let f = rest e in
    record {
      n = suc f.n;
      is = omega (arith, f.is);
      merged = ap (λ (t : Bool). cond t (raised other row.next ∷ rows) (other ∷ with_row rows row)) is
          ∙ ap (λ (l : List NamedFloor). other ∷ l) f.merged;
    }

merged_from : (p place : ℕ) (rows : List NamedFloor) (row : NamedFloor) → place_from p row.name rows ≡ Some place → IsMergedAt p place rows row
merged_from p place [] row e = absurd cc
merged_from p place (other ∷ rows) row e = merged_here p place other rows row (bytes_eq other.name row.name) refl e (merged_from (p + 1) place rows row)

pub merged_at : (place : ℕ) (rows : List NamedFloor) (row : NamedFloor) → place_of_name row.name rows ≡ Some place → with_row rows row ≡ raised_at place row.next rows
merged_at place rows row e =
    let f = merged_from 0 place rows row e in
    let same : f.n ≡ place = omega (arith, f.is) in
    f.merged ∙ ap (λ (n : ℕ). raised_at n row.next rows) same

new_here : (p : ℕ) (other : NamedFloor) (rows : List NamedFloor) (row : NamedFloor) (t : Bool) → bytes_eq other.name row.name ≡ t
    → cond t (Some p) (place_from (p + 1) row.name rows) ≡ None → (place_from (p + 1) row.name rows ≡ None → with_row rows row ≡ rows ++ row ∷ [])
    → with_row (other ∷ rows) row ≡ other ∷ rows ++ row ∷ []
new_here p other rows row true is e rest = absurd cc
new_here p other rows row false is e rest =
    ap (λ (t : Bool). cond t (raised other row.next ∷ rows) (other ∷ with_row rows row)) is ∙ ap (λ (l : List NamedFloor). other ∷ l) (rest e)

merged_new_from : (p : ℕ) (rows : List NamedFloor) (row : NamedFloor) → place_from p row.name rows ≡ None → with_row rows row ≡ rows ++ row ∷ []
merged_new_from p [] row e = refl
merged_new_from p (other ∷ rows) row e = new_here p other rows row (bytes_eq other.name row.name) refl e (merged_new_from (p + 1) rows row)

pub merged_new : (rows : List NamedFloor) (row : NamedFloor) → place_of_name row.name rows ≡ None → with_row rows row ≡ rows ++ row ∷ []
merged_new rows row e = merged_new_from 0 rows row e

-- a new row that was pushed
pub merged_pushed : {E : Type 0} (result : Result (Unit {0}) E) (old new : List NamedFloor) (row : NamedFloor) → None ≡ place_of_name row.name old
    → OnOk result (new ≡ old ++ row ∷ []) → OnOk result (new ≡ with_row old row)
merged_pushed (Err fault) old new row none is = tt
merged_pushed (Ok done) old new row none is = is ∙ sym (merged_new old row (sym none))
