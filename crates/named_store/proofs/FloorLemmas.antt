-- The floors of new tokens.
use Rattle.std.proofs.Common.{◌≡◌, ℕ, zero, suc, ◌<◌, ◌≤◌, Bool, true, false, cond, ◌&&◌, nat_lt, List, [], ◌∷◌, ◌++◌, length, map, take, drop, get_or, slice_get, Some, ◌+◌, inl, inr, refl, sym, ap, ◌∙◌, arith}
use Rattle.std.specs.Str.{bytes_eq}
use Rattle.std.proofs.lemmas.Bool.{ltb-true, cases_lt, lt-ltb}
use Rattle.std.proofs.lemmas.List.{map-append, take_more}
use Rattle.std.proofs.lemmas.Option.{get_or_from_slice_get, slice_get_within}
use Rattle.std.proofs.lemmas.Slice.Eq.{bytes_eq-Decides}
use Rattle.floor_store.specs.Records.{RowRecord}
use Rattle.roster_sql.specs.declared.entry.Entry.{Entry}
use Rattle.named_store.specs.Floors.{raised_floor}

-- one step keeps a floor or raises it
step_keeps : (t : Bool) (floor next : ℕ) (b : Bool) → nat_lt floor next ≡ b → floor ≤ cond (t && b) next floor
step_keeps true floor next true is = let low = ltb-true floor next is in omega (arith, low)
step_keeps true floor next false is = omega arith
step_keeps false floor next b is = omega arith

pub own_kept : (roster : List Entry) (held seed : List ℕ) (floor : ℕ) → floor ≤ raised_floor roster held seed floor
own_kept [] held seed floor = omega arith
own_kept (row ∷ roster) [] seed floor = omega arith
own_kept (row ∷ roster) (next ∷ held) seed floor =
    let first = step_keeps (bytes_eq row.seed seed) floor next (nat_lt floor next) refl in
    let rest = own_kept roster held seed (cond (bytes_eq row.seed seed && nat_lt floor next) next floor) in
    omega (arith, first, rest)

step_reaches : (t : Bool) (floor next : ℕ) (b : Bool) → t ≡ true → nat_lt floor next ≡ b → next ≤ cond (t && b) next floor
step_reaches true floor next true same is = omega arith
step_reaches true floor next false same is =
    elim (cases_lt floor next) [
      | inl low ↦ let x : true ≡ false = sym (lt-ltb floor next low) ∙ is in absurd cc
      | inr high ↦ high
    ]
step_reaches false floor next b same is = absurd cc

pub row_kept : (roster : List Entry) (held seed : List ℕ) (floor row next : ℕ) (e : Entry) → slice_get roster row ≡ Some e
    → slice_get held row ≡ Some next → e.seed ≡ seed → next ≤ raised_floor roster held seed floor
row_kept [] held seed floor row next e at got same = absurd cc
row_kept (x ∷ roster) [] seed floor row next e at got same = absurd cc
row_kept (x ∷ roster) (h ∷ held) seed floor zero next e at got same =
    let entry : x ≡ e = cc in
    let is : h ≡ next = cc in
    let equal : bytes_eq x.seed seed ≡ true = (bytes_eq-Decides x.seed seed).1 (ap (λ (y : Entry). y.seed) entry ∙ same) in
    let first = step_reaches (bytes_eq x.seed seed) floor h (nat_lt floor h) equal refl in
    let rest = own_kept roster held seed (cond (bytes_eq x.seed seed && nat_lt floor h) h floor) in
    omega (arith, first, rest, is)
row_kept (x ∷ roster) (h ∷ held) seed floor (suc row) next e at got same =
    row_kept roster held seed (cond (bytes_eq x.seed seed && nat_lt floor h) h floor) row next e at got same

-- ---- the loops

-- one floor more
pub floors_more : (rows : List RowRecord) (n : ℕ) (row : RowRecord) → slice_get rows n ≡ Some row
    → map (λ r. r.next) (take (n + 1) rows) ≡ map (λ r. r.next) (take n rows) ++ row.next ∷ []
floors_more rows n row at =
    let low = slice_get_within rows n row at in
    ap (λ (l : List RowRecord). map (λ r. r.next) l) (take_more rows n row low ∙ ap (λ (r : RowRecord). take n rows ++ r ∷ []) (get_or_from_slice_get rows n row row at))
    ∙ map-append (λ r. r.next) (take n rows) (row ∷ [])

-- one place more
pub seeded_more : (f : ℕ → ℕ) (places : List ℕ) (n : ℕ) (d : ℕ) → n < length places
    → map f (take (n + 1) places) ≡ map f (take n places) ++ f (get_or places n d) ∷ []
seeded_more f places n d low = ap (λ (l : List ℕ). map f l) (take_more places n d low) ∙ map-append f (take n places) (get_or places n d ∷ [])
