-- The greatest floors of seeds, and the puts that raise rows to them.
use Rattle.std.proofs.Common.{◌≡◌, ◌⊎◌, ℕ, suc, ◌+◌, ◌<◌, ◌≤◌, Bool, true, false, cond, ◌&&◌, nat_lt, List, [], ◌∷◌, ◌++◌, length, take, get_or, Option, Some, None, inl, inr, BTreeMap, refl, sym, ap, subst, ◌∙◌, arith, map, slice_index_or}
use Rattle.std.specs.Ordering.{nat_cmp}
use Rattle.std.specs.Cmp.Lexicographic.{slice_cmp}
use Rattle.std.specs.Str.{bytes_eq}
use Rattle.std.specs.BTreeMap as tree
use Rattle.std.proofs.lemmas.Bool.{cases_lt, ltb-true, lt-ltb}
use Rattle.std.proofs.lemmas.List.{take_more, length-take-le}
use Rattle.std.proofs.lemmas.Map.Text.{is_eq-slice_cmp}
use Rattle.std.proofs.lemmas.Slice.Eq.{bytes_eq-Decides}
use Rattle.roster_sql.specs.declared.entry.Entry.{Entry}
use Rattle.named_store.specs.Floors.{AddsFloor, HasGreatest, lifted_by, no_entry, raised_floor, seeded_floor, seeded_floors}
use Rattle.named_store.proofs.FloorLemmas.{seeded_more}

-- one row behind the others
raised_behind : (roster : List Entry) (held : List ℕ) (e : Entry) (next : ℕ) (seed : List ℕ) (floor : ℕ) → length held ≡ length roster
    → raised_floor (roster ++ e ∷ []) (held ++ next ∷ []) seed floor
    ≡ cond (bytes_eq e.seed seed && nat_lt (raised_floor roster held seed floor) next) next (raised_floor roster held seed floor)
raised_behind [] [] e next seed floor is = refl
raised_behind [] (h ∷ held) e next seed floor is = absurd cc
raised_behind (x ∷ roster) [] e next seed floor is = absurd cc
raised_behind (x ∷ roster) (h ∷ held) e next seed floor is =
    raised_behind roster held e next seed (cond (bytes_eq x.seed seed && nat_lt floor h) h floor) (cc)

-- the greater of two numbers, in either form
greater_of : (a b : ℕ) (t : Bool) → nat_lt a b ≡ t → (a ≤ cond t b a) × (b ≤ cond t b a)
greater_of a b true is = let low = ltb-true a b is in (omega (arith, low), omega arith)
greater_of a b false is =
    elim (cases_lt a b) [
      | inl low ↦ let x : true ≡ false = sym (lt-ltb a b low) ∙ is in absurd cc
      | inr high ↦ (omega arith, omega (arith, high))
    ]

cond_one : (a b : ℕ) (t : Bool) → (cond t b a ≡ a) ⊎ (cond t b a ≡ b)
cond_one a b true = inr refl
cond_one a b false = inl refl

-- lifting by the greater of two floors is lifting by one and then by the other
lift_twice : (former : Option ℕ) (next floor : ℕ) → lifted_by (Some (lifted_by former next)) floor
    ≡ cond (nat_lt (lifted_by former floor) next) next (lifted_by former floor)
lift_twice None next floor = refl
lift_twice (Some m) next floor =
    let one = greater_of next m (nat_lt next m) refl in
    let one_is = cond_one next m (nat_lt next m) in
    let both : ℕ = cond (nat_lt next m) m next in
    let left = greater_of floor both (nat_lt floor both) refl in
    let left_is = cond_one floor both (nat_lt floor both) in
    let first = greater_of floor m (nat_lt floor m) refl in
    let first_is = cond_one floor m (nat_lt floor m) in
    let mid : ℕ = cond (nat_lt floor m) m floor in
    let right = greater_of mid next (nat_lt mid next) refl in
    let right_is = cond_one mid next (nat_lt mid next) in
    omega (arith, one.0, one.1, one_is, left.0, left.1, left_is, first.0, first.1, first_is, right.0, right.1, right_is)

-- the index after one more row
index_more : (t : Bool) (former got : Option ℕ) (next floor raised : ℕ) → (t ≡ true → got ≡ former) → lifted_by got floor ≡ raised
    → lifted_by (cond t (Some (lifted_by former next)) got) floor ≡ cond (t && nat_lt raised next) next raised
index_more true former got next floor raised same is =
    let it : lifted_by former floor ≡ raised = ap (λ (o : Option ℕ). lifted_by o floor) (sym (same refl)) ∙ is in
    lift_twice former next floor ∙ ap (λ (n : ℕ). cond (nat_lt n next) next n) it
index_more false former got next floor raised same is = is

pub greatest_more : (roster : List Entry) (held : List ℕ) (n : ℕ) (d : Entry) (h : ℕ) (old new : BTreeMap (List ℕ) ℕ) → n < length roster
    → length held ≡ length roster → HasGreatest (take n roster) (take n held) old
    → AddsFloor (get_or roster n d) (get_or held n h) old new → HasGreatest (take (n + 1) roster) (take (n + 1) held) new
greatest_more roster held n d h old new low counted has adds seed floor =
    let e : Entry = get_or roster n d in
    let next : ℕ = get_or held n h in
    let got : Option ℕ = tree.get (slice_cmp nat_cmp) old seed in
    let former : Option ℕ = tree.get (slice_cmp nat_cmp) old e.seed in
    let there : tree.get (slice_cmp nat_cmp) new seed ≡ cond (bytes_eq e.seed seed) (Some (lifted_by former next)) got =
    adds.updates.0 seed ∙ ap (λ t. cond t (Some (lifted_by former next)) got) (is_eq-slice_cmp e.seed seed) in
    let few : length (take n held) ≡ length (take n roster) =
    omega (arith, length-take-le n held (omega (arith, low, counted)), length-take-le n roster (omega (arith, low))) in
    let same : bytes_eq e.seed seed ≡ true → got ≡ former =
    λ is. ap (λ (s : List ℕ). tree.get (slice_cmp nat_cmp) old s) (sym ((bytes_eq-Decides e.seed seed).0 is)) in
    ap (λ (o : Option ℕ). lifted_by o floor) there
    ∙ index_more (bytes_eq e.seed seed) former got next floor (raised_floor (take n roster) (take n held) seed floor) same (has seed floor)
    ∙ sym (raised_behind (take n roster) (take n held) e next seed floor few)
    ∙ (λ i. raised_floor (sym (take_more roster n d low) i) (sym (take_more held n h (omega (arith, low, counted))) i) seed floor)

-- the same, by what was read of a row
pub greatest_at : {e : Entry} (roster : List Entry) (held : List ℕ) (n next : ℕ) (old new : BTreeMap (List ℕ) ℕ) → AddsFloor e next old new
    → n < length roster → length held ≡ length roster → e ≡ get_or roster n e → next ≡ get_or held n next
    → HasGreatest (take n roster) (take n held) old → HasGreatest (take (n + 1) roster) (take (n + 1) held) new
greatest_at {e} roster held n next old new adds low counted entry_is next_is has =
    greatest_more roster held n e next old new low counted has
    (subst (λ (f : ℕ). AddsFloor (get_or roster n e) f old new) next_is (subst (λ (x : Entry). AddsFloor x next old new) entry_is adds))

-- the floor of one place more, by the index
pub floors_lifted : (roster : List Entry) (held : List ℕ) (names : List Entry) (floors places all : List ℕ) (n item : ℕ) (index : BTreeMap (List ℕ) ℕ) → n < length places
    → HasGreatest roster held index
    → item ≡ lifted_by (tree.get (slice_cmp nat_cmp) index (slice_index_or names (get_or places n 0) no_entry).seed) (slice_index_or floors (get_or places n 0) 0)
    → all ≡ seeded_floors roster held names floors (take n places) → all ++ item ∷ [] ≡ seeded_floors roster held names floors (take (n + 1) places)
floors_lifted roster held names floors places all n item index low has is was =
    let at : ℕ = get_or places n 0 in
    let floor : item ≡ seeded_floor roster held names floors at = is ∙ has (slice_index_or names at no_entry).seed (slice_index_or floors at 0) in
    (λ i. was i ++ floor i ∷ []) ∙ sym (seeded_more (seeded_floor roster held names floors) places n 0 low)
