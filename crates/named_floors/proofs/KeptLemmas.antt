-- What a remade store keeps of the gathered rows and of the tokens.
use Rattle.std.proofs.Common.{◌≡◌, ◌≢◌, ℕ, zero, suc, ◌+◌, Bool, true, false, cond, not, List, [], ◌∷◌, ◌++◌, length, slice_get, Option, Some, None, ◌||◌, is_some, All, refl, sym, ap, subst, ◌∙◌, true≢false, arith}
use Rattle.std.specs.Prelude.{option_map}
use Rattle.std.specs.Str.{bytes_eq}
use Rattle.std.proofs.lemmas.List.{length-map}
use Rattle.std.proofs.lemmas.List.Elements.{All-cons, All-nil}
use Rattle.std.proofs.lemmas.List.Kept.{AllPairs-cons}
use Rattle.std.proofs.lemmas.Option.{get_or_from_slice_get, slice_get-map}
use Rattle.std.proofs.lemmas.Slice.Eq.{bytes_eq-Decides}
use Rattle.floors_file.specs.declared.named.NamedFloor.{NamedFloor}
use Rattle.floors_file.specs.NamedGathered.{AreDifferent}
use Rattle.floors_file.specs.NamedRows.{place_from}
use Rattle.roster_sql.specs.declared.entry.Entry.{Entry}
use Rattle.named_store.specs.Floors.{no_entry, raised_floor, seeded_floor}
use Rattle.named_store.specs.Seating.{AreDistinct, has_name, new_entries, new_from, new_places}
use Rattle.named_store.proofs.FloorLemmas.{own_kept, row_kept}
use Rattle.named_store.proofs.IndexLemmas.{name_stays}
use Rattle.named_floors.specs.Remade.{HasRemade, IsTaken, entry_with, gathered_entries, gathered_entry, gathered_floors, raised_floors, remade_entries, seed_in}
use Rattle.named_floors.proofs.RemadeLemmas.{rows_distinct}

abbrev present : {A : Type 0} → A → Option A
present x = Some x

-- ---- elements of a list that is followed by another

get_stays : {A : Type 0} (xs ys : List A) (k : ℕ) (x : A) → slice_get xs k ≡ Some x → slice_get (xs ++ ys) k ≡ Some x
get_stays [] ys k x at = absurd cc
get_stays (y ∷ xs) ys zero x at = at
get_stays (y ∷ xs) ys (suc k) x at = get_stays xs ys k x at

get_behind : {A : Type 0} (xs ys : List A) (k : ℕ) → slice_get (xs ++ ys) (length xs + k) ≡ slice_get ys k
get_behind [] ys k = let same : 0 + k ≡ k = omega arith in ap (slice_get ys) same
get_behind (x ∷ xs) ys k =
    let same : suc (length xs) + k ≡ suc (length xs + k) = omega arith in
    ap (slice_get (x ∷ xs ++ ys)) same ∙ get_behind xs ys k

-- ---- a gathered row

no_seed_here : (seed : List ℕ) (rest : Option (List ℕ)) (test more : Bool) → (test || more) ≡ false → (more ≡ false → rest ≡ None)
    → cond test (Some seed) rest ≡ None
no_seed_here seed rest true more none is = absurd (true≢false none)
no_seed_here seed rest false more none is = is none

-- a name that no entry has
no_seed : (name : List ℕ) (names : List Entry) → has_name names name ≡ false → seed_in name names ≡ None
no_seed name [] none = refl
no_seed name (e ∷ names) none =
    no_seed_here e.seed (seed_in name names) (bytes_eq e.name name) (has_name names name) none (no_seed name names)

pub row_remade : (gathered : List NamedFloor) (names : List Entry) (floors : List ℕ) (place : ℕ) (row : NamedFloor) → slice_get gathered place ≡ Some row
    → HasRemade gathered names floors place row
row_remade gathered names floors place row at =
    let roster = gathered_entries names gathered in
    let entry : slice_get roster place ≡ Some (gathered_entry names row) =
    slice_get-map (gathered_entry names) gathered place ∙ ap (option_map (gathered_entry names)) at in
    let floor : slice_get (gathered_floors gathered) place ≡ Some row.next =
    slice_get-map (λ (r : NamedFloor). r.next) gathered place ∙ ap (option_map (λ (r : NamedFloor). r.next)) at in
    record {
      named = name_stays roster (new_entries roster names) place row.name (ap (option_map (λ (e : Entry). e.name)) entry);
      own_seed = λ none. get_stays roster (new_entries roster names) place (gathered_entry names row) entry
          ∙ ap (λ (seed : Option (List ℕ)). present (entry_with seed row)) (no_seed row.name names none);
      floor = get_stays (gathered_floors gathered) (raised_floors gathered names floors) place row.next floor;
    }

-- ---- a token whose name no row has

record IsNewAt (roster names : List Entry) (p place : ℕ) (e : Entry) : Type 0 where
  k : ℕ
  entry : slice_get (new_entries roster names) k ≡ Some e
  here : slice_get (new_from p roster names) k ≡ Some place

new_here : (roster names : List Entry) (p place : ℕ) (x e : Entry) (t : Bool) → has_name roster x.name ≡ t → IsNewAt roster names (p + 1) place e
    → IsNewAt roster (x ∷ names) p place e
new_here roster names p place x e true is it = record {
  k = it.k;
  entry = ap (λ (t : Bool). slice_get (cond (not t) (x ∷ new_entries roster names) (new_entries roster names)) it.k) is ∙ it.entry;
  here = ap (λ (t : Bool). slice_get (cond t (new_from (p + 1) roster names) (p ∷ new_from (p + 1) roster names)) it.k) is ∙ it.here;
}
new_here roster names p place x e false is it = record {
  k = suc it.k;
  entry = ap (λ (t : Bool). slice_get (cond (not t) (x ∷ new_entries roster names) (new_entries roster names)) (suc it.k)) is ∙ it.entry;
  here = ap (λ (t : Bool). slice_get (cond t (new_from (p + 1) roster names) (p ∷ new_from (p + 1) roster names)) (suc it.k)) is ∙ it.here;
}

pub some_is : {A : Type 0} (x y : A) → present x ≡ present y → x ≡ y
some_is x y e = cc

new_first : (roster names : List Entry) (p : ℕ) (e : Entry) → has_name roster e.name ≡ false → IsNewAt roster (e ∷ names) p (p + 0) e
new_first roster names p e none = record {
  k = 0;
  entry = ap (λ (t : Bool). slice_get (cond (not t) (e ∷ new_entries roster names) (new_entries roster names)) 0) none;
  here = (let same : p ≡ p + 0 = omega arith in
      ap (λ (t : Bool). slice_get (cond t (new_from (p + 1) roster names) (p ∷ new_from (p + 1) roster names)) 0) none ∙ ap present same);
}

new_at : (roster names : List Entry) (p token : ℕ) (e : Entry) → slice_get names token ≡ Some e → has_name roster e.name ≡ false
    → IsNewAt roster names p (p + token) e
new_at roster [] p token e at none = absurd cc
new_at roster (x ∷ names) p zero e at none =
    subst (λ (y : Entry). IsNewAt roster (y ∷ names) p (p + 0) e) (sym (some_is x e at)) (new_first roster names p e none)
new_at roster (x ∷ names) p (suc token) e at none =
    let same : p + 1 + token ≡ p + suc token = omega arith in
    subst (λ (n : ℕ). IsNewAt roster (x ∷ names) p n e) same
    (new_here roster names p (p + 1 + token) x e (has_name roster x.name) refl (new_at roster names (p + 1) token e at none))

pub token_taken : (gathered : List NamedFloor) (names : List Entry) (floors : List ℕ) (token : ℕ) (e : Entry) (floor : ℕ)
    → slice_get names token ≡ Some e → slice_get floors token ≡ Some floor
    → has_name (gathered_entries names gathered) e.name ≡ false → IsTaken gathered names floors e floor
token_taken gathered names floors token e floor at own none =
    let roster = gathered_entries names gathered in
    let held = gathered_floors gathered in
    let next = raised_floor roster held e.seed floor in
    let it = new_at roster names 0 token e at none in
    let zero_is : 0 + token ≡ token = omega arith in
    let seeded : seeded_floor roster held names floors token ≡ next =
    (λ i. raised_floor roster held (get_or_from_slice_get names token e no_entry at i).seed (get_or_from_slice_get floors token floor 0 own i)) in
    let counted : length roster ≡ length held = length-map gathered (gathered_entry names) ∙ sym (length-map gathered (λ (r : NamedFloor). r.next)) in
    record {
      place = length roster + it.k;
      next = next;
      entry = get_behind roster (new_entries roster names) it.k ∙ it.entry;
      is_floor = ap (λ (n : ℕ). slice_get (held ++ raised_floors gathered names floors) (n + it.k)) counted
          ∙ get_behind held (raised_floors gathered names floors) it.k
          ∙ slice_get-map (seeded_floor roster held names floors) (new_places roster names) it.k
          ∙ ap (option_map (seeded_floor roster held names floors)) (it.here ∙ ap present zero_is)
          ∙ ap present seeded;
      own = own_kept roster held e.seed floor;
      seeded = λ row more other there got same. row_kept roster held e.seed floor row more other there got same;
    }

-- ---- names that differ

other_here : (p : ℕ) (name : List ℕ) (names : List Entry) (other : NamedFloor) (rows : List NamedFloor) (t : Bool) → bytes_eq other.name name ≡ t
    → is_some (cond t (Some p) (place_from (p + 1) name rows)) ≡ false
    → (is_some (place_from (p + 1) name rows) ≡ false → All (λ (x : Entry). name ≢ x.name) (gathered_entries names rows))
    → All (λ (x : Entry). name ≢ x.name) (gathered_entries names (other ∷ rows))
other_here p name names other rows true is none rest = absurd (true≢false none)
other_here p name names other rows false is none rest =
    All-cons (λ (x : Entry). name ≢ x.name) (gathered_entry names other) (gathered_entries names rows)
    (λ same. true≢false (sym ((bytes_eq-Decides other.name name).1 (sym same)) ∙ is)) (rest none)

all_other : (p : ℕ) (name : List ℕ) (names : List Entry) (rows : List NamedFloor) → is_some (place_from p name rows) ≡ false
    → All (λ (x : Entry). name ≢ x.name) (gathered_entries names rows)
all_other p name names [] none = All-nil (λ (x : Entry). name ≢ x.name)
all_other p name names (other ∷ rows) none =
    other_here p name names other rows (bytes_eq other.name name) refl none (all_other (p + 1) name names rows)

pub gathered_distinct : (names : List Entry) (gathered : List NamedFloor) → AreDifferent gathered → AreDistinct (gathered_entries names gathered)
gathered_distinct names [] different = λ i j d before low. absurd (omega (arith, low))
gathered_distinct names (row ∷ gathered) different =
    AllPairs-cons (λ (a b : Entry). a.name ≢ b.name) (gathered_entry names row) (gathered_entries names gathered)
    (all_other 0 row.name names gathered different.0) (gathered_distinct names gathered different.1)

pub remade_distinct : (gathered : List NamedFloor) (names : List Entry) → AreDifferent gathered → AreDistinct names → AreDistinct (remade_entries gathered names)
remade_distinct gathered names different distinct =
    rows_distinct (gathered_entries names gathered) names (gathered_distinct names gathered different) distinct
