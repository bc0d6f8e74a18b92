-- The number of a name in a list of names, and the index of the names.
use Rattle.std.proofs.Common.{◌≡◌, ℕ, zero, suc, ◌+◌, ◌<◌, Bool, true, false, cond, List, [], ◌∷◌, length, drop, get_or, ltb, Option, Some, None, Bor, refl, sym, ap, subst, ◌∙◌, arith}
use Rattle.std.specs.Prelude.{slice_get, is_some, IfSome}
use Rattle.std.specs.Option.{option_copied}
use Rattle.std.specs.Ordering.{nat_cmp}
use Rattle.std.specs.Str.{bytes_eq}
use Rattle.std.specs.BTreeMap as tree
use Rattle.std.specs.BTreeMap.{BTreeMap}
use Rattle.std.proofs.Math.Seq.{drop-cons}
use Rattle.std.proofs.lemmas.Bool.{ltb-true}
use Rattle.std.proofs.lemmas.Option.{get_or_from_slice_get, slice_get_read, slice_get_within}
use Rattle.std.proofs.lemmas.Slice.Eq.{bytes_eq-Decides}
use Rattle.token_names.specs.Names.{AreDistinct}
use Rattle.named_port.specs.Names.{IsName, number_from, number_of, value_of}
use Rattle.named_port.proofs.ValueLemmas.{is_eq-values}

abbrev present : {A : Type 0} → A → Option A
present x = Some x

some_is : {A : Type 0} (x y : A) → present x ≡ present y → x ≡ y
some_is x y e = cc

-- ---- a name has the number of its place

not_same : (t : Bool) (x y : List ℕ) → bytes_eq x y ≡ t → (x ≡ y → ⊥) → t ≡ false
not_same false x y is apart = refl
not_same true x y is apart = absurd (apart ((bytes_eq-Decides x y).0 is))

rest_distinct : (x : List ℕ) (names : List (List ℕ)) → AreDistinct (x ∷ names) → AreDistinct names
rest_distinct x names distinct = λ i j d low high. distinct (suc i) (suc j) d (omega (arith, low)) (omega (arith, high))

number_is : (p n : ℕ) (names : List (List ℕ)) (name : List ℕ) → AreDistinct names → slice_get names n ≡ Some name → number_from p names name ≡ Some (p + n)
number_is p n [] name distinct at = absurd cc
number_is p zero (x ∷ names) name distinct at =
    let p_is : p ≡ p + 0 = omega arith in
    ap (λ t. cond t (Some p) (number_from (p + 1) names name)) ((bytes_eq-Decides x name).1 (some_is x name at)) ∙ ap present p_is
number_is p (suc n) (x ∷ names) name distinct at =
    let within : n < length names = slice_get_within names n name at in
    let there : get_or names n [] ≡ name = get_or_from_slice_get names n name [] at in
    let other : bytes_eq x name ≡ false =
    not_same (bytes_eq x name) x name refl (λ same. distinct 0 (suc n) [] (omega arith) (omega (arith, within)) (same ∙ sym there)) in
    let p_is : p + 1 + n ≡ p + suc n = omega arith in
    ap (λ t. cond t (Some p) (number_from (p + 1) names name)) other ∙ number_is (p + 1) n names name (rest_distinct x names distinct) at ∙ ap present p_is

pub number_of_place : (names : List (List ℕ)) (n : ℕ) (name : List ℕ) → AreDistinct names → slice_get names n ≡ Some name → number_of names name ≡ Some n
number_of_place names n name distinct at =
    let n_is : 0 + n ≡ n = omega arith in number_is 0 n names name distinct at ∙ ap present n_is

-- a name that is read at a place
pub own_number : (names : List (List ℕ)) (n : ℕ) (read : Option (Bor (List ℕ))) (found : Option (List ℕ)) → AreDistinct names → found ≡ option_copied read
    → is_some read ≡ ltb n (length names) → IfSome read (λ name. name.now ≡ get_or names n name.now) → IfSome found (λ name. number_of names name ≡ Some n)
own_number names n None None distinct is within at = tt
own_number names n None (Some name) distinct is within at = absurd cc
own_number names n (Some read) None distinct is within at = tt
own_number names n (Some read) (Some name) distinct is within at =
    let same : read.now ≡ name = some_is read.now name (sym is) in
    let low : n < length names = ltb-true n (length names) (sym within) in
    let there : name ≡ get_or names n name = subst (λ (x : List ℕ). x ≡ get_or names n x) same at in
    number_of_place names n name distinct (slice_get_read names (length names) n name refl low there)

-- ---- the place of a number has its name

record IsFoundAt (p number : ℕ) (names : List (List ℕ)) (name : List ℕ) : Type 0 where
  n : ℕ
  is : number ≡ p + n
  there : slice_get names n ≡ Some name

found_at : (p number : ℕ) (x : List ℕ) (names : List (List ℕ)) (name : List ℕ) (t : Bool) → bytes_eq x name ≡ t → cond t (Some p) (number_from (p + 1) names name) ≡ Some number
    → (number_from (p + 1) names name ≡ Some number → IsFoundAt (p + 1) number names name) → IsFoundAt p number (x ∷ names) name
found_at p number x names name true is e rest =
    record { n = 0; is = (let same : p ≡ number = some_is p number e in omega (arith, same)); there = ap present ((bytes_eq-Decides x name).0 is) }
found_at p number x names name false is e rest =
    let f = rest e in record { n = suc f.n; is = omega (arith, f.is); there = f.there }

found : (p number : ℕ) (names : List (List ℕ)) (name : List ℕ) → number_from p names name ≡ Some number → IsFoundAt p number names name
found p number [] name e = absurd cc
found p number (x ∷ names) name e = found_at p number x names name (bytes_eq x name) refl e (found (p + 1) number names name)

pub name_of_number : (names : List (List ℕ)) (number : ℕ) (name : List ℕ) → number_of names name ≡ Some number → slice_get names number ≡ Some name
name_of_number names number name e =
    let f = found 0 number names name e in
    let same : f.n ≡ number = omega (arith, f.is) in
    subst (λ (n : ℕ). slice_get names n ≡ Some name) same f.there

pub named_by : (names : List (List ℕ)) (name : List ℕ) (number : Option ℕ) → number ≡ number_of names name → IfSome number (λ n. slice_get names n ≡ Some name)
named_by names name None is = tt
named_by names name (Some number) is = name_of_number names number name (sym is)

-- ---- the index

-- the index has the numbers of the names from a place on
abbrev pub HasFrom : ℕ → List (List ℕ) → BTreeMap ℕ ℕ → Type 0
HasFrom place names index = (name : List ℕ) → IsName name → tree.get nat_cmp index (value_of name) ≡ number_from place (drop place names) name

-- one more name, at the place before
pub has_from_before : (names : List (List ℕ)) (place upper : ℕ) (key : List ℕ) (old new : BTreeMap ℕ ℕ) → upper ≡ place + 1 → place < length names → IsName key
    → key ≡ get_or names place key → HasFrom upper names old → tree.Updates nat_cmp old new (value_of key) (Some place) → HasFrom place names new
has_from_before names place upper key old new up within fine is has updates = λ name named.
    let next : suc place ≡ upper = omega (arith, up) in
    let parts : drop place names ≡ key ∷ drop upper names =
    drop-cons names place key within ∙ ap (λ (x : List ℕ). x ∷ drop (suc place) names) (sym is) ∙ ap (λ (n : ℕ). key ∷ drop n names) next in
    updates.0 (value_of name)
    ∙ ap (λ (t : Bool). cond t (Some place) (tree.get nat_cmp old (value_of name))) (is_eq-values key name fine named)
    ∙ ap (cond (bytes_eq key name) (Some place)) (has name named ∙ ap (λ (n : ℕ). number_from n (drop upper names) name) up)
    ∙ sym (ap (λ (l : List (List ℕ)). number_from place l name) parts)
