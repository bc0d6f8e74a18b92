-- MACs in ascending order.
use Rattle.std.proofs.Common.{◌≡◌, ℕ, zero, suc, ◌<◌, ◌≤◌, Bool, true, false, cond, List, [], ◌∷◌, length, get_or, refl, sym, ap, ◌∙◌, arith, add-one, true≢false}
use Rattle.std.specs.Prelude.{if◌then◌else◌}
use Rattle.std.specs.Cmp.{IsStrictWeakOrder}
use Rattle.std.specs.Cmp.Lexicographic.{slice_cmp}
use Rattle.std.specs.List.{AllByRecursion, sum_by}
use Rattle.std.specs.List.Sorted.{IsPermutation, IsSorted}
use Rattle.std.specs.Ordering.{is_lt, nat_cmp, ordering_reverse}
use Rattle.std.specs.declared.cmp.Ordering.{Ordering}
use Rattle.std.specs.declared.cmp.Ordering.TheVariants.{Less, Equal, Greater}
use Rattle.std.specs.Str.{bytes_eq}
use Rattle.std.proofs.lemmas.Cmp.{nat_list_cmp_total, tied_itself}
use Rattle.std.proofs.lemmas.List.MinMax.{ranks_by}
use Rattle.std.proofs.lemmas.List.Sorted.{IsPermutation-cons, IsPermutation-middle, IsPermutation-refl, IsPermutation-sym, IsPermutation-trans, sorted_far, sum_by-IsPermutation}
use Rattle.std.proofs.lemmas.List.Sums.{sum_by-cons}
use Rattle.std.proofs.lemmas.Map.Lookups.{exact_bytes}
use Rattle.std.proofs.lemmas.Slice.Eq.{bytes_eq-Decides}
use Rattle.cluster_file.specs.Rows.{in_order, placed}

-- whether a text is below another one
abbrev lt : List ℕ → List ℕ → Bool
lt x y = is_lt (slice_cmp nat_cmp x y)

order : IsStrictWeakOrder lt
order = ranks_by nat_list_cmp_total (λ x. x)

not_true : (test : Bool) → (test ≡ true → ⊥) → test ≡ false
not_true true h = absurd (h refl)
not_true false h = refl

-- of two different texts one is below the other
same_text : (x y : List ℕ) → lt x y ≡ false → lt y x ≡ false → x ≡ y
same_text x y h k = by (slice_cmp nat_cmp x y) refl
  where
    by : (o : Ordering) → slice_cmp nat_cmp x y ≡ o → x ≡ y
    by Less is = absurd (true≢false (sym (ap is_lt is) ∙ h))
    by Equal is = exact_bytes x y is
    by Greater is =
        let back : slice_cmp nat_cmp y x ≡ Less = nat_list_cmp_total.antisymm y x ∙ ap ordering_reverse is in
        absurd (true≢false (sym (ap is_lt back) ∙ k))

not_below_itself : (x : List ℕ) → lt x x ≡ false
not_below_itself x = ap is_lt (tied_itself nat_list_cmp_total x)

-- ---- lists that rise

-- no text is below an earlier one
abbrev pub Rises : List (List ℕ) → Type 0
Rises [] = Unit {0}
Rises (x ∷ xs) = AllByRecursion (λ y. lt y x ≡ false) xs × Rises xs

pub all_placed : (P : List ℕ → Type 0) (mac : List ℕ) (macs : List (List ℕ)) → P mac → AllByRecursion P macs → AllByRecursion P (placed mac macs)
all_placed P mac [] h k = (h, tt)
all_placed P mac (first ∷ others) h k = by (lt first mac) (all_placed P mac others h k.1)
  where
    by : (test : Bool) → AllByRecursion P (placed mac others) → AllByRecursion P (if test then first ∷ placed mac others else mac ∷ first ∷ others)
    by true more = (k.0, more)
    by false more = (h, k)

pub all_in_order : (P : List ℕ → Type 0) (macs : List (List ℕ)) → AllByRecursion P macs → AllByRecursion P (in_order macs)
all_in_order P [] h = tt
all_in_order P (mac ∷ macs) h = all_placed P mac (in_order macs) h.0 (all_in_order P macs h.1)

-- what isn't below a text isn't below a lower one
none_lower : (first mac : List ℕ) (others : List (List ℕ)) → lt first mac ≡ false → AllByRecursion (λ y. lt y first ≡ false) others
    → AllByRecursion (λ y. lt y mac ≡ false) others
none_lower first mac [] h k = tt
none_lower first mac (y ∷ others) h k = (order.chain y first mac k.0 h, none_lower first mac others h k.1)

placed_rises : (mac : List ℕ) (macs : List (List ℕ)) → Rises macs → Rises (placed mac macs)
placed_rises mac [] h = (tt, tt)
placed_rises mac (first ∷ others) h = by (lt first mac) refl (placed_rises mac others h.1)
  where
    by : (test : Bool) → lt first mac ≡ test → Rises (placed mac others) → Rises (if test then first ∷ placed mac others else mac ∷ first ∷ others)
    by true is more = (all_placed (λ y. lt y first ≡ false) mac others (order.one_way first mac is) h.0, more)
    by false is more = ((is, none_lower first mac others is h.0), h)

in_order_rises : (macs : List (List ℕ)) → Rises (in_order macs)
in_order_rises [] = tt
in_order_rises (mac ∷ macs) = placed_rises mac (in_order macs) (in_order_rises macs)

-- ---- lists of the same texts

placed_moves : (mac : List ℕ) (macs : List (List ℕ)) → IsPermutation (mac ∷ macs) (placed mac macs)
placed_moves mac [] = IsPermutation-refl (mac ∷ [])
placed_moves mac (first ∷ others) = by (lt first mac) (placed_moves mac others)
  where
    by : (test : Bool) → IsPermutation (mac ∷ others) (placed mac others)
        → IsPermutation (mac ∷ first ∷ others) (if test then first ∷ placed mac others else mac ∷ first ∷ others)
    by true more =
        IsPermutation-trans (mac ∷ first ∷ others) (first ∷ mac ∷ others) (first ∷ placed mac others)
        (IsPermutation-sym (first ∷ mac ∷ others) (mac ∷ first ∷ others) (IsPermutation-middle (first ∷ []) mac others))
        (IsPermutation-cons first (mac ∷ others) (placed mac others) more)
    by false more = IsPermutation-refl (mac ∷ first ∷ others)

pub in_order_moves : (macs : List (List ℕ)) → IsPermutation macs (in_order macs)
in_order_moves [] = IsPermutation-refl []
in_order_moves (mac ∷ macs) =
    IsPermutation-trans (mac ∷ macs) (mac ∷ in_order macs) (placed mac (in_order macs))
    (IsPermutation-cons mac macs (in_order macs) (in_order_moves macs)) (placed_moves mac (in_order macs))

-- 1 if two texts are equal, else 0
abbrev pub one : List ℕ → List ℕ → ℕ
one mac x = cond (bytes_eq mac x) 1 0

pub one_itself : (mac : List ℕ) → one mac mac ≡ 1
one_itself mac = ap (λ test. cond test 1 0) ((bytes_eq-Decides mac mac).1 refl)

one_other : (mac x : List ℕ) → (mac ≡ x → ⊥) → one mac x ≡ 0
one_other mac x h = ap (λ test. cond test 1 0) (not_true (bytes_eq mac x) (λ is. h ((bytes_eq-Decides mac x).0 is)))

-- a text below all others is none of them
none_of_it : (x y : List ℕ) (macs : List (List ℕ)) → lt x y ≡ true → AllByRecursion (λ z. lt z y ≡ false) macs → sum_by (one x) macs ≡ 0
none_of_it x y [] h k = refl
none_of_it x y (z ∷ macs) h k =
    let zero_of = one_other x z (λ e. true≢false (sym h ∙ ap (λ w. lt w y) e ∙ k.0)) in
    let others = none_of_it x y macs h k.1 in
    omega (arith, sum_by-cons (one x) z macs, zero_of, others)

not_first : (x y : List ℕ) (xs ys : List (List ℕ)) → Rises (y ∷ ys) → sum_by (one x) (x ∷ xs) ≡ sum_by (one x) (y ∷ ys) → lt x y ≡ false
not_first x y xs ys h e = not_true (lt x y) (λ below.
    let none = none_of_it x y (y ∷ ys) below (not_below_itself y, h.0) in
    omega (arith, sum_by-cons (one x) x xs, one_itself x, none, e))

-- lists that rise and have each text equally often are equal
pub same_order : (xs ys : List (List ℕ)) → Rises xs → Rises ys → ((mac : List ℕ) → sum_by (one mac) xs ≡ sum_by (one mac) ys) → xs ≡ ys
same_order [] [] h k e = refl
same_order [] (y ∷ ys) h k e = let none : 0 ≡ sum_by (one y) (y ∷ ys) = e y in absurd (omega (arith, none, sum_by-cons (one y) y ys, one_itself y))
same_order (x ∷ xs) [] h k e = let none : sum_by (one x) (x ∷ xs) ≡ 0 = e x in absurd (omega (arith, none, sum_by-cons (one x) x xs, one_itself x))
same_order (x ∷ xs) (y ∷ ys) h k e =
    let first = same_text x y (not_first x y xs ys k (e x)) (not_first y x ys xs h (sym (e y))) in
    let others = same_order xs ys h.1 k.1 (λ mac.
    let ones = ap (one mac) first in
    omega (arith, sum_by-cons (one mac) x xs, sum_by-cons (one mac) y ys, ones, e mac)) in
    cc

pub in_order_same : (xs ys : List (List ℕ)) → ((mac : List ℕ) → sum_by (one mac) xs ≡ sum_by (one mac) ys) → in_order xs ≡ in_order ys
in_order_same xs ys e = same_order (in_order xs) (in_order ys) (in_order_rises xs) (in_order_rises ys)
    (λ mac. sum_by-IsPermutation (one mac) xs (in_order xs) (in_order_moves xs) ∙ e mac ∙ sym (sum_by-IsPermutation (one mac) ys (in_order ys) (in_order_moves ys)))

-- ---- a sorted list

all_from_places : (P : List ℕ → Type 0) (xs : List (List ℕ)) → ((k : ℕ) (d : List ℕ) → k < length xs → P (get_or xs k d)) → AllByRecursion P xs
all_from_places P [] h = tt
all_from_places P (x ∷ xs) h = (h 0 x (omega arith), all_from_places P xs (λ k d within. h (suc k) d (omega (arith, within))))

-- no text is below an earlier one, by places
abbrev IsSortedFar : List (List ℕ) → Type 0
IsSortedFar xs = (i j : ℕ) (d : List ℕ) → i ≤ j → j < length xs → lt (get_or xs j d) (get_or xs i d) ≡ false

far_rises : (xs : List (List ℕ)) → IsSortedFar xs → Rises xs
far_rises [] far = tt
far_rises (x ∷ xs) far = (
  all_from_places (λ y. lt y x ≡ false) xs (λ k d within. far 0 (suc k) d (omega arith) (omega (arith, within))),
  far_rises xs (λ i j d le within. far (suc i) (suc j) d (omega (arith, le)) (omega (arith, within))),
)

-- the sorted texts are the texts in order
pub sorted_is : (macs sorted : List (List ℕ)) → IsPermutation macs sorted → IsSorted (slice_cmp nat_cmp) sorted → sorted ≡ in_order macs
sorted_is macs sorted moved up = same_order sorted (in_order macs) (far_rises sorted (λ i j d. sorted_far lt order sorted up i j d)) (in_order_rises macs)
    (λ mac. sum_by-IsPermutation (one mac) macs sorted moved ∙ sym (sum_by-IsPermutation (one mac) macs (in_order macs) (in_order_moves macs)))

rises_at : (xs : List (List ℕ)) → Rises xs → (k : ℕ) (d : List ℕ) → suc k < length xs → lt (get_or xs (suc k) d) (get_or xs k d) ≡ false
rises_at [] h k d within = absurd (omega (arith, within))
rises_at (x ∷ []) h k d within = absurd (omega (arith, within))
rises_at (x ∷ y ∷ xs) h zero d within = h.0.0
rises_at (x ∷ y ∷ xs) h (suc k) d within = rises_at (y ∷ xs) h.1 k d (omega (arith, within))

pub in_order_sorted : (macs : List (List ℕ)) → IsSorted (slice_cmp nat_cmp) (in_order macs)
in_order_sorted macs k d low within = rw add-one (rises_at (in_order macs) (in_order_rises macs) k d (omega (arith, within)))
