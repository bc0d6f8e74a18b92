-- The same list many times.
use Rattle.std.proofs.Common.{◌≡◌, ℕ, zero, suc, ◌+◌, ◌≤◌, List, [], ◌∷◌, ◌++◌, length, Some, refl, sym, ap, ◌∙◌, subst, arith}
use Rattle.std.specs.Global.{Vec}
use Rattle.std.specs.List.{slice_get}
use Rattle.std.proofs.lemmas.Option.{none-some, same_Some}

-- `count` lists, each of which equals `floors`
pub record AreCopies (floors : List ℕ) (count : ℕ) (lists : List (Vec ℕ)) : Type 0 where
  pub size : length lists ≡ count
  pub same : (k : ℕ) (list : Vec ℕ) → slice_get lists k ≡ Some list → list.items ≡ floors

pub no_copies : (floors : List ℕ) (lists : List (Vec ℕ)) → lists ≡ [] → AreCopies floors 0 lists
no_copies floors lists is = record {
  size = ap (λ (l : List (Vec ℕ)). length l) is;
  same = λ k list e. absurd (none-some list (ap (λ (l : List (Vec ℕ)). slice_get l k) (sym is) ∙ e));
}

either : (floors : List ℕ) (old : List (Vec ℕ)) (new : Vec ℕ) → ((k : ℕ) (list : Vec ℕ) → slice_get old k ≡ Some list → list.items ≡ floors) → new.items ≡ floors
    → (k : ℕ) (list : Vec ℕ) → slice_get (old ++ new ∷ []) k ≡ Some list → list.items ≡ floors
either floors [] new all one zero list e = ap (λ (v : Vec ℕ). v.items) (sym (same_Some new list e)) ∙ one
either floors [] new all one (suc k) list e = absurd (none-some list e)
either floors (x ∷ old) new all one zero list e = all zero list e
either floors (x ∷ old) new all one (suc k) list e = either floors old new (λ j l f. all (suc j) l f) one k list e

grown : (xs : List (Vec ℕ)) (y : Vec ℕ) → length (xs ++ y ∷ []) ≡ suc (length xs)
grown [] y = refl
grown (x ∷ xs) y = ap suc (grown xs y)

pub copy_more : (floors : List ℕ) (count : ℕ) (old new : List (Vec ℕ)) (list : Vec ℕ) → new ≡ old ++ list ∷ [] → list.items ≡ floors → AreCopies floors count old → AreCopies floors (count + 1) new
copy_more floors count old new list is one h = record {
  size = ap (λ (l : List (Vec ℕ)). length l) is ∙ grown old list ∙ more (length old) count h.size;
  same = subst (λ (l : List (Vec ℕ)). (k : ℕ) (y : Vec ℕ) → slice_get l k ≡ Some y → y.items ≡ floors) (sym is) (either floors old list h.same one);
}
  where
    more : (n m : ℕ) → n ≡ m → suc n ≡ m + 1
    more n m e = omega (arith, e)

pub count_is : (floors : List ℕ) (n count : ℕ) (lists : List (Vec ℕ)) → n ≤ count → count ≤ n → AreCopies floors count lists → length lists ≡ n
count_is floors n count lists low high h = same n count (length lists) low high h.size
  where
    same : (n k m : ℕ) → n ≤ k → k ≤ n → m ≡ k → m ≡ n
    same n k m a b c = omega (arith, a, b, c)
