-- The puts that raise the rows of seats.
use Rattle.std.proofs.Common.{◌≡◌, ◌≤◌, ◌<◌, ℕ, zero, suc, ◌+◌, List, [], ◌∷◌, ◌++◌, length, take, get_or, slice_get, Option, None, Some, refl, sym, ap, subst, ◌∙◌, append-nil, arith}
use Rattle.std.specs.List.{cons_option, filter_map}
use Rattle.std.specs.Option.{ForSome, option_to_list}
use Rattle.std.proofs.lemmas.List.{take_more, length-append}
use Rattle.floor_sql.specs.declared.put.Put.{Put}
use Rattle.named_store.specs.Opened.{AreWithin}

cons_append : {A : Type 0} (o : Option A) (xs ys : List A) → cons_option o xs ++ ys ≡ cons_option o (xs ++ ys)
cons_append None xs ys = refl
cons_append (Some x) xs ys = refl

last_option : {A : Type 0} (o : Option A) → cons_option o [] ≡ option_to_list o
last_option None = refl
last_option (Some x) = refl

filter_map_more : {A B : Type 0} (f : A → Option B) (xs : List A) (x : A) → filter_map f (xs ++ x ∷ []) ≡ filter_map f xs ++ option_to_list (f x)
filter_map_more f [] x = last_option (f x)
filter_map_more f (y ∷ xs) x = ap (cons_option (f y)) (filter_map_more f xs x) ∙ sym (cons_append (f y) (filter_map f xs) (option_to_list (f x)))

-- one seat more
pub puts_more : (f : ℕ → Option Put) (all : List Put) (seats : List ℕ) (n seat : ℕ) (put : Option Put) → n < length seats → seat ≡ get_or seats n seat → put ≡ f seat
    → all ≡ filter_map f (take n seats) → all ++ option_to_list put ≡ filter_map f (take (n + 1) seats)
puts_more f all seats n seat put low is made was =
    (λ i. was i ++ option_to_list (made i)) ∙ sym (filter_map_more f (take n seats) seat)
    ∙ ap (λ (x : ℕ). filter_map f (take n seats ++ x ∷ [])) is ∙ ap (filter_map f) (sym (take_more seats n seat low))

within_one : (rows : ℕ) (all : List Put) (p : Put) → AreWithin rows all → p.token < rows → AreWithin rows (all ++ p ∷ [])
within_one rows [] p was low zero q at = let same : p ≡ q = cc in subst (λ (x : Put). x.token < rows) same low
within_one rows [] p was low (suc i) q at = absurd cc
within_one rows (x ∷ all) p was low zero q at = was zero q at
within_one rows (x ∷ all) p was low (suc i) q at = within_one rows all p (λ j r got. was (suc j) r got) low i q at

pub within_more : (rows : ℕ) (all : List Put) (put : Option Put) → AreWithin rows all → ForSome put (λ p. p.token < rows) → AreWithin rows (all ++ option_to_list put)
within_more rows all None was low = subst (AreWithin rows) (sym (append-nil all)) was
within_more rows all (Some p) was low = within_one rows all p was (low p refl)

pub few_more : (all : List Put) (put : Option Put) (n : ℕ) (new : List Put) → new ≡ all ++ option_to_list put → length all ≤ n → length new ≤ n + 1
few_more all None n new is few = let long = ap (λ (l : List Put). length l) is ∙ length-append all [] in omega (arith, few, long)
few_more all (Some p) n new is few = let long = ap (λ (l : List Put). length l) is ∙ length-append all (p ∷ []) in omega (arith, few, long)
