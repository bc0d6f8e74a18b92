-- Seats of one token, and the greatest floor of a store of one row or of two, whose tokens are of one device.
use Rattle.std.proofs.Common.{◌≡◌, ℕ, zero, suc, ◌<◌, ◌≤◌, [], ◌∷◌, Some, None, refl, subst, arith, eqb}
use Rattle.std.proofs.lemmas.Bool.{cond_both}
use Rattle.std.proofs.lemmas.Option.{none-some, same_Some}
use Rattle.floor_store.specs.Content.{Content}
use Rattle.vote_core.specs.Books.{number_of}
use Rattle.vote_core.specs.Rows.{row}
use Rattle.book_law.specs.Lives.{Store, floor_in_row, floor_of}
use Rattle.book_law.specs.SeedExamples.{one_device}
use Rattle.book_law.specs.Seeds.{AreGreatest, HaveSeedsOnce}

pub one_seat : (seed : ℕ → ℕ) (t : ℕ) → HaveSeedsOnce seed (t ∷ [])
one_seat seed t zero zero one other at also same = refl
one_seat seed t zero (suc j) one other at also same = absurd (none-some other also)
one_seat seed t (suc i) j one other at also same = absurd (none-some one at)

pub one_greatest : (store : Store) (t : ℕ) → ((other : ℕ) → floor_of store other ≤ floor_of store t) → AreGreatest one_device (t ∷ []) store
one_greatest store t most zero token other at same = subst (λ u. floor_of store other ≤ floor_of store u) (same_Some t token at) (most other)
one_greatest store t most (suc i) token other at same = absurd (none-some token at)

-- the rows of a store of one row, or of two
pub within_one : (c : Content) (name : ℕ → ℕ) (bound : ℕ) → (row c 0).next ≤ bound → (t : ℕ) → floor_in_row c (number_of 1 name t) ≤ bound
within_one c name bound first t = cond_both (eqb (name 0) t) (Some 0) None (λ o. floor_in_row c o ≤ bound) (λ _. first) (λ _. omega arith)

pub within_two : (c : Content) (name : ℕ → ℕ) (bound : ℕ) → (row c 0).next ≤ bound → (row c 1).next ≤ bound → (t : ℕ) → floor_in_row c (number_of 2 name t) ≤ bound
within_two c name bound first last t =
    cond_both (eqb (name 1) t) (Some 1) (number_of 1 name t) (λ o. floor_in_row c o ≤ bound) (λ _. last) (λ _. within_one c name bound first t)

pub apart : (i j : ℕ) → i < j → i ≡ j → ⊥
apart i j low same = omega (arith, low, same)
