-- Each promise is asked about the store that breaks it.
use Rattle.std.proofs.Common.{◌≡◌, ◌⊎◌, inr, ⊎_elim, ℕ, zero, suc, ◌≤◌, List, [], ◌∷◌, Some, slice_get, refl, ap, arith}
use Rattle.floor_store.specs.Broken.{booted}
use Rattle.floor_store.specs.Content.{Content}
use Rattle.roster_sql.specs.Examples.{entry_of}
use Rattle.roster_sql.specs.declared.entry.Entry.{Entry}
use Rattle.named_floors.specs.Examples.{gathered_two, own_two}
use Rattle.named_floors.specs.Level.{IsPartLevelled}
use Rattle.named_floors.proofs.KeptLemmas.{some_is, token_taken}
use Rattle.named_floors.proofs.laws.floors_can_be_broken.Goals as goal

-- boot 1 is not boot 0
not_first : booted 1 ≡ booted 0 → ⊥
not_first e = let boot : 1 ≡ 0 = ap (λ (content : Content). content.boot) e in omega (arith, boot)

-- the greatest of three numbers
at_most : (place next : ℕ) → slice_get (10 ∷ 20 ∷ 50 ∷ []) place ≡ Some next → next ≤ 50
at_most zero next is = let same : 10 ≡ next = some_is 10 next is in omega (arith, same)
at_most (suc zero) next is = let same : 20 ≡ next = some_is 20 next is in omega (arith, same)
at_most (suc (suc zero)) next is = let same : 50 ≡ next = some_is 50 next is in omega (arith, same)
at_most (suc (suc (suc place))) next is = absurd cc

-- the first byte of a name
abbrev first_of : List ℕ → ℕ
first_of [] = 0
first_of (byte ∷ bytes) = byte

abbrev first_byte : Entry → ℕ
first_byte e = first_of e.name

-- none of three entries has the name
none_there : (place : ℕ) → slice_get (entry_of 1 2 ∷ entry_of 3 4 ∷ entry_of 5 6 ∷ []) place ≡ Some (entry_of 7 6) → ⊥
none_there zero is = let same : 1 ≡ 7 = ap first_byte (some_is (entry_of 1 2) (entry_of 7 6) is) in omega (arith, same)
none_there (suc zero) is = let same : 3 ≡ 7 = ap first_byte (some_is (entry_of 3 4) (entry_of 7 6) is) in omega (arith, same)
none_there (suc (suc zero)) is = let same : 5 ≡ 7 = ap first_byte (some_is (entry_of 5 6) (entry_of 7 6) is) in omega (arith, same)
none_there (suc (suc (suc place))) is = absurd cc

-- the first of two entries has the lower floor
first_alone : (place next : ℕ) → slice_get (entry_of 1 4 ∷ entry_of 3 4 ∷ []) place ≡ Some (entry_of 1 4)
    → slice_get (10 ∷ 20 ∷ []) place ≡ Some next → next ≤ 10
first_alone zero next at is = let same : 10 ≡ next = some_is 10 next is in omega (arith, same)
first_alone (suc zero) next at is =
    let same : 3 ≡ 1 = ap first_byte (some_is (entry_of 3 4) (entry_of 1 4) at) in absurd (omega (arith, same))
first_alone (suc (suc place)) next at is = absurd cc

pub returns-clause-taken : goal.returns-clause-taken
returns-clause-taken c = token_taken gathered_two own_two (40 ∷ 50 ∷ []) 1 (entry_of 5 6) 50 refl refl refl

pub returns-clause-taken_entry : goal.returns-clause-taken_entry
returns-clause-taken_entry c h = none_there h.place h.entry

pub returns-clause-taken_own : goal.returns-clause-taken_own
returns-clause-taken_own c h =
    let high : h.next ≤ 50 = at_most h.place h.next h.is_floor in
    let own : 51 ≤ h.next = h.own in omega (arith, high, own)

pub returns-clause-taken_seeded : goal.returns-clause-taken_seeded
returns-clause-taken_seeded c h =
    let low : h.next ≤ 10 = first_alone h.place h.next h.entry h.is_floor in
    let other : 20 ≤ h.next = h.seeded 1 20 (entry_of 3 4) refl refl refl in omega (arith, low, other)

pub returns-clause-levels_left : goal.returns-clause-levels_left
returns-clause-levels_left c h = ⊎_elim
    (λ (before : (booted 1 ≡ booted 0) ⊎ (booted 1 ≡ booted 0)). ⊎_elim not_first not_first before)
    (λ (part : IsPartLevelled [] (booted 0) (booted 1)).
    let boot : 1 ≡ 0 = ap (λ (content : Content). content.boot) part.is in omega (arith, boot))
    (h.left refl (booted 1) (inr refl))

pub returns-clause-levels_settled : goal.returns-clause-levels_settled
returns-clause-levels_settled c h = not_first (h.settled refl (booted 1) (inr refl))
