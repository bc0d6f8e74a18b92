-- What holds of two acceptances in a list, and how many witnesses there can be.
use Rattle.std.proofs.Common.{◌≡◌, ◌≢◌, ℕ, zero, suc, ◌+◌, ◌≤◌, Bool, true, false, [], ◌∷◌, Some, slice_get, if◌then◌else◌, refl, subst₂, arith}
use Rattle.std.proofs.lemmas.Option.{same_Some, none-some}
use Rattle.otp_core.specs.Acceptance.{Acceptance, size}

-- what holds of the one and the other, both ways, holds of those at two places
pub of_two_places : (P : Acceptance → Acceptance → Type 0) (x y : Acceptance) → P x y → P y x
    → (i j : ℕ) (a b : Acceptance) → i ≢ j → slice_get (x ∷ y ∷ []) i ≡ Some a → slice_get (x ∷ y ∷ []) j ≡ Some b
    → P a b
of_two_places P x y h k zero zero a b n e f = absurd (n refl)
of_two_places P x y h k zero (suc zero) a b n e f = subst₂ P (same_Some x a e) (same_Some y b f) h
of_two_places P x y h k zero (suc (suc j)) a b n e f = absurd (none-some b f)
of_two_places P x y h k (suc zero) zero a b n e f = subst₂ P (same_Some y a e) (same_Some x b f) k
of_two_places P x y h k (suc zero) (suc zero) a b n e f = absurd (n refl)
of_two_places P x y h k (suc zero) (suc (suc j)) a b n e f = absurd (none-some b f)
of_two_places P x y h k (suc (suc i)) j a b n e f = absurd (none-some a e)

-- what holds of each two, the same one twice among them, holds of those at any places
pub of_any_places : (P : Acceptance → Acceptance → Type 0) (x y : Acceptance) → P x x → P x y → P y x → P y y
    → (i j : ℕ) (a b : Acceptance) → slice_get (x ∷ y ∷ []) i ≡ Some a → slice_get (x ∷ y ∷ []) j ≡ Some b → P a b
of_any_places P x y xx xy yx yy zero zero a b e f = subst₂ P (same_Some x a e) (same_Some x b f) xx
of_any_places P x y xx xy yx yy zero (suc zero) a b e f = subst₂ P (same_Some x a e) (same_Some y b f) xy
of_any_places P x y xx xy yx yy zero (suc (suc j)) a b e f = absurd (none-some b f)
of_any_places P x y xx xy yx yy (suc zero) zero a b e f = subst₂ P (same_Some y a e) (same_Some x b f) yx
of_any_places P x y xx xy yx yy (suc zero) (suc zero) a b e f = subst₂ P (same_Some y a e) (same_Some y b f) yy
of_any_places P x y xx xy yx yy (suc zero) (suc (suc j)) a b e f = absurd (none-some b f)
of_any_places P x y xx xy yx yy (suc (suc i)) j a b e f = absurd (none-some a e)

-- a set has at most n of the nodes 1 to n
size-le : (n : ℕ) (nodes : ℕ → Bool) → size n nodes ≤ n
size-le zero nodes = omega arith
size-le (suc n) nodes = let h = size-le n nodes in at (nodes (suc n)) h
  where
    at : (b : Bool) → size n nodes ≤ n → (if b then 1 else 0) + size n nodes ≤ suc n
    at true h = omega arith
    at false h = omega arith

-- a set without nodes above k has at most k
pub size-le-last : (n k : ℕ) (nodes : ℕ → Bool) → ((node : ℕ) → nodes node ≡ true → node ≤ k) → size n nodes ≤ k
size-le-last zero k nodes within = omega arith
size-le-last (suc n) k nodes within = at (nodes (suc n)) refl (size-le-last n k nodes within)
  where
    at : (b : Bool) → nodes (suc n) ≡ b → size n nodes ≤ k → (if b then 1 else 0) + size n nodes ≤ k
    at true e h = let last : suc n ≤ k = within (suc n) e in let l = size-le n nodes in omega arith
    at false e h = omega arith
