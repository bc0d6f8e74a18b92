-- The numbers are computed, and what is closed or not gated is refuted at its seconds.
use Rattle.std.proofs.Common.{◌≡◌, ◌≤◌, ⊎_elim, inl, inr, lit≤, refl, [], ◌∷◌, arith}
use Rattle.admit_core.specs.Throttle.{Failed, IsOpenAfter}
use Rattle.admit_core.proofs.laws.throttle_is_worked.Goals as goal

pub returns-clause-open : goal.returns-clause-open
returns-clause-open c = (inl refl, inl refl, inr (lit≤ tt), inr (lit≤ tt))

closed_at_104 : IsOpenAfter (Failed 100 ∷ []) 104 → ⊥
closed_at_104 = ⊎_elim (λ (e : 1 ≡ 0). omega (arith, e)) (λ (l : 105 ≤ 104). omega (arith, l))

closed_at_114 : IsOpenAfter (Failed 105 ∷ Failed 100 ∷ []) 114 → ⊥
closed_at_114 = ⊎_elim (λ (e : 2 ≡ 0). omega (arith, e)) (λ (l : 115 ≤ 114). omega (arith, l))

pub returns-clause-closed : goal.returns-clause-closed
returns-clause-closed c = (closed_at_104, closed_at_114)

pub returns-clause-gated : goal.returns-clause-gated
returns-clause-gated c = ((inr (lit≤ tt), (inr (lit≤ tt), (inl refl, tt))), (inl refl, (inl refl, tt)))

pub returns-clause-not_gated : goal.returns-clause-not_gated
returns-clause-not_gated c = (λ h. closed_at_104 h.0, λ h. closed_at_104 h.1.0, λ h. closed_at_104 h.0)
