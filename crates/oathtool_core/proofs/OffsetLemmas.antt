-- The nearest offset, by its distance.
use Rattle.std.proofs.Common.{◌≡◌, ℕ, zero, suc, ◌+◌, ◌-◌, ◌<◌, ◌≤◌, List, pos, neg_ℤ, arith, subst, below_more}
use Rattle.oathtool_core.specs.Codes.{Matches}
use Rattle.oathtool_core.specs.Offset.{NoneAt, IsNearestOffset}
use Rattle.oathtool_core.specs.declared.codes.Generator.{Generator}

-- the OTP is found before the step
pub nearest_before : (generator : Generator) (otp : List ℕ) (step window distance before : ℕ) → distance ≤ window
    → before + distance ≡ step → Matches generator otp before
    → ((nearer : ℕ) → nearer < distance → NoneAt generator otp step nearer)
    → IsNearestOffset generator otp step window (neg_ℤ (pos distance))
nearest_before generator otp step window zero before within at matches nearest = record {
  within = within;
  matches = subst (λ (k : ℕ). Matches generator otp k) (omega arith) matches;
  nearest = nearest;
  before_it = λ positive _. absurd (omega arith);
}
nearest_before generator otp step window (suc n) before within at matches nearest = record {
  within = within;
  exists = omega arith;
  matches = subst (λ (k : ℕ). Matches generator otp k) (omega arith) matches;
  nearest = nearest;
}

-- the OTP is found after the step
pub nearest_after : (generator : Generator) (otp : List ℕ) (step window distance : ℕ) → distance ≤ window
    → Matches generator otp (step + distance)
    → ((nearer : ℕ) → nearer < distance → NoneAt generator otp step nearer)
    → (0 < distance → distance ≤ step → Matches generator otp (step - distance) → ⊥)
    → IsNearestOffset generator otp step window (pos distance)
nearest_after generator otp step window distance within matches nearest before = record {
  within = within;
  matches = matches;
  nearest = nearest;
  before_it = before;
}

-- one distance more
pub none_more : (generator : Generator) (otp : List ℕ) (step distance : ℕ)
    → ((nearer : ℕ) → nearer < distance → NoneAt generator otp step nearer)
    → (Matches generator otp (step + distance) → ⊥)
    → (distance ≤ step → Matches generator otp (step - distance) → ⊥)
    → (nearer : ℕ) → nearer < distance + 1 → NoneAt generator otp step nearer
none_more generator otp step distance so_far after before =
    below_more (λ k. NoneAt generator otp step k) distance so_far (record { after_it = after; before_it = before })
