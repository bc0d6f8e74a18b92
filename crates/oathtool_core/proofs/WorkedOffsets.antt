-- What holds at the distances 0 and 1.
use Rattle.std.proofs.Common.{ℕ, zero, suc, ◌<◌, ◌≤◌, List, arith}
use Rattle.oathtool_core.specs.Codes.{Matches}
use Rattle.oathtool_core.specs.Offset.{NoneAt}
use Rattle.oathtool_core.specs.declared.codes.Generator.{Generator}

-- below 1 is 0 alone
pub only_0 : (P : ℕ → Type 0) → P 0 → (k : ℕ) → k < 1 → P k
only_0 P at_0 zero below = at_0
only_0 P at_0 (suc k) below = absurd (omega (arith, below))

-- up to 1 are 0 and 1 alone
pub up_to_1 : (P : ℕ → Type 0) → P 0 → P 1 → (k : ℕ) → k ≤ 1 → P k
up_to_1 P at_0 at_1 zero within = at_0
up_to_1 P at_0 at_1 (suc zero) within = at_1
up_to_1 P at_0 at_1 (suc (suc k)) within = absurd (omega (arith, within))

-- the code of step 9 is no match
pub none_at_9 : (generator : Generator) (otp : List ℕ) → (Matches generator otp 9 → ⊥)
    → (nearer : ℕ) → nearer < 1 → NoneAt generator otp 9 nearer
none_at_9 generator otp no_9 =
    only_0 (λ k. NoneAt generator otp 9 k) (record { after_it = no_9; before_it = λ exists. no_9 })
