-- The offset of an OTP from a factor.
use Rattle.std.specs.Prelude.{ℕ, suc, ◌+◌, ◌-◌, ◌<◌, ◌≤◌, ℤ, pos, negsuc, List}
use Rattle.oathtool_core.specs.Codes.{Matches}
use Rattle.oathtool_core.specs.declared.codes.Generator.{Generator}

-- ---- from a counter on

-- the least offset in the window at which the code is the OTP
pub record IsLeastOffset (generator : Generator) (otp : List ℕ) (first window offset : ℕ) : Type 0 where
  pub within : offset ≤ window
  pub matches : Matches generator otp (first + offset)
  pub least : (less : ℕ) → less < offset → Matches generator otp (first + less) → ⊥

-- the code is the OTP at no offset in the window
abbrev pub HasNoOffset : Generator → List ℕ → ℕ → ℕ → Type 0
HasNoOffset generator otp first window = (offset : ℕ) → offset ≤ window → Matches generator otp (first + offset) → ⊥

-- ---- before and after a time step

-- The code is not the OTP at `distance` after a step, nor at `distance` before it, if there is such a step.
pub record NoneAt (generator : Generator) (otp : List ℕ) (step distance : ℕ) : Type 0 where
  pub after_it : Matches generator otp (step + distance) → ⊥
  pub before_it : distance ≤ step → Matches generator otp (step - distance) → ⊥

-- The code is the OTP at `distance` after the step. It is at no nearer step, nor at `distance` before.
pub record IsNearestAfter (generator : Generator) (otp : List ℕ) (step window distance : ℕ) : Type 0 where
  pub within : distance ≤ window
  pub matches : Matches generator otp (step + distance)
  pub nearest : (nearer : ℕ) → nearer < distance → NoneAt generator otp step nearer
  pub before_it : 0 < distance → distance ≤ step → Matches generator otp (step - distance) → ⊥

-- The code is the OTP at `distance` before the step. It is at no nearer step.
pub record IsNearestBefore (generator : Generator) (otp : List ℕ) (step window distance : ℕ) : Type 0 where
  pub within : distance ≤ window
  pub exists : distance ≤ step
  pub matches : Matches generator otp (step - distance)
  pub nearest : (nearer : ℕ) → nearer < distance → NoneAt generator otp step nearer

-- the offset nearest to 0 at which the code is the OTP; of two, the negative one
abbrev pub IsNearestOffset : Generator → List ℕ → ℕ → ℕ → ℤ → Type 0
IsNearestOffset generator otp step window (pos distance) = IsNearestAfter generator otp step window distance
IsNearestOffset generator otp step window (negsuc less) = IsNearestBefore generator otp step window (suc less)

-- the code is the OTP at no step in the window, before or after
abbrev pub HasNoNearest : Generator → List ℕ → ℕ → ℕ → Type 0
HasNoNearest generator otp step window = (distance : ℕ) → distance ≤ window → NoneAt generator otp step distance
