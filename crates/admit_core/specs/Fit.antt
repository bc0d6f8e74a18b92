-- The factors at which a submission fits a token (RFC 4226, sections 7.2 and 7.4).
use Rattle.std.specs.Prelude.{ℕ, ℤ, ◌+◌, ◌≡◌, ◌≤◌, ◌==◌, ◌&&◌, Bool, List, Option}
use Rattle.std.specs.List.{find, list_any}
use Rattle.std.specs.Option.{option_map}
use Rattle.std.specs.Str.{bytes_eq}
use Rattle.otp_core.specs.Digits.{count_of}
use Rattle.otp_core.specs.Hotp.{code_of}
use Rattle.token_file.specs.Credential.{Credential}
use Rattle.otp_core.specs.Limits.{Limits}
use Rattle.otp_core.specs.Submission.{Submission, Check, Resync}
use Rattle.admit_core.specs.Window.{InWindow, window_numbers}

-- the code of a token at a factor
unfoldable pub code_at : Credential → ℕ → List ℕ
code_at credential factor = code_of credential.hash credential.secret factor (count_of credential.digits)

-- the codes of the token at lo to hi are the submitted ones, in order
abbrev pub Fits : Credential → Submission → ℕ → ℕ → Type 0
Fits credential (Check code) lo hi = (hi ≡ lo) × (code_at credential lo ≡ code)
Fits credential (Resync first second) lo hi =
    (hi ≡ lo + 1) × (code_at credential lo ≡ first) × (code_at credential hi ≡ second)

-- lo to hi fit and lie between two factors, and no fit between them begins lower
pub record IsLeastBetween (credential : Credential) (first last : ℕ) (submission : Submission)
    (lo hi : ℕ) : Type 0 where
  pub fits : Fits credential submission lo hi
  pub from : first ≤ lo
  pub to : hi ≤ last
  pub least : (other_lo other_hi : ℕ) → Fits credential submission other_lo other_hi →
      first ≤ other_lo → other_hi ≤ last → lo ≤ other_lo

-- no factors between two factors fit
abbrev pub NoneBetween : Credential → ℕ → ℕ → Submission → Type 0
NoneBetween credential first last submission =
    (lo hi : ℕ) → Fits credential submission lo hi → first ≤ lo → hi ≤ last → ⊥

-- the number of factors above the floor (the first free factor) that an event token's submission may reach
abbrev pub reach_of : Limits → Submission → ℕ
reach_of limits (Check code) = limits.look_ahead
reach_of limits (Resync first second) = limits.range

-- the window of a submission
abbrev pub InWindowOf : Credential → Limits → ℕ → ℤ → ℕ → Submission → ℕ → Type 0
InWindowOf credential limits next drift moment submission =
    InWindow credential.kind (reach_of limits submission) limits next drift moment

-- lo to hi fit and lie in a set of factors, and no fit in it begins lower
pub record IsLeastIn (InSet : ℕ → Type 0) (credential : Credential) (submission : Submission) (lo hi : ℕ) : Type 0 where
  pub fits : Fits credential submission lo hi
  pub first : InSet lo
  pub last : InSet hi
  pub least : (other_lo other_hi : ℕ) → Fits credential submission other_lo other_hi →
      InSet other_lo → InSet other_hi → lo ≤ other_lo

-- no factors of a set fit
abbrev pub NoneIn : (ℕ → Type 0) → Credential → Submission → Type 0
NoneIn InSet credential submission =
    (lo hi : ℕ) → Fits credential submission lo hi → InSet lo → InSet hi → ⊥

-- lo to hi are the smallest fit in the window
abbrev pub IsLeastFit : Credential → Limits → ℕ → ℤ → ℕ → Submission → ℕ → ℕ → Type 0
IsLeastFit credential limits next drift moment submission =
    IsLeastIn (InWindowOf credential limits next drift moment submission) credential submission

-- no factors in the window fit
abbrev pub NothingFits : Credential → Limits → ℕ → ℤ → ℕ → Submission → Type 0
NothingFits credential limits next drift moment submission =
    NoneIn (InWindowOf credential limits next drift moment submission) credential submission

-- whether a submission fits from a factor of the window on
abbrev pub fits_from : Credential → List ℕ → Submission → ℕ → Bool
fits_from credential window (Check code) factor = bytes_eq (code_at credential factor) code
fits_from credential window (Resync first second) factor =
    bytes_eq (code_at credential factor) first
    && (bytes_eq (code_at credential (factor + 1)) second && list_any (λ number. factor + 1 == number) window)

-- the last factor that a submission uses up
abbrev pub last_used : Submission → ℕ → ℕ
last_used (Check code) lo = lo
last_used (Resync first second) lo = lo + 1

-- the first factor of a list at which the submission fits, and the last one that it uses up
abbrev pub first_fit : Credential → List ℕ → Submission → Option (ℕ × ℕ)
first_fit credential window submission =
    option_map (λ lo. (lo, last_used submission lo)) (find (fits_from credential window submission) window)

-- the first fit of the window's factors in ascending order
abbrev pub least_fit : Credential → Limits → ℕ → ℤ → ℕ → Submission → Option (ℕ × ℕ)
least_fit credential limits next drift moment submission =
    let window = window_numbers credential.kind (reach_of limits submission) limits next drift moment in
    first_fit credential window submission
