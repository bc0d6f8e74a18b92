-- The conditions of a node for accepting a submission.
use Rattle.std.specs.Prelude.{ℕ, ℤ, List, Option}
use Rattle.otp_core.specs.Limits.{Limits}
use Rattle.otp_core.specs.Range.{IsMoment}
use Rattle.token_file.specs.Credential.{Credential}
use Rattle.admit_core.specs.Fit.{IsLeastFit}
use Rattle.otp_core.specs.Submission.{Submission}
use Rattle.admit_core.specs.Password.{PasswordFits}
use Rattle.admit_core.specs.Throttle.{Result, IsOpenAfter}

-- A submission for a token may use up the factors lo to hi at a moment. `given` is the password of the line, or None.
-- `next` is the token's floor (its first free factor), `drift` its drift, and `results` its results so far at the node.
pub record IsEntitled (credential : Credential) (limits : Limits) (moment : ℕ) (submission : Submission)
    (given : Option (List ℕ)) (next : ℕ) (drift : ℤ) (results : List Result) (lo hi : ℕ) : Type 0 where
  pub in_range : IsMoment moment
  pub password : PasswordFits credential.password given
  pub is_open : IsOpenAfter results moment
  pub fit : IsLeastFit credential limits next drift moment submission lo hi
