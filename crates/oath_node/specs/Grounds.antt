-- The grounds of rulings: the conditions on a line whose factors are proposed, and on one that fails.
use Rattle.std.specs.Prelude.{◌≡◌, ℕ, ℤ, ◌<◌, ◌≤◌, true, false, List, length, Some, slice_get}
use Rattle.otp_core.specs.Limits.{Limits}
use Rattle.otp_core.specs.Range.{IsMoment}
use Rattle.token_file.specs.Credential.{Credential}
use Rattle.admit_core.specs.Drift.{kept_drift}
use Rattle.admit_core.specs.Fit.{IsLeastFit}
use Rattle.admit_core.specs.Password.{PasswordFits}
use Rattle.floor_store.specs.Range.{IsSpan}
use Rattle.client_lines.specs.Request.{Request, IsLine}
use Rattle.oath_node.specs.Rules.{Standing}
use Rattle.oath_node.specs.declared.ruling.Ruling.{Ruling}
use Rattle.oath_node.specs.declared.ruling.Ruling.TheVariants.{Outside, Again, Waiting, Denied, Wrong, Fitting}

-- A line whose factors `lo` to `hi` are proposed, with its nonce. There is room for it, and it is in the line grammar,
-- at a moment in range. It is for the user of an open token, with a password that fits the token's column. The factors
-- are the least ones in the window that fit, and the drift is theirs by that moment.
pub record IsFitting (book : List Credential) (limits : Limits) (standing : Standing) (moment : ℕ)
    (line nonce : List ℕ) (token lo hi : ℕ) (drift : ℤ) : Type 0 where
  pub room : standing.is_full ≡ false
  pub within : token < length book
  pub request : Request
  pub grammar : IsLine line request
  pub nonce_is : nonce ≡ request.nonce
  pub credential : Credential
  pub is_token : slice_get book token ≡ Some credential
  pub user : credential.name ≡ request.user
  pub in_range : IsMoment moment
  pub is_open : standing.wait token ≤ 0
  pub password : PasswordFits credential.password request.password
  pub fit : IsLeastFit credential limits (standing.next token) (standing.drift token) moment request.submission lo hi
  pub kept : drift ≡ kept_drift credential.kind limits moment hi
  pub free : standing.next token ≤ lo
  pub span : IsSpan lo hi

-- a failure of an open token, at a moment in range
pub record IsWrong (book : List Credential) (standing : Standing) (moment token : ℕ) : Type 0 where
  pub within : token < length book
  pub in_range : IsMoment moment
  pub is_open : standing.wait token ≤ 0

-- the grounds of a ruling
abbrev pub HasGrounds : List Credential → Limits → Standing → ℕ → List ℕ → Ruling → Type 0
HasGrounds book limits standing moment line Outside = Unit {0}
HasGrounds book limits standing moment line (Again text) = standing.kept ≡ Some text
HasGrounds book limits standing moment line Waiting = standing.is_waiting ≡ true
HasGrounds book limits standing moment line (Denied nonce reason) = Unit {0}
HasGrounds book limits standing moment line (Wrong nonce reason token) = IsWrong book standing moment token
HasGrounds book limits standing moment line (Fitting nonce token span drift) =
    IsFitting book limits standing moment line nonce token span.lo span.hi drift

-- two standings that are equal for the tokens of a book
pub record IsSameStanding (tokens : ℕ) (one other : Standing) : Type 0 where
  pub kept : one.kept ≡ other.kept
  pub waiting : one.is_waiting ≡ other.is_waiting
  pub full : one.is_full ≡ other.is_full
  pub next : (token : ℕ) → token < tokens → one.next token ≡ other.next token
  pub drift : (token : ℕ) → token < tokens → one.drift token ≡ other.drift token
  pub wait : (token : ℕ) → token < tokens → one.wait token ≡ other.wait token
