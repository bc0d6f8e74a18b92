-- The rules for answering a line. The first rule that applies decides: read upwards from `ruling`. The enum `Ruling` of
-- src/ruling.rt has the possible rulings.
use Rattle.std.specs.Prelude.{ℕ, ℤ, ◌^◌, ◌==◌, nat_lt, Bool, List, Option, Some, None, if◌then◌else◌, option_map, slice_get}
use Rattle.otp_core.specs.Limits.{Limits}
use Rattle.token_file.specs.Credential.{Credential, place_of}
use Rattle.token_file.specs.declared.token.Kind.{Kind}
use Rattle.admit_core.specs.Drift.{kept_drift}
use Rattle.admit_core.specs.Fit.{least_fit}
use Rattle.otp_core.specs.Submission.{Submission}
use Rattle.floor_store.specs.Records.{span_of, SpanRecord}
use Rattle.oath_node.specs.Column.{column_fits}
use Rattle.client_lines.specs.Request.{Request, request_at}
use Rattle.client_lines.specs.declared.answer.Reason.TheVariants.{Unknown, Password, Throttled, Invalid, Busy, Clock, Exhausted}
use Rattle.oath_node.specs.declared.ruling.Ruling.{Ruling}
use Rattle.oath_node.specs.declared.ruling.Ruling.TheVariants.{Outside, Again, Waiting, Denied, Wrong, Fitting}

-- the standing of an answering server that the rules ask about
pub record Standing : Type 0 where
  -- the answer that is kept for the client and line
  pub kept : Option (List ℕ)
  -- whether the line of the client waits for votes
  pub is_waiting : Bool
  -- whether there is no room for another waiting line
  pub is_full : Bool
  -- the floor of a token: its first free factor
  pub next : ℕ → ℕ
  -- the number of time steps by which a token's clock was ahead at its last acceptance
  pub drift : ℕ → ℤ
  -- the number of seconds until a token is open
  pub wait : ℕ → ℕ

-- the span of the least fit in the window
abbrev pub fitting_span : Credential → Limits → ℕ → ℤ → ℕ → Submission → Option SpanRecord
fitting_span credential limits next drift moment submission =
    option_map (λ fit. span_of fit.0 fit.1) (least_fit credential limits next drift moment submission)

-- no fit in the window: INVALID, a failure; otherwise the least fit is proposed, with the drift by the line's moment
abbrev pub fit_ruling : Kind → Limits → ℕ → Request → ℕ → Option SpanRecord → Ruling
fit_ruling kind limits moment request token None = Wrong request.nonce Invalid token
fit_ruling kind limits moment request token (Some span) =
    Fitting request.nonce token span (kept_drift kind limits moment span.hi)

-- no factor left: EXHAUSTED
abbrev pub remaining_ruling : Limits → ℕ → ℤ → ℕ → Request → ℕ → Credential → Ruling
remaining_ruling limits next drift moment request token credential =
    let fit = fitting_span credential limits next drift moment request.submission in
    if next == 2 ^ 62
    then Denied request.nonce Exhausted
    else fit_ruling credential.kind limits moment request token fit

-- a password that doesn't fit the token's column: PASSWORD, a failure
abbrev pub open_ruling : Limits → ℕ → ℤ → ℕ → Request → ℕ → Credential → Ruling
open_ruling limits next drift moment request token credential =
    if column_fits credential.password request.password
    then remaining_ruling limits next drift moment request token credential
    else Wrong request.nonce Password token

-- a closed token: THROTTLED, with the seconds until it is open
abbrev pub token_ruling : Limits → ℕ → ℤ → ℕ → ℕ → Request → ℕ → Credential → Ruling
token_ruling limits next drift wait moment request token credential =
    if nat_lt 0 wait
    then Denied request.nonce (Throttled wait)
    else open_ruling limits next drift moment request token credential

-- the credential at the user's place; there always is one, so UNKNOWN never comes from here
abbrev pub place_ruling : Limits → Standing → ℕ → Request → ℕ → Option Credential → Ruling
place_ruling limits standing moment request token None = Denied request.nonce Unknown
place_ruling limits standing moment request token (Some credential) =
    token_ruling limits (standing.next token) (standing.drift token) (standing.wait token) moment request token
    credential

-- an unknown user: UNKNOWN
abbrev pub user_ruling : List Credential → Limits → Standing → ℕ → Request → Option ℕ → Ruling
user_ruling book limits standing moment request None = Denied request.nonce Unknown
user_ruling book limits standing moment request (Some token) =
    place_ruling limits standing moment request token (slice_get book token)

-- no room for another waiting line: BUSY
abbrev pub room_ruling : List Credential → Limits → Standing → ℕ → Request → Ruling
room_ruling book limits standing moment request =
    if standing.is_full
    then Denied request.nonce Busy
    else user_ruling book limits standing moment request (place_of request.user book)

-- a moment outside the range: CLOCK
abbrev pub request_ruling : List Credential → Limits → Standing → ℕ → Request → Ruling
request_ruling book limits standing moment request =
    if nat_lt moment (2 ^ 40)
    then room_ruling book limits standing moment request
    else Denied request.nonce Clock

-- a kept answer: given again; a waiting line: no answer yet
abbrev pub ruling_unless_known : Option (List ℕ) → Bool → Ruling → Ruling
ruling_unless_known (Some text) is_waiting other = Again text
ruling_unless_known None is_waiting other = if is_waiting then Waiting else other

-- outside the grammar: BADLINE
abbrev pub ruling_of : List Credential → Limits → Standing → ℕ → Option Request → Ruling
ruling_of book limits standing moment None = Outside
ruling_of book limits standing moment (Some request) =
    ruling_unless_known standing.kept standing.is_waiting (request_ruling book limits standing moment request)

-- the ruling on a line at a moment
abbrev pub ruling : List Credential → Limits → Standing → ℕ → List ℕ → Ruling
ruling book limits standing moment line = ruling_of book limits standing moment (request_at line)
