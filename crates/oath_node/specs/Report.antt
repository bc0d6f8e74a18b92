-- The report of the reference server on a run of lines: its acceptances and answers. Conditions on acceptances are here
-- too. Floor: the first free factor of a token.
use Rattle.std.specs.Prelude.{◌≡◌, ℕ, ℤ, pos, ◌+◌, ◌==◌, if◌then◌else◌, List, [], ◌∷◌, ◌++◌, map, take, Option, Some, None, slice_get}
use Rattle.otp_core.specs.Acceptance.{Acceptance}
use Rattle.otp_core.specs.Limits.{Limits}
use Rattle.token_file.specs.Credential.{Credential}
use Rattle.admit_core.specs.Drift.{kept_drift}
use Rattle.admit_core.specs.Entitled.{IsEntitled}
use Rattle.admit_core.specs.Throttle.{Result}
use Rattle.oath_node.specs.ReferenceServer.{Server, Line, TokenSpan, Answer, Service, floor_of, results_of, service_of, server_after, server_at}
use Rattle.client_lines.specs.Request.{Request, IsLine}

-- an accepted line: its number from 0, the token, and the factors that it uses up
pub record LinePass : Type 0 where
  pub began : ℕ
  pub token : ℕ
  pub lo : ℕ
  pub hi : ℕ

-- the answer to a line: the line's number from 0, its client, and the answer's bytes without a line end
pub record LineAnswer : Type 0 where
  pub line : ℕ
  pub client : ℕ
  pub bytes : List ℕ

-- the report of a run of lines
pub record Report : Type 0 where
  pub passes : List LinePass
  pub answers : List LineAnswer

-- the pass of the line's acceptance, if any
abbrev pub passes_at : ℕ → Option TokenSpan → List LinePass
passes_at number None = []
passes_at number (Some span) = record { began = number; token = span.token; lo = span.lo; hi = span.hi } ∷ []

-- the answer to a client's line
abbrev pub answer_at : ℕ → ℕ → List ℕ → LineAnswer
answer_at number client bytes = record { line = number; client = client; bytes = bytes }

-- the report with the line's acceptance and answer first
abbrev pub told_before : ℕ → Line → Answer → Report → Report
told_before number line told rest = record {
  passes = passes_at number told.accepted ++ rest.passes;
  answers = answer_at number line.client told.bytes ∷ rest.answers;
}

-- the report of the lines, the first of which has the given number
unfoldable pub report_from : List Credential → Limits → ℕ → Server → List Line → Report
report_from book limits number server [] = record { passes = []; answers = [] }
report_from book limits number server (line ∷ lines) =
    let service : Service = service_of book limits server line in
    told_before number line service.told (report_from book limits (number + 1) service.server lines)

-- the report of the lines, numbered from 0
abbrev pub report_of : List Credential → Limits → List ℕ → List Line → Report
report_of book limits floors lines = report_from book limits 0 (server_at floors) lines

-- the pass as an acceptance at the single node; it began and was accepted with its line
abbrev pub acceptance_of : LinePass → Acceptance
acceptance_of pass = record {
  began = pass.began;
  ended = pass.began;
  node = 1;
  token = pass.token;
  lo = pass.lo;
  hi = pass.hi;
}

-- the passes as acceptances
abbrev pub acceptances_of : List LinePass → List Acceptance
acceptances_of passes = map acceptance_of passes

-- the server before the line of the given number
abbrev pub server_before : List Credential → Limits → List ℕ → List Line → ℕ → Server
server_before book limits floors lines number = server_after book limits (server_at floors) (take number lines)

-- the floor of a token before the line of the given number
abbrev pub floor_before : List Credential → Limits → List ℕ → List Line → ℕ → ℕ → ℕ
floor_before book limits floors lines token number = floor_of (server_before book limits floors lines number) token

-- the results of a token before the line of the given number, the newest first
abbrev pub results_before : List Credential → Limits → List ℕ → List Line → ℕ → ℕ → List Result
results_before book limits floors lines token number = results_of (server_before book limits floors lines number) token

-- the drift of an acceptance up to the factor `hi`, by its token and its line
abbrev pub drift_by : Limits → Option Credential → Option Line → ℕ → ℤ
drift_by limits None line hi = pos 0
drift_by limits (Some credential) None hi = pos 0
drift_by limits (Some credential) (Some line) hi = kept_drift credential.kind limits line.moment hi

-- the drift of a token after the passes, the oldest first, from the given drift on; the last pass of the token decides
abbrev pub drift_after : List Credential → Limits → List Line → ℕ → ℤ → List LinePass → ℤ
drift_after book limits lines token drift [] = drift
drift_after book limits lines token drift (pass ∷ passes) =
    let kept = drift_by limits (slice_get book pass.token) (slice_get lines pass.began) pass.hi in
    drift_after book limits lines token (if pass.token == token then kept else drift) passes

-- The drift of a token before the line of the given number, only from the passes before it and their lines. It is the
-- drift of the last pass of the token by its line's moment, and 0 if there is none.
abbrev pub drift_before : List Credential → Limits → List ℕ → List Line → ℕ → ℕ → ℤ
drift_before book limits floors lines token number =
    drift_after book limits lines token (pos 0) (report_of book limits floors (take number lines)).passes

-- all results of a token in a run
abbrev pub results_in : List Credential → Limits → List ℕ → List Line → ℕ → List Result
results_in book limits floors lines token = results_of (server_after book limits (server_at floors) lines) token

-- The conditions on a pass. The line with which it began is in the line grammar, for the user of the pass's token. The
-- line's moment is in range, and its password fits the token's column. At that moment the token is open by its results
-- before the line. The factors are the least ones in the window that fit, for the token's floor and drift before the
-- line.
pub record IsJustified (book : List Credential) (limits : Limits) (floors : List ℕ) (lines : List Line)
    (pass : LinePass) : Type 0 where
  pub line : Line
  pub began : slice_get lines pass.began ≡ Some line
  pub request : Request
  pub grammar : IsLine line.text request
  pub credential : Credential
  pub token : slice_get book pass.token ≡ Some credential
  pub user : credential.name ≡ request.user
  pub entitled : IsEntitled credential limits line.moment request.submission request.password
      (floor_before book limits floors lines pass.token pass.began)
      (drift_before book limits floors lines pass.token pass.began)
      (results_before book limits floors lines pass.token pass.began) pass.lo pass.hi

-- each pass of the list is justified
abbrev pub AreJustified : List Credential → Limits → List ℕ → List Line → List LinePass → Type 0
AreJustified book limits floors lines passes =
    (place : ℕ) (pass : LinePass) → slice_get passes place ≡ Some pass → IsJustified book limits floors lines pass
