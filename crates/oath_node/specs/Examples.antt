-- Worked cases of the rules, and of the answers of one server. The codes are from RFC 4226, Appendix D. Floor: the
-- first free factor of a token.
use Rattle.std.specs.Prelude.{ℕ, zero, suc, ℤ, pos, negsuc, ◌==◌, if◌then◌else◌, false, List, [], ◌∷◌, ◌++◌, map, None, codes}
use Rattle.admit_core.specs.Throttle.{Result}
use Rattle.hmac_core.specs.declared.hash.Hash.TheVariants.{Sha1}
use Rattle.otp_core.specs.Limits.{Limits}
use Rattle.otp_core.specs.declared.digits.Digits.TheVariants.{Six}
use Rattle.token_file.specs.Credential.{Credential}
use Rattle.token_file.specs.declared.token.Kind.TheVariants.{Event, Time30}
use Rattle.token_file.specs.declared.token.Password.{Password}
use Rattle.token_file.specs.declared.token.Password.TheVariants.{NoneAllowed, NotChecked, Equal}
use Rattle.oath_node.specs.ReferenceServer.{Line, Server, server_after, server_at}
use Rattle.oath_node.specs.Report.{IsJustified, LinePass, drift_after, floor_before, report_of, results_before}
use Rattle.oath_node.specs.Rules.{Standing, ruling}
use Rattle.oath_node.specs.declared.ruling.Ruling.{Ruling}

-- ---- Rules

-- an event token of six digits, with the key of RFC 4226, Appendix D
abbrev pub token_of : List ℕ → Password → Credential
token_of name password = record {
  name = name;
  password = password;
  secret = codes "12345678901234567890";
  kind = Event;
  digits = Six;
  hash = Sha1;
}

-- a token for each kind of password column
abbrev pub three_tokens : List Credential
three_tokens =
    token_of (codes "silver") NoneAllowed ∷ token_of (codes "gold") (Equal (record { items = codes "pw" }))
    ∷ token_of (codes "iron") NotChecked ∷ []

-- a look-ahead of 5 and a range of 9
abbrev pub narrow_limits : Limits
narrow_limits = record { look_ahead = 5; skew = 1; range = 9; drift = 0 }

-- the number for the first, the second or the third token
abbrev pub by_token : ℕ → ℕ → ℕ → ℕ → ℕ
by_token silver gold iron zero = silver
by_token silver gold iron (suc zero) = gold
by_token silver gold iron (suc (suc token)) = iron

-- Silver has the given floor and wait, gold has the floor 3 and no wait, and iron has no factor left. No answer is
-- kept, and no line waits.
abbrev pub standing_with : ℕ → ℕ → Standing
standing_with next wait = record {
  kept = None;
  is_waiting = false;
  is_full = false;
  next = by_token next 3 4611686018427387904;
  drift = λ token. pos 0;
  wait = by_token wait 0 0;
}

-- the ruling on a line at a moment, by the floor and the wait of silver
abbrev pub ruling_on : ℕ → ℕ → ℕ → List ℕ → Ruling
ruling_on next wait moment text = ruling three_tokens narrow_limits (standing_with next wait) moment text

-- ---- Runs

-- a line of client 7
abbrev pub line_at : ℕ → List ℕ → Line
line_at moment text = record { client = 7; moment = moment; text = text }

-- Silver is wrong, too early, right and then replayed. Gold gets two consecutive codes. One text is not a line, one
-- user is unknown, and one password is missing.
abbrev pub lines_of_a_run : List Line
lines_of_a_run =
    line_at 100 (codes "CHECK a silver 000000 -") ∷ line_at 104 (codes "CHECK b silver 755224 -")
    ∷ line_at 105 (codes "CHECK c silver 287082 -") ∷ line_at 106 (codes "CHECK d silver 287082 -")
    ∷ line_at 107 (codes "RESYNC e gold 287082 359152 pw") ∷ line_at 108 (codes "CHECK")
    ∷ line_at 109 (codes "CHECK f lead 755224 -") ∷ line_at 110 (codes "CHECK g gold 254676 -") ∷ []

-- Silver is right. The same line arrives again, outside the range of moments and with an LF, and from another client.
-- Lines with two other nonces follow, the first of them twice and too early. The last text is not a line.
abbrev pub lines_given_again : List Line
lines_given_again =
    line_at 100 (codes "CHECK 1 silver 755224 -")
    ∷ line_at 1099511627776 (codes "CHECK 1 silver 755224 -" ++ 10 ∷ [])
    ∷ record { client = 8; moment = 60; text = codes "CHECK 1 silver 755224 -" }
    ∷ line_at 64 (codes "CHECK 2 silver 755224 -") ∷ line_at 65 (codes "CHECK 2 silver 755224 -")
    ∷ line_at 65 (codes "CHECK 3 silver 755224 -") ∷ line_at 65 (codes "CHECK") ∷ []

-- a look-ahead of 1 and a range of 2
abbrev pub narrowest_limits : Limits
narrowest_limits = record { look_ahead = 1; skew = 0; range = 2; drift = 0 }

-- The outcome of a run: each answer with its line's number and client, the acceptances, and the floors and results of
-- the server after it.
pub record Outcome : Type 0 where
  pub answers : List (ℕ × ℕ × List ℕ)
  pub passes : List LinePass
  pub floors : List ℕ
  pub results : List (List Result)

-- the server after the lines, from factor 0 on
abbrev pub server_of : List Line → Server
server_of lines = server_after three_tokens narrowest_limits (server_at (0 ∷ 0 ∷ 0 ∷ [])) lines

-- the clients and the texts of the answers that a server keeps, the oldest first
abbrev pub kept_in : Server → List (ℕ × List ℕ)
kept_in server = map (λ answer. (answer.client, answer.text)) server.front.answers

-- the outcome of the lines, from factor 0 on
abbrev pub outcome_of : List Line → Outcome
outcome_of lines =
    let report = report_of three_tokens narrowest_limits (0 ∷ 0 ∷ 0 ∷ []) lines in
    let server = server_of lines in
    record {
      answers = map (λ answer. (answer.line, answer.client, answer.bytes)) report.answers;
      passes = report.passes;
      floors = server.floors;
      results = server.front.results;
    }

-- the floor and the results of silver in the run, before the line of the given number
abbrev pub silver_before : ℕ → ℕ × List Result
silver_before number = (
  floor_before three_tokens narrowest_limits (0 ∷ 0 ∷ 0 ∷ []) lines_of_a_run 0 number,
  results_before three_tokens narrowest_limits (0 ∷ 0 ∷ 0 ∷ []) lines_of_a_run 0 number,
)

-- whether a pass is justified in the run
abbrev pub IsJustifiedInRun : LinePass → Type 0
IsJustifiedInRun pass = IsJustified three_tokens narrowest_limits (0 ∷ 0 ∷ 0 ∷ []) lines_of_a_run pass

-- ---- Drifts

-- a token of 30 seconds
abbrev pub one_clock : List Credential
one_clock = record (token_of (codes "silver") NoneAllowed) { kind = Time30 } ∷ []

-- a skew of 1, and the given drift
abbrev pub drifting : ℕ → Limits
drifting steps = record { look_ahead = 1; skew = 1; range = 2; drift = steps }

-- the code of the step before the present one, of two before, of three before, and of the present one
abbrev pub lines_of_a_clock : List Line
lines_of_a_clock =
    line_at 120 (codes "CHECK 1 silver 969429 -") ∷ line_at 180 (codes "CHECK 2 silver 338314 -")
    ∷ line_at 240 (codes "CHECK 3 silver 254676 -") ∷ line_at 270 (codes "CHECK 4 silver 520489 -") ∷ []

-- the answers to the lines under settings that allow a drift of `steps`, and the server's drift after them
abbrev pub outcome_of_clock : ℕ → List (List ℕ) × List ℤ
outcome_of_clock steps = (
  map (λ answer. answer.bytes) (report_of one_clock (drifting steps) (2 ∷ []) lines_of_a_clock).answers,
  (server_after one_clock (drifting steps) (server_at (2 ∷ [])) lines_of_a_clock).front.drifts,
)

-- The ruling on a line in step 3, with all factors free. Silver's clock is right, and gold's is two steps late.
abbrev pub ruling_by_clock : List ℕ → Ruling
ruling_by_clock text =
    let gold = record (token_of (codes "gold") NoneAllowed) { kind = Time30 } in
    let drift : ℕ → ℤ = λ token. if token == 0 then pos 0 else negsuc 1 in
    let standing = record (standing_with 0 0) { next = λ token. 0; drift = drift } in
    ruling (one_clock ++ gold ∷ []) (drifting 10) standing 90 text

-- a pass of one factor
abbrev pub pass_with : ℕ → ℕ → ℕ → LinePass
pass_with began token factor = record { began = began; token = token; lo = factor; hi = factor }

-- the drift of a token after the passes of the lines, from 7 on; the book is one_clock's token and the three tokens
abbrev pub drift_of_passes : ℕ → List LinePass → ℤ
drift_of_passes token passes =
    drift_after (one_clock ++ three_tokens) (drifting 3) lines_of_a_clock token (pos 7) passes

-- whether a pass is justified in the run under a drift of up to ten steps
abbrev pub IsJustifiedByClock : LinePass → Type 0
IsJustifiedByClock pass = IsJustified one_clock (drifting 10) (2 ∷ []) lines_of_a_clock pass
