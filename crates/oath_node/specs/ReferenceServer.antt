-- One server with one floor for each token. It answers each line at once at a front end, and keeps its last answers
-- there to give them again. It never votes, sends or waits. Floor: the first free factor of a token.
use Rattle.std.specs.Prelude.{ℕ, ℤ, pos, ◌+◌, false, List, [], ◌∷◌, length, replicate, Option, Some, None, slice_index, slice_index_or, slice_set}
use Rattle.otp_core.specs.Limits.{Limits}
use Rattle.token_file.specs.Credential.{Credential}
use Rattle.admit_core.specs.Throttle.{Result, Failed, Accepted as Passed, wait_after}
use Rattle.answer_ring.specs.Answers.{KeptAnswer, kept_answer, kept_with}
use Rattle.client_lines.specs.Answer.{answer_bytes}
use Rattle.client_lines.specs.Request.{without_lf}
use Rattle.client_lines.specs.declared.answer.Answer.TheVariants.{BadLine, Reply}
use Rattle.client_lines.specs.declared.answer.Outcome.TheVariants.{Accepted, Refused}
use Rattle.client_lines.specs.declared.answer.Reason.{Reason}
use Rattle.oath_node.specs.Rules.{Standing, ruling}
use Rattle.oath_node.specs.declared.ruling.Ruling.{Ruling}
use Rattle.oath_node.specs.declared.ruling.Ruling.TheVariants.{Outside, Again, Waiting, Denied, Wrong, Fitting}

-- a front end: the results of each token, the newest first, the drift of each token, and the last answers
pub record Front : Type 0 where
  pub results : List (List Result)
  pub drifts : List ℤ
  pub answers : List KeptAnswer

-- the floor of each token, which all front ends share, and the front end that answers; tokens are in the order of the
-- book
pub record Server : Type 0 where
  pub floors : List ℕ
  pub front : Front

-- a server whose tokens have no result and no drift, and which keeps no answer
abbrev pub server_at : List ℕ → Server
server_at floors = record {
  floors = floors;
  front = record { results = replicate (length floors) []; drifts = replicate (length floors) (pos 0); answers = [] };
}

-- a client's line, and the moment of its arrival
pub record Line : Type 0 where
  pub client : ℕ
  pub moment : ℕ
  pub text : List ℕ

-- the factors of a token that an accepted line uses up
pub record TokenSpan : Type 0 where
  pub token : ℕ
  pub lo : ℕ
  pub hi : ℕ

-- the answer to a line, as bytes, and its acceptance
pub record Answer : Type 0 where
  pub bytes : List ℕ
  pub accepted : Option TokenSpan

-- the service of a line: the server after it, and the answer
pub record Service : Type 0 where
  pub server : Server
  pub told : Answer

-- the floor of a token
abbrev pub floor_of : Server → ℕ → ℕ
floor_of server token = slice_index server.floors token

-- the results of a token
abbrev pub results_of : Server → ℕ → List Result
results_of server token = slice_index_or server.front.results token []

-- the drift of a token
abbrev pub drift_of : Server → ℕ → ℤ
drift_of server token = slice_index_or server.front.drifts token (pos 0)

-- the standing of the server that the rules ask about: no line waits, and the wait is the throttle's by the results
abbrev pub standing_of : Server → Line → Standing
standing_of server line = record {
  kept = kept_answer server.front.answers line.client (without_lf line.text);
  is_waiting = false;
  is_full = false;
  next = floor_of server;
  drift = drift_of server;
  wait = λ token. wait_after (results_of server token) line.moment;
}

-- the ruling on a line
abbrev pub ruling_of_line : List Credential → Limits → Server → Line → Ruling
ruling_of_line book limits server line = ruling book limits (standing_of server line) line.moment line.text

-- the bytes of a refusal
abbrev pub refusal_bytes : List ℕ → Reason → List ℕ
refusal_bytes nonce reason = answer_bytes (Reply nonce (Refused reason))

-- The answer of a ruling: `OK` with the last factor for a proposal, which is accepted, and otherwise a refusal or a
-- kept answer. No line waits here, so no ruling is `Waiting`.
abbrev pub told_by : Ruling → Answer
told_by Outside = record { bytes = answer_bytes BadLine; accepted = None }
told_by (Again text) = record { bytes = text; accepted = None }
told_by Waiting = record { bytes = []; accepted = None }
told_by (Denied nonce reason) = record { bytes = refusal_bytes nonce reason; accepted = None }
told_by (Wrong nonce reason token) = record { bytes = refusal_bytes nonce reason; accepted = None }
told_by (Fitting nonce token span drift) = record {
  bytes = answer_bytes (Reply nonce (Accepted span.hi));
  accepted = Some (record { token = token; lo = span.lo; hi = span.hi });
}

-- the floors after a ruling: an acceptance uses its factors up, and no other ruling changes a floor
abbrev pub floors_after : List ℕ → Ruling → List ℕ
floors_after floors Outside = floors
floors_after floors (Again text) = floors
floors_after floors Waiting = floors
floors_after floors (Denied nonce reason) = floors
floors_after floors (Wrong nonce reason token) = floors
floors_after floors (Fitting nonce token span drift) = slice_set floors token (span.hi + 1)

-- the results with another result of the token
abbrev pub with_result : List (List Result) → ℕ → Result → List (List Result)
with_result results token result = slice_set results token (result ∷ slice_index_or results token [])

-- the results after a ruling: a failure and an acceptance are results, and no other ruling is
abbrev pub results_after : List (List Result) → ℕ → Ruling → List (List Result)
results_after results moment Outside = results
results_after results moment (Again text) = results
results_after results moment Waiting = results
results_after results moment (Denied nonce reason) = results
results_after results moment (Wrong nonce reason token) = with_result results token (Failed moment)
results_after results moment (Fitting nonce token span drift) = with_result results token Passed

-- the drifts after a ruling: an acceptance keeps its drift, and no other ruling changes one
abbrev pub drifts_after : List ℤ → Ruling → List ℤ
drifts_after drifts Outside = drifts
drifts_after drifts (Again text) = drifts
drifts_after drifts Waiting = drifts
drifts_after drifts (Denied nonce reason) = drifts
drifts_after drifts (Wrong nonce reason token) = drifts
drifts_after drifts (Fitting nonce token span drift) = slice_set drifts token drift

-- the answers with another one, to a line, which is kept without an LF at its end
abbrev pub with_answer_to : Line → List ℕ → List KeptAnswer → List KeptAnswer
with_answer_to line text answers =
    kept_with answers (record { client = line.client; line = without_lf line.text; text = text })

-- the answers after a ruling: every answer is kept, except the answer to a bad line; one given again changes nothing
abbrev pub answers_after : List KeptAnswer → Line → Ruling → List KeptAnswer
answers_after answers line Outside = answers
answers_after answers line (Again text) = answers
answers_after answers line Waiting = answers
answers_after answers line (Denied nonce reason) = with_answer_to line (refusal_bytes nonce reason) answers
answers_after answers line (Wrong nonce reason token) = with_answer_to line (refusal_bytes nonce reason) answers
answers_after answers line (Fitting nonce token span drift) =
    with_answer_to line (answer_bytes (Reply nonce (Accepted span.hi))) answers

-- the service by a ruling on a line
abbrev pub service_by : Server → Line → Ruling → Service
service_by server line ruling = record {
  server = record {
    floors = floors_after server.floors ruling;
    front = record {
      results = results_after server.front.results line.moment ruling;
      drifts = drifts_after server.front.drifts ruling;
      answers = answers_after server.front.answers line ruling;
    };
  };
  told = told_by ruling;
}

-- the service of a line: the rules decide, by the server's state
abbrev pub service_of : List Credential → Limits → Server → Line → Service
service_of book limits server line = service_by server line (ruling_of_line book limits server line)

-- the server after the lines
unfoldable pub server_after : List Credential → Limits → Server → List Line → Server
server_after book limits server [] = server
server_after book limits server (line ∷ lines) =
    server_after book limits (service_of book limits server line).server lines

-- the server after a restart of its front end, which only clears the answers
abbrev pub restarted_server : Server → Server
restarted_server server =
    let old = server.front in
    record { floors = server.floors; front = record { results = old.results; drifts = old.drifts; answers = [] } }
