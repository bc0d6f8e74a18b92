-- The bytes of answers to clients.
use Rattle.std.specs.Prelude.{ℕ, List, ◌++◌, codes}
use Rattle.std.specs.Fmt.{decimal}
use Rattle.client_lines.specs.declared.answer.Answer.{Answer}
use Rattle.client_lines.specs.declared.answer.Answer.TheVariants.{BadLine, Reply}
use Rattle.client_lines.specs.declared.answer.Outcome.{Outcome}
use Rattle.client_lines.specs.declared.answer.Outcome.TheVariants.{Accepted, Refused}
use Rattle.client_lines.specs.declared.answer.Reason.{Reason}
use Rattle.client_lines.specs.declared.answer.Reason.TheVariants.{Unknown, Password, Throttled, Invalid, Spent, Timeout, Busy, Clock, Exhausted}

-- the reason of a refusal, after a space; numbers are decimal, without leading zeros
abbrev pub reason_bytes : Reason → List ℕ
reason_bytes Unknown = codes " UNKNOWN"
reason_bytes Password = codes " PASSWORD"
reason_bytes (Throttled seconds) = codes " THROTTLED " ++ decimal seconds
reason_bytes Invalid = codes " INVALID"
reason_bytes Spent = codes " SPENT"
reason_bytes Timeout = codes " TIMEOUT"
reason_bytes Busy = codes " BUSY"
reason_bytes Clock = codes " CLOCK"
reason_bytes Exhausted = codes " EXHAUSTED"

-- the bytes of the outcome of a line, with its nonce
abbrev pub reply_bytes : List ℕ → Outcome → List ℕ
reply_bytes nonce (Accepted factor) = codes "OK " ++ nonce ++ codes " " ++ decimal factor
reply_bytes nonce (Refused reason) = codes "NO " ++ nonce ++ reason_bytes reason

-- the bytes of an answer, without a line end
abbrev pub answer_bytes : Answer → List ℕ
answer_bytes BadLine = codes "NO - BADLINE"
answer_bytes (Reply nonce outcome) = reply_bytes nonce outcome
