-- The answers that a node keeps, to repeat them.
use Rattle.std.specs.Prelude.{ℕ, ◌==◌, ◌&&◌, Bool, if◌then◌else◌, List, [], ◌∷◌, ◌++◌, Option, Some, None}
use Rattle.std.specs.Cmp.Lexicographic.{slice_cmp}
use Rattle.std.specs.Option.{option_or}
use Rattle.std.specs.Ordering.{nat_cmp, ordering_then}
use Rattle.std.specs.Str.{bytes_eq}
use Rattle.std.specs.declared.cmp.Ordering.{Ordering}
use Rattle.circular_buffer.specs.Buffer.{keep_last}

-- an answer to a client's line; the line has no LF at its end
pub record KeptAnswer : Type 0 where
  pub client : ℕ
  pub line : List ℕ
  pub text : List ℕ

-- the answers with one more, of which the last 1,024 stay, the oldest first
abbrev pub kept_with : List KeptAnswer → KeptAnswer → List KeptAnswer
kept_with kept answer = keep_last 1024 (kept ++ answer ∷ [])

-- whether the answer is to the client and line
abbrev pub is_answer_to : ℕ → List ℕ → KeptAnswer → Bool
is_answer_to client line answer = (answer.client == client) && bytes_eq answer.line line

-- the newest answer to the client and line, or None
abbrev pub kept_answer : List KeptAnswer → ℕ → List ℕ → Option (List ℕ)
kept_answer [] client line = None
kept_answer (answer ∷ newer) client line =
    option_or (kept_answer newer client line) (if is_answer_to client line answer then Some answer.text else None)

-- the order of answers: by client, and by the bytes of a client's lines
unfoldable pub answer_order : KeptAnswer → KeptAnswer → Ordering
answer_order a b = ordering_then (nat_cmp a.client b.client) (slice_cmp nat_cmp a.line b.line)
