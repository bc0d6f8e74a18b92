-- What a client submits to be checked (RFC 4226, sections 7.2 and 7.4).
use Rattle.std.specs.Prelude.{ℕ, List}

-- one code, or two consecutive ones that resynchronize a token (section 7.4)
pub data Submission : Type 0 where
  Check : (code : List ℕ) → Submission
  Resync : (first second : List ℕ) → Submission
