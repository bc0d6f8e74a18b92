-- Worked cases: the keys of the standards' tables, the codes of a key, and acceptances and witnesses that break the
-- promises of the theorems.
use Rattle.std.specs.Prelude.{ℕ, ◌==◌, ◌||◌, not, nat_le, if◌then◌else◌, List, codes}
use Rattle.hmac_core.specs.Broken.{empty_key}
use Rattle.otp_core.specs.Acceptance.{Acceptance}
use Rattle.otp_core.specs.declared.digits.Digits.TheVariants.{Six}
use Rattle.otp_core.specs.declared.hotp.Codes.{Codes}

-- the secret of RFC 4226, appendix D, and for SHA-1 of RFC 6238, appendix B
abbrev pub secret_of_20 : List ℕ
secret_of_20 = codes "12345678901234567890"

-- the secret of RFC 6238, appendix B, for SHA-256
abbrev pub secret_of_32 : List ℕ
secret_of_32 = codes "12345678901234567890123456789012"

-- the secret of RFC 6238, appendix B, for SHA-512
abbrev pub secret_of_64 : List ℕ
secret_of_64 = codes "1234567890123456789012345678901234567890123456789012345678901234"

-- the codes of the empty key, of six digits
abbrev pub codes_of_empty_key : Codes
codes_of_empty_key = record { key = empty_key; digits = Six }

-- ---- acceptances

-- an acceptance of token 0 at node 1, by the events in which it began and ended, and its factors
abbrev pub accepted : ℕ → ℕ → ℕ → ℕ → Acceptance
accepted began ended lo hi = record { began = began; ended = ended; node = 1; token = 0; lo = lo; hi = hi }

-- an acceptance of one factor, which began and ended in one event
abbrev pub accepted_at : ℕ → ℕ → Acceptance
accepted_at event factor = accepted event event factor factor

-- an acceptance of one factor in one event at a node
abbrev pub accepted_at_node : ℕ → ℕ → ℕ → Acceptance
accepted_at_node node event factor = record (accepted_at event factor) { node = node }

-- an acceptance of one factor of token 1 in one event, at node 1
abbrev pub accepted_of_other : ℕ → ℕ → Acceptance
accepted_of_other event factor =
    record { began = event; ended = event; node = 1; token = 1; lo = factor; hi = factor }

-- ---- witnesses

-- an acceptance of the factors 4 and 5 of token 2, which began in event 1 and ended in event 3
abbrev pub witnessed : Acceptance
witnessed = record { began = 1; ended = 3; node = 1; token = 2; lo = 4; hi = 5 }

-- floors: for token 2 they are 4 up to the event `last`, later 6; for other tokens always 4
abbrev pub floor_until : ℕ → ℕ → ℕ → ℕ → ℕ
floor_until last node token event = if nat_le event last || not (token == 2) then 4 else 6

-- floors of nodes of which 1 to k give up the factors in event 2, and the others never
abbrev pub floor_of_first : ℕ → ℕ → ℕ → ℕ → ℕ
floor_of_first k node token event = if nat_le node k then floor_until 2 node token event else 4

-- floors that give up the factors in event 2, and have them free again in the event `later`
abbrev pub floor_back_in : ℕ → ℕ → ℕ → ℕ → ℕ
floor_back_in later node token event = if event == later then 4 else floor_until 2 node token event
