-- The users file of a command, and the faults of its reading. Floor: the first free factor of a token at a node.
use Rattle.std.specs.Prelude.{◌≡◌, ℕ, ◌+◌, ◌^◌, min, List, [], ◌∷◌, Option, None, Some, Ok, Err, IsTrue}
use Rattle.otp_core.specs.Limits.{Limits}
use Rattle.token_file.specs.Credential.{Credential, period_of}
use Rattle.token_file.specs.UsersFile.{IsCutOff, book_of, import_of, instant_of, is_of_text}
use Rattle.token_file.specs.declared.fault.LineFault.TheVariants.{Read}
use Rattle.oathd_database.specs.declared.fault.Fault.{Fault}
use Rattle.oathd_database.specs.declared.fault.Fault.TheVariants.{Memory, CannotWrite, NoClock, Users, Store, Socket}

-- the tokens of a users file of at most `longest` bytes, and the floors of their import
abbrev pub IsImported : Limits → ℕ → ℕ → List Credential → List ℕ → List ℕ → Type 0
IsImported limits moment longest book floors text =
    book_of longest (instant_of limits moment) text ≡ Ok (import_of book floors)

-- A users file of at most `longest` bytes is not imported. Either a line has the fault, or reading failed in that line
-- and no earlier line has a fault.
abbrev pub IsUnread : Limits → ℕ → ℕ → Fault → List ℕ → Type 0
IsUnread limits moment longest Memory text = Unit {0}
IsUnread limits moment longest CannotWrite text = ⊥
IsUnread limits moment longest NoClock text = ⊥
IsUnread limits moment longest (Users fault) text =
    (IsTrue (is_of_text fault.kind) → book_of longest (instant_of limits moment) text ≡ Err (fault.line, fault.kind))
    × (fault.kind ≡ Read → IsCutOff Read longest (instant_of limits moment) text fault.line)
IsUnread limits moment longest (Store fault) text = ⊥
IsUnread limits moment longest Socket text = ⊥

-- The floor of an imported token, later by the drift for a time token and at most the last one. A node may have
-- accepted factors up to `drift` steps beyond the skew, by the drift of the token's clock (RFC 6238, section 6).
abbrev pub drifted_floor : ℕ → Option ℕ → ℕ → ℕ
drifted_floor drift None floor = floor
drifted_floor drift (Some period) floor = min (floor + drift) (2 ^ 62)

-- the drifted floor of each token of a book
abbrev pub drifted_floors : ℕ → List Credential → List ℕ → List ℕ
drifted_floors drift [] floors = []
drifted_floors drift (token ∷ book) [] = []
drifted_floors drift (token ∷ book) (floor ∷ floors) =
    drifted_floor drift (period_of token.kind) floor ∷ drifted_floors drift book floors
