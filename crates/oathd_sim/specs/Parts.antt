-- The two parts of an input. Private contracts alone cite this file.
use Rattle.std.specs.Prelude.{◌≡◌, ℕ, Bool, List, Ok, Err, IsTrue}
use Rattle.otp_core.specs.Limits.{Limits}
use Rattle.token_file.specs.Credential.{Credential}
use Rattle.token_file.specs.UsersFile.{Import, IsCutOff, import_of, instant_of, is_of_text}
use Rattle.token_file.specs.declared.fault.LineFault.TheVariants.{Read}
use Rattle.users_input.specs.Input.{lines_between, lines_of, pieces_of, users_file}
use Rattle.users_input.specs.Users.{numbered, rest_behind}
use Rattle.oathd_sim.specs.Sim.{Sim, BadScript, import_read}
use Rattle.oathd_sim.specs.declared.fault.Fault.{Fault}
use Rattle.oathd_sim.specs.declared.fault.Fault.TheVariants.{Memory, CannotRead, CannotWrite, Users, ScriptLine}

-- What was read of an input is this users file and this script, from the line `first` on. The limit may have cut the
-- script.
pub record HasParts (limits : Limits) (moment longest limit : ℕ) (read : List ℕ) (book : List Credential)
    (floors : List ℕ) (first : ℕ) (script : List ℕ) (is_cut : Bool) : Type 0 where
  pub import : import_read limits moment longest limit read ≡ Ok (import_of book floors)
  pub rest : numbered first (lines_between is_cut (pieces_of script)) ≡ rest_behind 0 (lines_of limit read)

-- The two parts are not read because of the fault.
abbrev pub IsUnread : Limits → ℕ → ℕ → ℕ → List ℕ → Fault → Type 0
IsUnread limits moment longest limit read Memory = Unit {0}
IsUnread limits moment longest limit read CannotRead =
    (import : Import) × (import_read limits moment longest limit read ≡ Ok import)
IsUnread limits moment longest limit read CannotWrite = ⊥
IsUnread limits moment longest limit read (Users fault) =
    (IsTrue (is_of_text fault.kind) → import_read limits moment longest limit read ≡ Err (fault.line, fault.kind))
    × (fault.kind ≡ Read
    → IsCutOff Read longest (instant_of limits moment) (users_file (lines_of limit read) read) fault.line)
IsUnread limits moment longest limit read (ScriptLine number) = ⊥

-- A simulation is abandoned because of the fault.
abbrev pub IsGivenUp : Sim → Fault → Type 0
IsGivenUp sim Memory = Unit {0}
IsGivenUp sim (ScriptLine number) = sim ≡ BadScript number
IsGivenUp sim fault = ⊥
