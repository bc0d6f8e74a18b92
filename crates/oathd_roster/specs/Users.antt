-- The users file of a command over a store by names, and the faults of its reading.
use Rattle.std.specs.Prelude.{ℕ, List}
use Rattle.otp_core.specs.Limits.{Limits}
use Rattle.token_names.specs.Names.{IsFirstRepeat, names_of}
use Rattle.oathd_database.specs.Commands.{HasImport}
use Rattle.oathd_database.specs.Users.{IsUnread}
use Rattle.oathd_roster.specs.declared.fault.RosterFault.{RosterFault}
use Rattle.oathd_roster.specs.declared.fault.RosterFault.TheVariants.{Command, SameName, AnotherCluster, Full}

-- A users file is imported. The token in this row, from 1, is the first one with the name of an earlier token.
pub record HasSameName (salt : List ℕ) (limits : Limits) (moment longest row : ℕ) (text : List ℕ) : Type 0 where
  pub import : HasImport limits moment longest text
  pub repeat : IsFirstRepeat (names_of salt import.book) row

-- A users file of at most `longest` bytes is not imported, or two of its tokens have one name.
abbrev pub IsUnnamed : List ℕ → Limits → ℕ → ℕ → RosterFault → List ℕ → Type 0
IsUnnamed salt limits moment longest (Command fault) text = IsUnread limits moment longest fault text
IsUnnamed salt limits moment longest (SameName row) text = HasSameName salt limits moment longest row text
IsUnnamed salt limits moment longest AnotherCluster text = ⊥
IsUnnamed salt limits moment longest Full text = ⊥
