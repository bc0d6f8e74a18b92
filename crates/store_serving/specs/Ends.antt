-- The faults of a command that serves a node before its first turn.
use Rattle.std.specs.Prelude.{ℕ, List}
use Rattle.otp_core.specs.Limits.{Limits}
use Rattle.oathd_database.specs.Commands.{HasImport}
use Rattle.oathd_database.specs.Users.{IsUnread}
use Rattle.oathd_database.specs.declared.fault.Fault.{Fault}
use Rattle.oathd_database.specs.declared.fault.Fault.TheVariants.{Memory, CannotWrite, NoClock, Users, Store, Socket}

-- a fault that ends a command between the import of its users file and the first turn
abbrev pub IsEarlyFault : Fault → Type 0
IsEarlyFault Memory = Unit {0}
IsEarlyFault CannotWrite = ⊥
IsEarlyFault NoClock = Unit {0}
IsEarlyFault (Users fault) = ⊥
IsEarlyFault (Store fault) = Unit {0}
IsEarlyFault Socket = Unit {0}

-- A command that serves a node ends with the fault before the first turn. The users file is not imported, or the
-- store, the socket or the clock fails after the import.
abbrev pub IsNotServed : Limits → ℕ → ℕ → Fault → List ℕ → Type 0
IsNotServed limits moment longest Memory text = Unit {0}
IsNotServed limits moment longest CannotWrite text = ⊥
IsNotServed limits moment longest NoClock text = HasImport limits moment longest text
IsNotServed limits moment longest (Users fault) text = IsUnread limits moment longest (Users fault) text
IsNotServed limits moment longest (Store fault) text = HasImport limits moment longest text
IsNotServed limits moment longest Socket text = HasImport limits moment longest text
