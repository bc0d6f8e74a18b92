-- Minimal simulations that keep or break one part of a promise. No contract cites them.
use Rattle.std.specs.Prelude.{ℕ, List, codes}
use Rattle.otp_core.specs.Limits.{default_limits}
use Rattle.token_file.specs.declared.fault.FileFault.{FileFault}
use Rattle.token_file.specs.declared.fault.LineFault.{LineFault}
use Rattle.oathd_sim.specs.Parts.{IsUnread}
use Rattle.oathd_sim.specs.declared.fault.Fault.{Fault}

-- a fault of a line of a users file
abbrev pub fault_at : ℕ → LineFault → FileFault
fault_at line kind = record { line = line; kind = kind }

-- an input of at most 99 bytes is not read because of the fault
abbrev pub IsUnreadFor : List ℕ → Fault → Type 0
IsUnreadFor text fault = IsUnread default_limits 0 99 99 text fault

-- an input without users, and with a script of one line
abbrev pub one_tick : List ℕ
one_tick = codes "#\n%%\ntick 1"
