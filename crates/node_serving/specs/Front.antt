-- What stands between a node's socket and its clients.
use Rattle.std.specs.Prelude.{◌≡◌, ◌<◌, ◌^◌, ℕ, Option, Some, None}
use Rattle.replay_window.specs.Window.{last_at}
use Rattle.node_serving.specs.Gate.{gate_from}
use Rattle.oathd_database.specs.declared.fault.Fault.{Fault}
use Rattle.oathd_database.specs.declared.fault.Fault.TheVariants.{Memory, NoClock}
use Rattle.node_serving.specs.declared.gate.ClientLines.{ClientLines}
use Rattle.node_serving.specs.declared.gate.ClientLines.TheVariants as lines
use Rattle.node_serving.specs.declared.gate.Front.{Front}
use Rattle.node_serving.specs.declared.gate.Front.TheVariants.{Anybody, ThisMachine, Gate}

-- The mark at which windows begin. It is the latest moment that the process opened before, if that is known. Else it is
-- the last moment that may be named at some second of the clock, with a maximum lead in seconds.
abbrev pub IsFirstMark : Option ℕ → ℕ → ℕ → Type 0
IsFirstMark None ahead mark = (start : ℕ) × (start < 2 ^ 40) × (mark ≡ last_at start ahead)
IsFirstMark (Some latest) ahead mark = mark ≡ latest

-- The front is that of the lines which a node takes. `opened` is the latest moment that the process opened before, if
-- it is known. The windows of a clients file's gate begin at the first mark.
abbrev pub IsFrontOf : ℕ → Option ℕ → ClientLines → Front → Type 0
IsFrontOf node opened lines.Anybody Anybody = Unit {0}
IsFrontOf node opened lines.ThisMachine ThisMachine = Unit {0}
IsFrontOf node opened (lines.Of clients) (Gate gate) =
    (mark : ℕ) × IsFirstMark opened clients.ahead mark × (gate ≡ gate_from node mark clients)
IsFrontOf node opened given front = ⊥

-- the fault is the clock's or the allocator's
abbrev pub IsFrontFault : Fault → Type 0
IsFrontFault Memory = Unit {0}
IsFrontFault NoClock = Unit {0}
IsFrontFault fault = ⊥
