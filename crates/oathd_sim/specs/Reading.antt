-- The results of the readers of lines and scripts.
use Rattle.std.specs.Prelude.{◌≡◌, ℕ, Option, Some, None, Result, Ok, Err}
use Rattle.oathd_sim.specs.Event.{ScriptRecord}
use Rattle.oathd_sim.specs.declared.script_fault.LineFault.{LineFault}
use Rattle.oathd_sim.specs.declared.script_fault.LineFault.TheVariants as line
use Rattle.oathd_sim.specs.declared.script_fault.ScriptFault.{ScriptFault}
use Rattle.oathd_sim.specs.declared.script_fault.ScriptFault.TheVariants.{Line, Memory}

-- The value that a reader returns is `said`, and `Form` means that there is none. Private contracts alone cite it.
abbrev pub Reads : {A B : Type 0} → (A → B) → Option B → Result A LineFault → Type 0
Reads value said (Ok read) = said ≡ Some (value read)
Reads value said (Err line.Form) = said ≡ None
Reads value said (Err line.Memory) = Unit

-- The script with a line more is `said`, and `Form` means that the line is bad. Private contracts alone cite it.
abbrev pub Takes : Option ScriptRecord → ScriptRecord → Result Unit LineFault → Type 0
Takes said new (Ok _) = said ≡ Some new
Takes said new (Err line.Form) = said ≡ None
Takes said new (Err line.Memory) = Unit

-- A script is refused for its first bad line, or because the allocator refused the memory.
abbrev pub IsRefused : Result ScriptRecord ℕ → ScriptFault → Type 0
IsRefused said (Line number) = said ≡ Err number
IsRefused said Memory = Unit
