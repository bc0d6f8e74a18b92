-- The reading of a file.
use Rattle.oathd_lines.specs.declared.fault.Fault.TheVariants as lines
use Rattle.oathd_tasks.specs.declared.fault.Fault.{Fault}
use Rattle.oathd_tasks.specs.declared.fault.Fault.TheVariants.{Run, CannotReadFile}

-- the fault is one of a file: it cannot be read, or the allocator refused the memory for its text
abbrev pub IsOfFile : Fault → Type 0
IsOfFile (Run lines.Memory) = Unit {0}
IsOfFile (CannotReadFile path) = Unit {0}
IsOfFile fault = ⊥
