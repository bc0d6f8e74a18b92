-- The floors files of a command, and the faults that end it.
use Rattle.std.specs.Prelude.{◌≡◌, ℕ, ◌+◌, List, [], ◌∷◌, ◌++◌, length, Result, Ok, Err, false}
use Rattle.floors_file.specs.Fields.{◌>>=◌}
use Rattle.floors_file.specs.Floors.{FloorsRecord}
use Rattle.floors_file.specs.Reading.{floors_of, is_memory}
use Rattle.floors_file.specs.declared.fault.LineFault.{LineFault}
use Rattle.oathd_database.specs.Fault.{status_of}
use Rattle.oathd_database.specs.declared.fault.Fault.TheVariants.{Memory}
use Rattle.oathd_database.specs.declared.gather.GatherFault.{GatherFault}
use Rattle.oathd_database.specs.declared.gather.GatherFault.TheVariants.{Command, Floors, Files}

-- a file's content, or the number of the file and its fault
abbrev pub at_file : {A : Type 0} → ℕ → Result A (ℕ × LineFault) → Result A (ℕ × ℕ × LineFault)
at_file number (Ok file) = Ok file
at_file number (Err fault) = Err (number, fault.0, fault.1)

-- the content of each text, after other files; the first text that is not a floors file decides
abbrev pub files_after : List FloorsRecord → List (List ℕ) → Result (List FloorsRecord) (ℕ × ℕ × LineFault)
files_after files [] = Ok files
files_after files (text ∷ texts) = do
  file ← at_file (length files + 1) (floors_of text)
  files_after (files ++ file ∷ []) texts

-- Not all texts are read: the allocator refused the memory, or `number` is the first text that is not a floors file.
abbrev pub IsUnreadFile : List (List ℕ) → GatherFault → Type 0
IsUnreadFile texts (Command fault) = fault ≡ Memory
IsUnreadFile texts (Floors number fault) =
    is_memory fault.kind ≡ false → files_after [] texts ≡ Err (number, fault.line, fault.kind)
IsUnreadFile texts (Files fault) = ⊥

-- the exit status for a fault
abbrev pub gather_status : GatherFault → ℕ
gather_status (Command fault) = status_of fault
gather_status (Floors number fault) = 1
gather_status (Files fault) = 1
