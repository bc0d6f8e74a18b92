-- The floors files of a command by names: read under the own key of the cluster, and taken if they are of it.
use Rattle.std.specs.Prelude.{◌≡◌, ℕ, ◌+◌, ◌==◌, nat_lt, Bool, false, not, ◌&&◌, ◌||◌, List, [], ◌∷◌, ◌++◌, length, Option, None, Some, Result, Ok, Err, if◌then◌else◌}
use Rattle.std.specs.Str.{bytes_eq}
use Rattle.floors_file.specs.Fields.{◌>>=◌}
use Rattle.floors_file.specs.Named.{NamedFloorsRecord, NamedHeadRecord}
use Rattle.floors_file.specs.NamedReading.{named_floors_of}
use Rattle.floors_file.specs.Reading.{is_memory}
use Rattle.floors_file.specs.declared.fault.LineFault.{LineFault}
use Rattle.floors_file.specs.declared.gathered.FileFault.TheVariants.{Cluster}
use Rattle.floors_file.specs.declared.gathered.FilesFault.TheVariants.{File}
use Rattle.roster_sql.specs.Roster.{BondRecord}
use Rattle.oathd_database.specs.declared.fault.Fault.TheVariants.{Memory}
use Rattle.oathd_roster.specs.declared.fault.RosterFault.TheVariants.{Command}
use Rattle.oathd_floors.specs.declared.fault.NamedFloorsFault.{NamedFloorsFault}
use Rattle.oathd_floors.specs.declared.fault.NamedFloorsFault.TheVariants.{Roster, Floors, Ahead, Files}
use Rattle.oathd_floors.specs.declared.files.Taking.{Taking}

-- the demand of a command on its floors files
pub record TakingRecord : Type 0 where
  -- the own key of the cluster
  pub key : List ℕ
  pub own : BondRecord
  -- whether files of another life and another number of members are taken
  pub is_anew : Bool
  -- the present time
  pub now : ℕ

-- the value of a demand
abbrev pub taking_value : Taking → TakingRecord
taking_value taking = record {
  key = taking.key.now;
  own = taking.own.now;
  is_anew = taking.is_anew;
  now = taking.now;
}

-- whether a head is of the cluster, or of a cluster with its names if such a file is taken too
abbrev pub is_kin : TakingRecord → NamedHeadRecord → Bool
is_kin taking head =
    bytes_eq head.names taking.own.names
    && (taking.is_anew || bytes_eq head.life taking.own.life && head.members == taking.own.members)

-- why the file `number` is not taken, by its head
abbrev pub refusal_of : TakingRecord → ℕ → NamedHeadRecord → Option NamedFloorsFault
refusal_of taking number head =
    if not (is_kin taking head) then Some (Files (File number Cluster))
    else if nat_lt taking.now head.moment then Some (Ahead number)
    else None

-- the file, if nothing speaks against it
abbrev pub unless_refused : Option NamedFloorsFault → NamedFloorsRecord → Result NamedFloorsRecord NamedFloorsFault
unless_refused None file = Ok file
unless_refused (Some fault) file = Err fault

-- the content of the file `number` from what its text was read as
abbrev pub taken_of : TakingRecord → ℕ → Result NamedFloorsRecord (ℕ × LineFault)
    → Result NamedFloorsRecord NamedFloorsFault
taken_of taking number (Ok file) = unless_refused (refusal_of taking number file.head) file
taken_of taking number (Err fault) = Err (Floors number (record { line = fault.0; kind = fault.1 }))

-- the content of the file `number` with the given text
abbrev pub file_of : TakingRecord → ℕ → List ℕ → Result NamedFloorsRecord NamedFloorsFault
file_of taking number text = taken_of taking number (named_floors_of taking.key text)

-- the content of each text, after other files; the first text that is not taken decides
abbrev pub files_after : TakingRecord → List NamedFloorsRecord → List (List ℕ)
    → Result (List NamedFloorsRecord) NamedFloorsFault
files_after taking files [] = Ok files
files_after taking files (text ∷ texts) = do
  file ← file_of taking (length files + 1) text
  files_after taking (files ++ file ∷ []) texts

-- all texts are taken
abbrev pub AreTaken : TakingRecord → List (List ℕ) → Type 0
AreTaken taking texts = (files : List NamedFloorsRecord) × (files_after taking [] texts ≡ Ok files)

-- the fault is one of a file
abbrev pub IsOfFile : NamedFloorsFault → Type 0
IsOfFile (Roster fault) = ⊥
IsOfFile (Floors number fault) = Unit {0}
IsOfFile (Ahead number) = Unit {0}
IsOfFile (Files fault) = Unit {0}

-- whether the allocator refused the memory for a line
abbrev pub is_memory_of : NamedFloorsFault → Bool
is_memory_of (Roster fault) = false
is_memory_of (Floors number fault) = is_memory fault.kind
is_memory_of (Ahead number) = false
is_memory_of (Files fault) = false

-- a fault of the first text that is not taken
abbrev pub IsFirstUntaken : TakingRecord → List (List ℕ) → NamedFloorsFault → Type 0
IsFirstUntaken taking texts fault = is_memory_of fault ≡ false → files_after taking [] texts ≡ Err fault

-- Not all texts are taken: the allocator refused the memory, or the fault is that of the first text that is not.
abbrev pub IsUntaken : TakingRecord → List (List ℕ) → NamedFloorsFault → Type 0
IsUntaken taking texts (Roster fault) = fault ≡ Command Memory
IsUntaken taking texts (Floors number fault) = IsFirstUntaken taking texts (Floors number fault)
IsUntaken taking texts (Ahead number) = IsFirstUntaken taking texts (Ahead number)
IsUntaken taking texts (Files fault) = IsFirstUntaken taking texts (Files fault)
