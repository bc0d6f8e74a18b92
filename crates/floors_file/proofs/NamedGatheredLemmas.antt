-- Loops over files by names and their rows.
use Rattle.std.proofs.Common.{◌≡◌, ℕ, suc, ◌+◌, ◌-◌, ◌<◌, ◌≤◌, cond, List, [], ◌∷◌, ◌++◌, length, map, take, drop, Option, Some, None, inl, inr, refl, sym, ap, subst, ◌∙◌, arith, get_or}
use Rattle.std.specs.Prelude.{◌⊎◌, IfSome, slice_get, option_map, ◌||◌, true, false}
use Rattle.std.specs.Option.{option_or}
use Rattle.std.proofs.Math.ListN.{drop_of_length-le}
use Rattle.std.proofs.lemmas.List.{map-append, take_more}
use Rattle.std.proofs.lemmas.Option.{slice_get_cases}
use Rattle.floors_file.specs.declared.gathered.Asked.{Asked}
use Rattle.floors_file.specs.declared.gathered.FileFault.{FileFault}
use Rattle.floors_file.specs.declared.gathered.FilesFault.{FilesFault}
use Rattle.floors_file.specs.declared.gathered.FilesFault.TheVariants.{File, Missing}
use Rattle.floors_file.specs.declared.named.NamedFloor.{NamedFloor}
use Rattle.floors_file.specs.declared.named.NamedFloors.{NamedFloors}
use Rattle.floors_file.specs.Gathered.{is_among}
use Rattle.floors_file.specs.Named.{NamedFloorsRecord, named_value}
use Rattle.floors_file.specs.NamedGathered.{is_of_named, named_fault, named_files_fault, named_missing_from, with_files, with_rows}
use Rattle.floors_file.specs.NamedRows.{with_row}
use Rattle.floors_file.proofs.GatheredLemmas.{left_at}

-- ---- files one after the other

module _ (asked : Asked) (lost : List ℕ) (made : Option ℕ) (files : List NamedFloors) where
  abbrev pub named_faults_from : ℕ → List NamedFloors → Option FilesFault
  named_faults_from place left = named_files_fault asked lost made (map named_value files) place (map named_value left)

  -- the fault of a file before others
  abbrev pub named_fault_of : NamedFloors → List NamedFloors → Option FileFault
  named_fault_of file later = named_fault asked lost made (map named_value files) (map named_value later) (named_value file)

  -- none of the first files has a fault
  pub record NoNamedFault (place : ℕ) : Type 0 where
    pub so_far : named_faults_from 0 files ≡ named_faults_from place (drop place files)

  pub no_named_fault : NoNamedFault 0
  no_named_fault = record { so_far = refl }

  fault_to : (place : ℕ) (file : NamedFloors) → slice_get files place ≡ Some file → NoNamedFault place → named_faults_from 0 files
      ≡ option_or (option_map (File (place + 1)) (named_fault_of file (drop (place + 1) files))) (named_faults_from (place + 1) (drop (place + 1) files))
  fault_to place file is has = has.so_far ∙ ap (named_faults_from place) (left_at files place file is)

  fault_known : (place : ℕ) (file : NamedFloors) (result : Option FileFault) → slice_get files place ≡ Some file
      → named_fault_of file (drop (place + 1) files) ≡ result → NoNamedFault place
      → named_faults_from 0 files ≡ option_or (option_map (File (place + 1)) result) (named_faults_from (place + 1) (drop (place + 1) files))
  fault_known place file result is known has =
      fault_to place file is has
      ∙ ap (λ fault. option_or (option_map (File (place + 1)) fault) (named_faults_from (place + 1) (drop (place + 1) files))) known

  -- what the code found of the file at a place
  fault_found : (place : ℕ) (result : Option FileFault) → place < length files
      → IfSome (slice_get files place) (λ file. result ≡ named_fault_of file (drop (place + 1) files)) → NoNamedFault place
      → named_faults_from 0 files ≡ option_or (option_map (File (place + 1)) result) (named_faults_from (place + 1) (drop (place + 1) files))
  fault_found place result within is has = next (slice_get_cases files place).1 where
    next : ((x : NamedFloors) × (place < length files) × (slice_get files place ≡ Some x) × (get_or files place x ≡ x)) ⊎ ((length files ≤ place) × (slice_get files place ≡ None))
        → named_faults_from 0 files ≡ option_or (option_map (File (place + 1)) result) (named_faults_from (place + 1) (drop (place + 1) files))
    next (inl found) =
        let fault : result ≡ named_fault_of found.0 (drop (place + 1) files) =
        subst (λ o. IfSome o (λ file. result ≡ named_fault_of file (drop (place + 1) files))) found.2 is in
        fault_known place found.0 result found.2 (sym fault) has
    next (inr past) = absurd (omega (arith, within, past.0))

  pub named_fault_next : (place : ℕ) (result : Option FileFault) → place < length files
      → IfSome (slice_get files place) (λ file. result ≡ named_fault_of file (drop (place + 1) files)) → result ≡ None → NoNamedFault place → NoNamedFault (place + 1)
  named_fault_next place result within is none has = record {
    so_far = fault_found place result within is has
        ∙ ap (λ fault. option_or (option_map (File (place + 1)) fault) (named_faults_from (place + 1) (drop (place + 1) files))) none;
  }

  pub named_fault_found : (place : ℕ) (result : Option FileFault) (fault : FileFault) → place < length files
      → IfSome (slice_get files place) (λ file. result ≡ named_fault_of file (drop (place + 1) files)) → result ≡ Some fault → NoNamedFault place
      → Some (File (place + 1) fault) ≡ named_faults_from 0 files
  named_fault_found place result fault within is some has = sym (
      fault_found place result within is has
      ∙ ap (λ fault. option_or (option_map (File (place + 1)) fault) (named_faults_from (place + 1) (drop (place + 1) files))) some
      )

  pub named_fault_none : (place : ℕ) → length files ≤ place → NoNamedFault place → named_faults_from 0 files ≡ None
  named_fault_none place le has = has.so_far ∙ ap (named_faults_from place) (drop_of_length-le files le)

-- ---- nodes one after the other

-- none of the first nodes is missing
pub record NoneLacks (lost : List ℕ) (files : List NamedFloorsRecord) (members number : ℕ) : Type 0 where
  pub so_far : named_missing_from lost files 1 members ≡ named_missing_from lost files (number + 1) (members - number)

pub none_lacks : (lost : List ℕ) (files : List NamedFloorsRecord) (members : ℕ) → NoneLacks lost files members 0
none_lacks lost files members = record { so_far = ap (named_missing_from lost files 1) (omega arith) }

node_left : (members number : ℕ) → number < members → members - number ≡ suc (members - (number + 1))
node_left members number h = omega (arith, h)

pub named_there : (lost : List ℕ) (files : List NamedFloorsRecord) (members number : ℕ) → number < members
    → (is_among (number + 1) lost || is_of_named (number + 1) files) ≡ true → NoneLacks lost files members number
    → NoneLacks lost files members (number + 1)
named_there lost files members number within there has = record {
  so_far = has.so_far ∙ ap (named_missing_from lost files (number + 1)) (node_left members number within)
      ∙ ap (λ b. cond b (named_missing_from lost files (number + 1 + 1) (members - (number + 1))) (Some (Missing (number + 1)))) there;
}

pub named_missing : (lost : List ℕ) (files : List NamedFloorsRecord) (members number : ℕ) → number < members
    → (is_among (number + 1) lost || is_of_named (number + 1) files) ≡ false → NoneLacks lost files members number
    → named_missing_from lost files 1 members ≡ Some (Missing (number + 1))
named_missing lost files members number within lacks has =
    has.so_far ∙ ap (named_missing_from lost files (number + 1)) (node_left members number within)
    ∙ ap (λ b. cond b (named_missing_from lost files (number + 1 + 1) (members - (number + 1))) (Some (Missing (number + 1)))) lacks

pub all_named_there : (lost : List ℕ) (files : List NamedFloorsRecord) (members number : ℕ) → members ≤ number → NoneLacks lost files members number
    → named_missing_from lost files 1 members ≡ None
all_named_there lost files members number le has =
    let none : members - number ≡ 0 = omega (arith, le) in
    has.so_far ∙ ap (named_missing_from lost files (number + 1)) none

-- ---- the rows that are gathered

with_rows_more : (before rows : List NamedFloor) (row : NamedFloor) → with_rows before (rows ++ row ∷ []) ≡ with_row (with_rows before rows) row
with_rows_more before [] row = refl
with_rows_more before (other ∷ rows) row = with_rows_more (with_row before other) rows row

pub with_rows_next : (before rows now new : List NamedFloor) (place : ℕ) (row default : NamedFloor) → place < length rows → row ≡ get_or rows place default
    → now ≡ with_rows before (take place rows) → new ≡ with_row now row → new ≡ with_rows before (take (place + 1) rows)
with_rows_next before rows now new place row default low is so_far merged =
    merged ∙ ap (λ (l : List NamedFloor). with_row l row) so_far
    ∙ ap (with_row (with_rows before (take place rows))) is
    ∙ sym (with_rows_more before (take place rows) (get_or rows place default))
    ∙ sym (ap (with_rows before) (take_more rows place default low))

with_files_more : (before : List NamedFloor) (files : List NamedFloorsRecord) (file : NamedFloorsRecord)
    → with_files before (files ++ file ∷ []) ≡ with_rows (with_files before files) file.rows
with_files_more before [] file = refl
with_files_more before (other ∷ files) file = with_files_more (with_rows before other.rows) files file

pub with_files_next : (before now new : List NamedFloor) (files : List NamedFloors) (place : ℕ) (file : NamedFloors) → place < length files → file ≡ get_or files place file
    → now ≡ with_files before (map named_value (take place files)) → new ≡ with_rows now file.rows.items
    → new ≡ with_files before (map named_value (take (place + 1) files))
with_files_next before now new files place file low is so_far merged =
    merged ∙ ap (λ (l : List NamedFloor). with_rows l file.rows.items) so_far
    ∙ sym (with_files_more before (map named_value (take place files)) (named_value file))
    ∙ ap (with_files before) (sym (map-append named_value (take place files) (file ∷ [])))
    ∙ ap (λ (l : List NamedFloors). with_files before (map named_value l))
    (sym (take_more files place file low ∙ ap (λ (f : NamedFloors). take place files ++ f ∷ []) (sym is)))
