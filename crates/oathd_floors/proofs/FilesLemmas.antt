-- Files that are read and taken one after the other.
use Rattle.std.proofs.Common.{◌≡◌, ℕ, ◌+◌, ◌<◌, ◌≤◌, List, [], ◌∷◌, ◌++◌, map, drop, length, suc, add-one, sym, ap, ◌∙◌, get_or}
use Rattle.std.specs.Prelude.{Ok, Err, false}
use Rattle.std.proofs.Math.ListN.{drop_of_length-le}
use Rattle.std.proofs.Math.Seq.{drop-cons}
use Rattle.std.proofs.lemmas.List.{map-append, length-map}
use Rattle.floors_file.specs.declared.named.NamedFloors.{NamedFloors}
use Rattle.floors_file.specs.Fields.{◌>>=◌}
use Rattle.floors_file.specs.Named.{NamedFloorsRecord, named_value}
use Rattle.oathd_floors.specs.Files.{IsOfFile, IsUntaken, TakingRecord, file_of, files_after, is_memory_of}
use Rattle.oathd_floors.specs.declared.fault.NamedFloorsFault.{NamedFloorsFault}
use Rattle.oathd_floors.specs.declared.fault.NamedFloorsFault.TheVariants.{Roster, Floors, Ahead, Files}

-- the first `number` texts are taken
pub record HasFiles {T : Type 0} (taking : TakingRecord) (text_of : T → List ℕ) (texts : List T) (files : List NamedFloorsRecord) (number : ℕ) : Type 0 where
  pub so_far : files_after taking [] (map text_of texts) ≡ files_after taking files (map text_of (drop number texts))

module _ {T : Type 0} (taking : TakingRecord) (text_of : T → List ℕ) (texts : List T) where
  left_is : (number : ℕ) (text : T) → number < length texts → text ≡ get_or texts number text → drop number texts ≡ text ∷ drop (number + 1) texts
  left_is number text within is = rw (add-one, drop-cons texts number text within) (ap (λ y. y ∷ drop (suc number) texts) (sym is))

  pub files_next : (before after : List NamedFloors) (number at : ℕ) (text : T) (file : NamedFloors) → number < length texts → text ≡ get_or texts number text
      → at ≡ length before + 1 → file_of taking at (text_of text) ≡ Ok (named_value file) → after ≡ before ++ file ∷ []
      → HasFiles taking text_of texts (map named_value before) number → HasFiles taking text_of texts (map named_value after) (number + 1)
  files_next before after number at text file within is counted reads more has =
      let place : length (map named_value before) + 1 ≡ at = ap (λ n. n + 1) (length-map before named_value) ∙ sym counted in
      record {
        so_far = has.so_far ∙ ap (λ l. files_after taking (map named_value before) (map text_of l)) (left_is number text within is)
            ∙ ap (λ n. file_of taking n (text_of text) >>= λ new. files_after taking (map named_value before ++ new ∷ []) (map text_of (drop (number + 1) texts))) place
            ∙ ap (λ o. o >>= λ new. files_after taking (map named_value before ++ new ∷ []) (map text_of (drop (number + 1) texts))) reads
            ∙ ap (λ l. files_after taking l (map text_of (drop (number + 1) texts))) (sym (ap (map named_value) more ∙ map-append named_value before (file ∷ [])));
      }

  pub files_all : (files : List NamedFloorsRecord) (number : ℕ) → length texts ≤ number → HasFiles taking text_of texts files number
      → files_after taking [] (map text_of texts) ≡ Ok files
  files_all files number le has = has.so_far ∙ ap (λ l. files_after taking files (map text_of l)) (drop_of_length-le texts le)

  files_bad : (before : List NamedFloors) (number at : ℕ) (text : T) (fault : NamedFloorsFault) → number < length texts → text ≡ get_or texts number text
      → at ≡ length before + 1 → file_of taking at (text_of text) ≡ Err fault → HasFiles taking text_of texts (map named_value before) number
      → files_after taking [] (map text_of texts) ≡ Err fault
  files_bad before number at text fault within is counted reads has =
      let place : length (map named_value before) + 1 ≡ at = ap (λ n. n + 1) (length-map before named_value) ∙ sym counted in
      has.so_far ∙ ap (λ l. files_after taking (map named_value before) (map text_of l)) (left_is number text within is)
      ∙ ap (λ n. file_of taking n (text_of text) >>= λ new. files_after taking (map named_value before ++ new ∷ []) (map text_of (drop (number + 1) texts))) place
      ∙ ap (λ o. o >>= λ new. files_after taking (map named_value before ++ new ∷ []) (map text_of (drop (number + 1) texts))) reads

  -- the fault of the first text that is not taken
  pub untaken : (before : List NamedFloors) (number at : ℕ) (text : T) (fault : NamedFloorsFault) → number < length texts → text ≡ get_or texts number text
      → at ≡ length before + 1 → (is_memory_of fault ≡ false → file_of taking at (text_of text) ≡ Err fault)
      → IsOfFile fault → HasFiles taking text_of texts (map named_value before) number → IsUntaken taking (map text_of texts) fault
  untaken before number at text (Roster fault) within is counted reads of_file has = absurd of_file
  untaken before number at text (Floors n fault) within is counted reads of_file has = λ e. files_bad before number at text (Floors n fault) within is counted (reads e) has
  untaken before number at text (Ahead n) within is counted reads of_file has = λ e. files_bad before number at text (Ahead n) within is counted (reads e) has
  untaken before number at text (Files fault) within is counted reads of_file has = λ e. files_bad before number at text (Files fault) within is counted (reads e) has
