-- Each promise is asked about the files that break it. What the files lack is computed.
use Rattle.std.proofs.Common.{◌≡◌, inl, ⊎_elim, ℕ, ◌<◌, List, [], ◌∷◌, Some, None, length, refl, ap, subst, arith}
use Rattle.std.specs.Prelude.{true}
use Rattle.otp_core.specs.Limits.{default_limits}
use Rattle.token_file.specs.Credential.{Credential}
use Rattle.floors_file.specs.Named.{NamedFloorsRecord}
use Rattle.floors_file.specs.NamedGathered.{gathered_rows}
use Rattle.floors_file.specs.declared.gathered.FileFault.TheVariants.{Boot, Older}
use Rattle.floors_file.specs.declared.gathered.FilesFault.TheVariants.{File, NotLost, TooManyLost}
use Rattle.named_floors.specs.Remade.{remade_entries}
use Rattle.named_floors.proofs.MadeLemmas.{gathered_alone}
use Rattle.named_store.specs.Entries.{entries_of}
use Rattle.oathd_database.proofs.BrokenLemmas.{imported_is}
use Rattle.oathd_floors.specs.Examples.{alone, alone_with, former_of, small_cluster, taking_at}
use Rattle.oathd_floors.specs.Remade.{asked_of, gather_fault}
use Rattle.oathd_floors.proofs.BrokenLemmas.{files_are, none_gathered, none_strange, one_taken, one_untaken}
use Rattle.oathd_floors.proofs.remade_laws.gatherings_can_be_broken.Goals as goal

pub returns-clause-gathered : goal.returns-clause-gathered
returns-clause-gathered c text reads = record { taken = one_taken (taking_at true) text.items alone reads; enough = refl }

pub returns-clause-gathered_taken : goal.returns-clause-gathered_taken
returns-clause-gathered_taken c text reads h =
    let same = files_are (taking_at true) (text.items ∷ []) (alone ∷ []) (alone ∷ alone ∷ []) (one_taken (taking_at true) text.items alone reads) h.taken in
    let number : ◌≡◌ {A = ℕ} 1 2 = ap (λ (files : List NamedFloorsRecord). length files) same in
    omega (arith, number)

pub returns-clause-gathered_late : goal.returns-clause-gathered_late
returns-clause-gathered_late c text h = let older : Some (File 1 Older) ≡ None = h.enough in absurd cc

pub returns-clause-gathered_lost : goal.returns-clause-gathered_lost
returns-clause-gathered_lost c text h = let other : Some NotLost ≡ None = h.enough in absurd cc

pub returns-clause-gathered_none : goal.returns-clause-gathered_none
returns-clause-gathered_none c h = let few : Some TooManyLost ≡ None = h.enough in absurd cc

pub returns-clause-fault : goal.returns-clause-fault
returns-clause-fault c = record { files = []; taken = refl; told = refl }

pub returns-clause-fault_taken : goal.returns-clause-fault_taken
returns-clause-fault_taken c text fault refused h = one_untaken (taking_at true) text.items fault h.files refused h.taken

pub returns-clause-fault_told : goal.returns-clause-fault_told
returns-clause-fault_told c h = none_strange h

pub returns-clause-fault_older : goal.returns-clause-fault_older
returns-clause-fault_older c text reads =
    record { files = alone ∷ []; taken = one_taken (taking_at true) text.items alone reads; told = refl }

pub returns-clause-fault_boot : goal.returns-clause-fault_boot
returns-clause-fault_boot c text reads h =
    let files = files_are (taking_at true) (text.items ∷ []) h.files (alone ∷ []) h.taken (one_taken (taking_at true) text.items alone reads) in
    let told : None ≡ Some (File 1 Boot) =
    subst (λ (l : List NamedFloorsRecord). gather_fault (asked_of (former_of 8 None (text ∷ []))) 1 None l ≡ Some (File 1 Boot)) files h.told in
    absurd cc

pub returns-clause-too_few : goal.returns-clause-too_few
returns-clause-too_few c = inl (record { files = []; taken = refl; told = refl })

pub returns-clause-none_strange : goal.returns-clause-none_strange
returns-clause-none_strange c h = ⊎_elim none_strange (λ first. let taken = first refl in absurd cc) h

pub returns-clause-has : goal.returns-clause-has
returns-clause-has c text reads = record {
  import = record { book = []; floors = []; imported = refl };
  files = alone ∷ [];
  gathered = record { taken = one_taken (taking_at true) text.items alone reads; enough = refl };
}

pub returns-clause-has_files : goal.returns-clause-has_files
returns-clause-has_files c h = none_gathered h.files h.gathered

pub returns-clause-too_full : goal.returns-clause-too_full
returns-clause-too_full c text reads h =
    let files = files_are (taking_at true) (text.items ∷ []) h.has.files (alone ∷ []) h.has.gathered.taken (one_taken (taking_at true) text.items alone reads) in
    let book = (imported_is default_limits 0 11 [] [] [] refl h.has.import).0 in
    let full : 65536 < 0 =
    subst (λ (l : List NamedFloorsRecord). 65536 < length (remade_entries (gathered_rows l) [])) files
    (subst (λ (b : List Credential). 65536 < length (remade_entries (gathered_rows h.has.files) (entries_of small_cluster.salt b))) book h.full) in
    omega (arith, full)

pub returns-clause-room : goal.returns-clause-room
returns-clause-room c text rows reads many h =
    let own = alone_with rows ∷ [] in
    let files = files_are (taking_at true) (text.items ∷ []) h.has.files own h.has.gathered.taken (one_taken (taking_at true) text.items (alone_with rows) reads) in
    let book = (imported_is default_limits 0 11 [] [] [] refl h.has.import).0 in
    let full : 65536 < length (remade_entries (gathered_rows own) []) =
    subst (λ (l : List NamedFloorsRecord). 65536 < length (remade_entries (gathered_rows l) [])) files
    (subst (λ (b : List Credential). 65536 < length (remade_entries (gathered_rows h.has.files) (entries_of small_cluster.salt b))) book h.full) in
    omega (arith, gathered_alone (gathered_rows own), many, full)

pub returns-clause-no_room : goal.returns-clause-no_room
returns-clause-no_room c text rows reads many =
    let own = alone_with rows ∷ [] in
    record {
      has = record {
        import = record { book = []; floors = []; imported = refl };
        files = own;
        gathered = record { taken = one_taken (taking_at true) text.items (alone_with rows) reads; enough = refl };
      };
      full = omega (arith, gathered_alone (gathered_rows own), many);
    }
