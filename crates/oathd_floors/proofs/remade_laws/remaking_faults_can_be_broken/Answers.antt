-- Each fault is asked about the files or the users file that break it.
use Rattle.std.proofs.Common.{inl, ⊎_elim, [], ◌∷◌, refl}
use Rattle.std.specs.Prelude.{true}
use Rattle.oathd_database.proofs.BrokenLemmas.{clean_is}
use Rattle.oathd_floors.specs.Examples.{alone, no_tokens, none_seen, taking_at}
use Rattle.oathd_floors.proofs.BrokenLemmas.{fallen_again, none_gathered, none_strange, one_taken}
use Rattle.oathd_floors.proofs.remade_laws.remaking_faults_can_be_broken.Goals as goal

pub returns-clause-output : goal.returns-clause-output
returns-clause-output c text reads = record {
  import = record { book = []; floors = []; imported = refl };
  files = alone ∷ [];
  gathered = record { taken = one_taken (taking_at true) text.items alone reads; enough = refl };
  store = none_seen;
  made = fallen_again (alone ∷ []);
}

pub returns-clause-output_before_files : goal.returns-clause-output_before_files
returns-clause-output_before_files c h = none_gathered h.files h.gathered

pub returns-clause-output_before_store : goal.returns-clause-output_before_store
returns-clause-output_before_store c former h = h.made.found (clean_is (λ disk. no_tokens.trees) h.made.first)

pub returns-clause-store : goal.returns-clause-store
returns-clause-store c text reads = record {
  import = record { book = []; floors = []; imported = refl };
  files = alone ∷ [];
  gathered = record { taken = one_taken (taking_at true) text.items alone reads; enough = refl };
}

pub returns-clause-store_before_files : goal.returns-clause-store_before_files
returns-clause-store_before_files c h = none_gathered h.files h.gathered

pub returns-clause-full : goal.returns-clause-full
returns-clause-full c h = none_gathered h.has.files h.has.gathered

pub returns-clause-files : goal.returns-clause-files
returns-clause-files c = (record { book = []; floors = []; imported = refl }, inl (record { files = []; taken = refl; told = refl }))

pub returns-clause-other_files : goal.returns-clause-other_files
returns-clause-other_files c h = ⊎_elim none_strange (λ first. let taken = first refl in absurd cc) h.1
