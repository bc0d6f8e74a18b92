-- Each promise is asked about the store that breaks it.
use Rattle.std.proofs.Common.{◌≡◌, ℕ, ◌*◌, ◌^◌, [], ◌∷◌, refl, ap, sym, ◌∙◌, arith}
use Rattle.std.specs.Prelude.{true}
use Rattle.otp_core.specs.Limits.{default_limits}
use Rattle.named_store.specs.Entries.{entries_of}
use Rattle.roster_sql.specs.Examples.{small_bond}
use Rattle.oathd_database.specs.Broken.{shows_any}
use Rattle.oathd_database.specs.Lost.{boot_at}
use Rattle.oathd_database.specs.Users.{drifted_floors}
use Rattle.oathd_database.proofs.BrokenLemmas.{clean_is, fallen_is}
use Rattle.oathd_floors.specs.Examples.{alone, named_conn, no_tokens, none_seen, small_cluster, taking_at}
use Rattle.oathd_floors.proofs.BrokenLemmas.{again_is, fallen_again, none_gathered, one_taken}
use Rattle.oathd_floors.proofs.remade_laws.replacements_can_be_broken.Goals as goal

pub returns-clause-remade : goal.returns-clause-remade
returns-clause-remade c text reads = record {
  import = record { book = []; floors = []; imported = refl };
  files = alone ∷ [];
  gathered = record { taken = one_taken (taking_at true) text.items alone reads; enough = refl };
  made = fallen_again (alone ∷ []);
  written = λ clean. absurd (fallen_is named_conn clean);
}

pub returns-clause-remade_gathered : goal.returns-clause-remade_gathered
returns-clause-remade_gathered c line h = none_gathered h.files h.gathered

pub returns-clause-remade_node : goal.returns-clause-remade_node
returns-clause-remade_node c former line h =
    let node : ◌≡◌ {A = ℕ} 2 1 = (again_is shows_any 2 (boot_at former.now) h.files (entries_of small_cluster.salt h.import.book)
    (drifted_floors default_limits.drift h.import.book h.import.floors) small_bond none_seen h.made).0 in
    omega (arith, node)

pub returns-clause-remade_boot : goal.returns-clause-remade_boot
returns-clause-remade_boot c former line now h =
    let boot = (again_is shows_any 1 (boot_at former.now) h.files (entries_of small_cluster.salt h.import.book)
    (drifted_floors default_limits.drift h.import.book h.import.floors) small_bond none_seen h.made).1 in
    let later : 11 * 2 ^ 20 ≡ 10 * 2 ^ 20 = ap boot_at (sym now) ∙ boot in
    omega (arith, later)

pub returns-clause-remade_written : goal.returns-clause-remade_written
returns-clause-remade_written c former line h = h.written (clean_is (λ disk. no_tokens.trees) named_conn)

pub returns-clause-kept : goal.returns-clause-kept
returns-clause-kept c text reads = record {
  import = record { book = []; floors = []; imported = refl };
  files = alone ∷ [];
  gathered = record { taken = one_taken (taking_at true) text.items alone reads; enough = refl };
  store = none_seen;
  made = fallen_again (alone ∷ []);
}

pub returns-clause-kept_gathered : goal.returns-clause-kept_gathered
returns-clause-kept_gathered c h = none_gathered h.files h.gathered

pub returns-clause-kept_node : goal.returns-clause-kept_node
returns-clause-kept_node c former h =
    let node : ◌≡◌ {A = ℕ} 2 1 = (again_is shows_any 2 (boot_at former.now) h.files (entries_of small_cluster.salt h.import.book)
    (drifted_floors default_limits.drift h.import.book h.import.floors) small_bond h.store h.made).0 in
    omega (arith, node)
