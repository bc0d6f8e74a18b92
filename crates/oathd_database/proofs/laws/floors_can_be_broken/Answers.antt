-- Each promise is asked about the one that breaks it. What the texts say is computed.
use Rattle.std.proofs.Common.{◌≡◌, ◌⊎◌, inr, ⊎_elim, ℕ, List, [], ◌∷◌, length, refl, ap, arith}
use Rattle.std.specs.Prelude.{codes}
use Rattle.otp_core.specs.Limits.{default_limits}
use Rattle.floor_store.specs.Broken.{booted}
use Rattle.floor_store.specs.Content.{Content}
use Rattle.floor_sql.specs.Broken.{tables_at}
use Rattle.floors_file.specs.Floors.{FloorsRecord}
use Rattle.oathd_database.specs.Broken.{IsOfOne, new_store, one_book, small_conn}
use Rattle.oathd_database.specs.Commands.{HasImport}
use Rattle.oathd_database.specs.Level.{IsPartLevelled}
use Rattle.oathd_database.proofs.BrokenLemmas.{clean_is, fallen_is, fallen_made, fallen_opened, none_held, opened_over}
use Rattle.oathd_database.proofs.laws.floors_can_be_broken.Goals as goal

-- boot 1 is not boot 0
not_first : booted 1 ≡ booted 0 → ⊥
not_first e = let boot : 1 ≡ 0 = ap (λ (content : Content). content.boot) e in omega (arith, boot)

-- what the floors file of one user says
abbrev node_alone : FloorsRecord
node_alone = record {
  head = record { node = 1; members = 1; boot = 7; moment = 0 };
  rows = record { user = codes "a"; next = 5 } ∷ [];
}

pub returns-clause-gathered : goal.returns-clause-gathered
returns-clause-gathered c = record { files = node_alone ∷ []; read = refl; told = refl; greatest = refl }

pub returns-clause-fault : goal.returns-clause-fault
returns-clause-fault c = record { files = node_alone ∷ []; read = refl; told = refl }

pub returns-clause-fault_of_lost : goal.returns-clause-fault_of_lost
returns-clause-fault_of_lost c = record { files = node_alone ∷ []; read = refl; told = refl }

-- one token of a users file
of_one : (moment : ℕ) (users : List ℕ) → IsOfOne moment 11 users → HasImport default_limits moment 11 users
of_one moment users is = record { book = one_book; floors = 0 ∷ []; imported = is }

pub returns-clause-ungathered_for : goal.returns-clause-ungathered_for
returns-clause-ungathered_for c users is =
    record { import = of_one 0 users is; cause = record { files = []; read = refl; told = refl } }

pub returns-clause-not_remade : goal.returns-clause-not_remade
returns-clause-not_remade c users is =
    record { import = of_one 0 users is; cause = record { files = []; read = refl; told = refl } }

pub returns-clause-not_remade_floors : goal.returns-clause-not_remade_floors
returns-clause-not_remade_floors c users is = record { import = of_one 0 users is; cause = λ of_text. refl }

pub returns-clause-not_remade_store : goal.returns-clause-not_remade_store
returns-clause-not_remade_store c users is = of_one 0 users is

pub returns-clause-levels_left : goal.returns-clause-levels_left
returns-clause-levels_left c h = ⊎_elim
    (λ (before : (booted 1 ≡ booted 0) ⊎ (booted 1 ≡ booted 0)). ⊎_elim not_first not_first before)
    (λ (part : IsPartLevelled [] (booted 0) (booted 1)).
    let boot : 1 ≡ 0 = ap (λ (content : Content). content.boot) part.is in omega (arith, boot))
    (h.left refl (booted 1) (inr refl))

pub returns-clause-levels_settled : goal.returns-clause-levels_settled
returns-clause-levels_settled c h = not_first (h.settled refl (booted 1) (inr refl))

pub returns-clause-not_levelled_store : goal.returns-clause-not_levelled_store
returns-clause-not_levelled_store c users is = of_one 0 users is

pub returns-clause-remade : goal.returns-clause-remade
returns-clause-remade c users is = record {
  import = record { book = one_book; floors = 0 ∷ []; imported = is };
  floors = 5 ∷ [];
  gathered = record { files = node_alone ∷ []; read = refl; told = refl; greatest = refl };
  conn = small_conn;
  found = λ clean. tt;
  made = fallen_made 1 1048576 (5 ∷ []);
}

pub returns-clause-remade_node : goal.returns-clause-remade_node
returns-clause-remade_node c h =
    let made = (h.made.tables (clean_is (λ disk. tables_at 1048576 []) small_conn)).committed in
    let is : made.holds.node ≡ 1 = (none_held 1048576 _ _ made.holds).0 in
    let of_node : made.holds.node ≡ 2 = made.of_node in
    omega (arith, is, of_node)

pub returns-clause-levelled : goal.returns-clause-levelled
returns-clause-levelled c users is = record {
  import = record { book = one_book; floors = 0 ∷ []; imported = is };
  files = [];
  read = refl;
  found = new_store 4 [];
  opened = record { conn = small_conn; found = λ clean. tt; node = 1; is_given = refl; opened = fallen_opened 1 1 (new_store 4 []).mirror };
  levels = record {
    ok = λ clean. absurd (fallen_is small_conn clean);
    err = λ clean. tt;
    left = λ clean. absurd (fallen_is small_conn clean);
    settled = λ clean. absurd (fallen_is small_conn clean);
    clean = λ clean. clean;
  };
}

pub returns-clause-levelled_opened : goal.returns-clause-levelled_opened
returns-clause-levelled_opened c h =
    let is : h.opened.node ≡ 1 = (opened_over (λ disk. 4) h.opened.conn h.opened.node (length h.import.book) h.found h.opened.opened).0 in
    let given : h.opened.node ≡ 2 = h.opened.is_given in
    omega (arith, is, given)

pub returns-clause-levelled_levels : goal.returns-clause-levelled_levels
returns-clause-levelled_levels c h =
    let found : h.found.mirror.boot ≡ 4 = (opened_over (λ disk. 4) h.opened.conn h.opened.node (length h.import.book) h.found h.opened.opened).2 in
    let now : 5 ≡ h.found.mirror.boot = ap (λ (content : Content). content.boot) (h.levels.ok (clean_is (λ disk. tables_at 4 []) small_conn)) in
    omega (arith, found, now)

pub returns-clause-remade_found : goal.returns-clause-remade_found
returns-clause-remade_found c h = h.found (clean_is (λ disk. tables_at 1048576 []) h.conn)
