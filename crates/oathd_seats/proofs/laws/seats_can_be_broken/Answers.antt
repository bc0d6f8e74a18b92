-- Each promise is asked about the one that breaks it.
use Rattle.std.proofs.Common.{◌≡◌, ℕ, List, [], ◌∷◌, Some, None, get_or, refl, ap, ◌∙◌, arith}
use Rattle.std.specs.Prelude.{codes, slice_get}
use Rattle.otp_core.specs.Limits.{default_limits}
use Rattle.token_file.specs.Credential.{Credential}
use Rattle.floor_store.specs.Records.{RowRecord}
use Rattle.roster_sql.specs.Examples.{one_token}
use Rattle.roster_sql.specs.declared.entry.Entry.{Entry}
use Rattle.seated_store.specs.Seats.{seated_rows}
use Rattle.named_store.specs.Entries.{entries_of}
use Rattle.named_store.proofs.IndexLemmas.{none_distinct}
use Rattle.oathd_database.specs.Broken.{small_conn}
use Rattle.oathd_database.specs.Gates.{gates_text}
use Rattle.oathd_database.specs.Text.{export_text}
use Rattle.oathd_database.proofs.BrokenLemmas.{clean_is, fallen_is, fallen_opened, fallen_sound, imported_is}
use Rattle.oathd_seats.specs.Examples.{nothing_seen, small_cluster}
use Rattle.oathd_roster.specs.Roster.{roster_text, row_start}
use Rattle.oathd_seats.proofs.laws.seats_can_be_broken.Goals as goal

pub returns-clause-exported : goal.returns-clause-exported
returns-clause-exported c = record {
  import = record { book = []; floors = []; imported = refl };
  store = nothing_seen;
  seen = (
    [],
    record {
      conn = small_conn;
      found = λ clean. tt;
      looked = record {
        tables = λ clean. absurd (fallen_is small_conn clean);
        kept = (fallen_opened 1 0 nothing_seen.inner.mirror).kept;
        seats = record {
          distinct = none_distinct;
          none_new = refl;
          seated = record {
            named = refl;
            apart = record { within = λ i seat at. absurd cc; apart = λ i j seat at_i at_j. absurd cc };
          };
          each = refl;
        };
        rows = refl;
        sound = fallen_sound nothing_seen.inner.mirror;
        works = refl;
      };
    },
  );
  written = λ clean. absurd (fallen_is small_conn clean);
}

pub returns-clause-exported_found : goal.returns-clause-exported_found
returns-clause-exported_found c h = h.seen.1.found (clean_is (λ disk. one_token.trees) h.seen.1.conn)

pub returns-clause-exported_written : goal.returns-clause-exported_written
returns-clause-exported_written c h =
    let rows = seated_rows h.store.seats h.store.inner.mirror.rows in
    let e : codes "x" ≡ export_text h.import.book rows = h.written (clean_is (λ disk. one_token.trees) h.store.inner.conn) in
    let none : codes "x" ≡ [] = e ∙ ap (λ (book : List Credential). export_text book rows) (imported_is default_limits 0 11 [] [] [] refl h.import).0 in
    absurd cc

pub returns-clause-gates_written : goal.returns-clause-gates_written
returns-clause-gates_written c h =
    let rows = seated_rows h.store.seats h.store.inner.mirror.rows in
    let e : codes "x" ≡ gates_text h.import.book rows = h.written (clean_is (λ disk. one_token.trees) h.store.inner.conn) in
    let none : codes "x" ≡ [] = e ∙ ap (λ (book : List Credential). gates_text book rows) (imported_is default_limits 0 11 [] [] [] refl h.import).0 in
    absurd cc

-- a line begins with another letter
no_roster : (book : List Credential) (seats : List ℕ) (roster : List Entry) (rows : List RowRecord)
    → codes "x" ≡ roster_text book seats roster rows → ⊥
unfolding row_start
no_roster book seats [] rows e = absurd cc
no_roster book seats (entry ∷ roster) [] e = absurd cc
no_roster book seats (entry ∷ roster) (row ∷ rows) e = absurd cc

pub returns-clause-roster_written : goal.returns-clause-roster_written
returns-clause-roster_written c h =
    no_roster h.import.book h.store.seats h.roster h.store.inner.mirror.rows (h.written (clean_is (λ disk. one_token.trees) h.store.inner.conn))

pub returns-clause-new_in_row_0 : goal.returns-clause-new_in_row_0
returns-clause-new_in_row_0 c h = let is = h.row_is in absurd (omega (arith, is))

pub returns-clause-new_past_the_last : goal.returns-clause-new_past_the_last
returns-clause-new_past_the_last c h =
    let lacks = h.looked.cause (clean_is (λ disk. one_token.trees) h.looked.left) in
    let none = ap (λ (book : List Credential). slice_get (entries_of small_cluster.salt book) h.place)
    (imported_is default_limits 0 11 [] [] [] refl h.looked.import).0 in
    let there = lacks.first.there in
    let never : None ≡ Some lacks.first.token = cc in
    absurd cc

pub returns-clause-nobody : goal.returns-clause-nobody
returns-clause-nobody c = (refl, record { import = record { book = []; floors = []; imported = refl }; of_nobody = refl })

pub returns-clause-nobody_else : goal.returns-clause-nobody_else
returns-clause-nobody_else c h = let e : 98 ≡ 99 = ap (λ (l : List ℕ). get_or l 0 0) h.0 in absurd (omega (arith, e))
