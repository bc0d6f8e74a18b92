-- Each promise is asked about the store that breaks it.
use Rattle.std.proofs.Common.{◌≡◌, ℕ, List, [], Option, None, Some, length, refl, sym, ap, ◌∙◌, arith, false}
use Rattle.std.proofs.lemmas.List.{length-map}
use Rattle.otp_core.specs.Limits.{default_limits}
use Rattle.token_file.specs.Credential.{Credential}
use Rattle.floor_sql.specs.Broken.{small_content, tables_at}
use Rattle.floor_sql.proofs.BrokenLemmas.{none_holds, own_row_is}
use Rattle.named_store.specs.Entries.{entries_of, entry_under}
use Rattle.oathd_database.specs.Broken.{new_store, small_conn}
use Rattle.oathd_database.proofs.BrokenLemmas.{clean_is, fallen_is, fallen_opened, imported_is, one_token, opened_over, stays}
use Rattle.oathd_floors.specs.Examples.{small_cluster}
use Rattle.oathd_floors.specs.Kinds.{first_other}
use Rattle.oathd_floors.proofs.laws.names_can_be_broken.Goals as goal

pub returns-clause-named : goal.returns-clause-named
returns-clause-named c = record {
  import = record { book = []; floors = []; imported = refl };
  store = new_store 4 [];
  opened = record { conn = small_conn; found = λ clean. tt; node = 1; is_given = refl; opened = fallen_opened 1 0 (new_store 4 []).mirror };
  own = λ clean. absurd (fallen_is small_conn clean);
  named = record {
    idle = refl;
    ok = λ clean. absurd (fallen_is small_conn clean);
    err = λ clean. tt;
    failure = tt;
    unusable = λ clean. tt;
    crash = stays false (λ disk. tables_at 0 []) small_conn _;
  };
}

pub returns-clause-named_found : goal.returns-clause-named_found
returns-clause-named_found c h = h.opened.found (clean_is (λ disk. tables_at 4 []) h.opened.conn)

pub returns-clause-named_node : goal.returns-clause-named_node
returns-clause-named_node c h =
    let was = (h.named.ok (clean_is (λ disk. tables_at 4 []) small_conn)).committed.was in
    let node : ◌≡◌ {A = ℕ} 1 2 = (own_row_is 2 1 0 4 2 2 (length (entries_of small_cluster.salt h.import.book)) was.boot was.self).1 in
    omega (arith, node)

pub returns-clause-named_tokens : goal.returns-clause-named_tokens
returns-clause-named_tokens c users of_one h =
    let was = (h.named.ok (clean_is (λ disk. tables_at 4 []) small_conn)).committed.was in
    let none = (own_row_is 2 1 0 4 2 1 (length (entries_of small_cluster.salt h.import.book)) was.boot was.self).2 in
    let tokens : ◌≡◌ {A = ℕ} 0 1 = none ∙ length-map h.import.book (entry_under small_cluster.salt) ∙ one_token 0 11 users of_one h.import in
    omega (arith, tokens)

pub returns-clause-named_tables : goal.returns-clause-named_tables
returns-clause-named_tables c h =
    let none = ap (λ (book : List Credential). length (entries_of small_cluster.salt book)) (imported_is default_limits 0 11 [] [] [] refl h.import).0 in
    let now = ((h.named.ok (clean_is (λ disk. tables_at 4 []) small_conn)).committed.named (small_content 4) [] (none_holds 4) none).0 in
    let place = now.bond.place in
    absurd cc

pub returns-clause-store : goal.returns-clause-store
returns-clause-store c = record { book = []; floors = []; imported = refl }

pub returns-clause-other : goal.returns-clause-other
returns-clause-other c = record {
  import = record { book = []; floors = []; imported = refl };
  store = new_store 4 [];
  opened = record { conn = small_conn; found = λ clean. tt; node = 1; is_given = refl; opened = fallen_opened 1 0 (new_store 4 []).mirror };
  other = λ clean. absurd (fallen_is small_conn clean);
}

pub returns-clause-other_tokens : goal.returns-clause-other_tokens
returns-clause-other_tokens c users of_one h =
    let none : length h.import.book ≡ 0 = (opened_over (λ disk. 4) h.opened.conn h.opened.node (length h.import.book) h.store h.opened.opened).1 in
    let one : length h.import.book ≡ 1 = one_token 0 11 users of_one h.import in
    omega (arith, none, one)

pub returns-clause-other_row : goal.returns-clause-other_row
returns-clause-other_row c h =
    let none : [] ≡ h.import.book = sym (imported_is default_limits 0 11 [] [] [] refl h.import).0 in
    let told : first_other h.import.book h.store.mirror.rows ≡ Some 1 = h.other (clean_is (λ disk. tables_at 4 []) h.store.conn) in
    let both : ◌≡◌ {A = Option ℕ} None (Some 1) = ap (λ (book : List Credential). first_other book h.store.mirror.rows) none ∙ told in
    absurd cc
