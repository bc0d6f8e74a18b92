-- Each promise is asked about the one that breaks it.
use Rattle.std.proofs.Common.{◌≡◌, [], ◌∷◌, length, true, refl, ap, ◌∙◌, arith}
use Rattle.std.specs.Prelude.{codes}
use Rattle.sqlite.specs.Effect.{Database}
use Rattle.token_file.specs.Examples.{time_token}
use Rattle.token_file.specs.declared.token.Kind.TheVariants.{Time30}
use Rattle.floor_sql.specs.Broken.{small_content, tables_at}
use Rattle.floor_sql.specs.Schema.{floor_schema, undrifted_schema}
use Rattle.floor_sql.specs.declared.schema.Format.TheVariants.{Numbered}
use Rattle.floor_sql.proofs.BrokenLemmas.{none_holds}
use Rattle.floors_file.specs.Writing.{head_text, floors_text}
use Rattle.oathd_database.specs.Broken.{conn_of, old_and_new, new_store, one_book, small_conn}
use Rattle.oathd_database.specs.Floors.{told_floors}
use Rattle.oathd_database.proofs.BrokenLemmas.{clean_is, fallen_is, fallen_made, fallen_migrated, fallen_opened, none_held, nothing_written, one_token, opened_over, stays}
use Rattle.oathd_database.proofs.laws.commands_can_be_broken.Goals as goal

pub returns-clause-made : goal.returns-clause-made
returns-clause-made c users is = record {
  import = record { book = time_token Time30 ∷ []; floors = 3 ∷ []; imported = is };
  conn = small_conn;
  found = λ clean. tt;
  made = fallen_made 1 0 (5 ∷ []);
}

pub returns-clause-made_node : goal.returns-clause-made_node
returns-clause-made_node c h =
    let made = (h.made.tables (clean_is (λ disk. tables_at 0 []) small_conn)).committed in
    let is : made.holds.node ≡ 1 = (none_held 0 _ _ made.holds).0 in
    let of_node : made.holds.node ≡ 2 = made.of_node in
    omega (arith, is, of_node)

pub returns-clause-opened : goal.returns-clause-opened
returns-clause-opened c = (
  record { conn = small_conn; found = λ clean. tt; node = 1; is_given = refl; opened = fallen_opened 1 0 (new_store 4 []).mirror },
  record { conn = small_conn; found = λ clean. tt; node = 1; is_given = tt; opened = fallen_opened 1 0 (new_store 4 []).mirror },
)

pub returns-clause-opened_given : goal.returns-clause-opened_given
returns-clause-opened_given c h =
    let is : h.node ≡ 1 = (opened_over (λ disk. 4) h.conn h.node 0 _ h.opened).0 in
    let given : h.node ≡ 2 = h.is_given in
    omega (arith, is, given)

pub returns-clause-opened_tokens : goal.returns-clause-opened_tokens
returns-clause-opened_tokens c h =
    let is : 1 ≡ 0 = (opened_over (λ disk. 4) h.conn h.node 1 _ h.opened).1 in omega (arith, is)

pub returns-clause-opened_content : goal.returns-clause-opened_content
returns-clause-opened_content c h =
    let is : 5 ≡ 4 = (opened_over (λ disk. 4) h.conn h.node 0 _ h.opened).2 in omega (arith, is)

pub returns-clause-migrated : goal.returns-clause-migrated
returns-clause-migrated c users is = record {
  import = record { book = one_book; floors = 0 ∷ []; imported = is };
  old = small_conn;
  found = λ clean. tt;
  migrated = fallen_migrated 1 1;
}

pub returns-clause-migrated_node : goal.returns-clause-migrated_node
returns-clause-migrated_node c h =
    let made = (h.migrated.tables (clean_is old_and_new (conn_of floor_schema 1))).committed in
    let is : made.holds.node ≡ 1 = (none_held 4 _ _ made.holds).0 in
    let of_node : made.holds.node ≡ 2 = made.of_node in
    omega (arith, is, of_node)

pub returns-clause-migrated_tokens : goal.returns-clause-migrated_tokens
returns-clause-migrated_tokens c users of_one h =
    let made = (h.migrated.tables (clean_is old_and_new (conn_of floor_schema 1))).committed in
    let is : length made.content.rows ≡ 0 = (none_held 4 _ _ made.holds).1 in
    let tokens : length made.content.rows ≡ 1 = made.was.of_tokens ∙ one_token 0 11 users of_one h.import in
    omega (arith, is, tokens)

pub returns-clause-kept : goal.returns-clause-kept
returns-clause-kept c = record {
  content = (refl, refl, refl);
  tables = λ clean. record { now = λ is_open. refl; committed = λ is_open. refl };
  survives = stays true (λ disk. tables_at 4 []) small_conn (λ left. ⊥);
}

pub returns-clause-kept_tables : goal.returns-clause-kept_tables
returns-clause-kept_tables c h =
    let now = (h.tables (clean_is (λ disk. tables_at 4 []) (conn_of undrifted_schema 0))).now refl in
    let tables : 3 ≡ 4 = ap (λ (db : Database). length db.schema.tables) now in
    omega (arith, tables)

pub returns-clause-audit : goal.returns-clause-audit
returns-clause-audit c = record {
  passes = [];
  committed = record { base = small_content 4; replayed = refl; format = Numbered; holds = none_holds 4 };
  written = refl;
}

pub returns-clause-audit_committed : goal.returns-clause-audit_committed
returns-clause-audit_committed c h = let e = nothing_written (λ disk. 4) (new_store 4 []) _ h in absurd cc

pub returns-clause-audit_written : goal.returns-clause-audit_written
returns-clause-audit_written c h = let e = nothing_written (λ disk. 4) (new_store 4 []) (codes "x") h in absurd cc

pub returns-clause-told : goal.returns-clause-told
returns-clause-told c users is = record {
  import = record { book = one_book; floors = 0 ∷ []; imported = is };
  store = new_store 4 [];
  opened = record { conn = small_conn; found = λ clean. tt; node = 1; is_given = refl; opened = fallen_opened 1 1 (new_store 4 []).mirror };
  written = λ clean. absurd (fallen_is small_conn clean);
}

pub returns-clause-told_opened : goal.returns-clause-told_opened
returns-clause-told_opened c h =
    let is : h.opened.node ≡ 1 = (opened_over (λ disk. 4) h.opened.conn h.opened.node (length h.import.book) h.store h.opened.opened).0 in
    let given : h.opened.node ≡ 2 = h.opened.is_given in
    omega (arith, is, given)

pub returns-clause-told_written : goal.returns-clause-told_written
unfolding head_text
returns-clause-told_written c h =
    let e : codes "x" ≡ floors_text (told_floors 1 3 5 h.import.book h.store.mirror) = h.written (clean_is (λ disk. tables_at 4 []) h.store.conn) in
    absurd cc

pub returns-clause-opened_found : goal.returns-clause-opened_found
returns-clause-opened_found c h = h.found (clean_is (λ disk. tables_at 4 []) h.conn)

pub returns-clause-opened_on_a_fallen_disk : goal.returns-clause-opened_on_a_fallen_disk
returns-clause-opened_on_a_fallen_disk c = record {
  conn = small_conn;
  found = λ clean. absurd (fallen_is small_conn clean);
  node = 1;
  is_given = refl;
  opened = fallen_opened 1 0 (new_store 4 []).mirror;
}

pub returns-clause-made_found : goal.returns-clause-made_found
returns-clause-made_found c h = h.found (clean_is (λ disk. tables_at 0 []) h.conn)

pub returns-clause-migrated_found : goal.returns-clause-migrated_found
returns-clause-migrated_found c h = h.found (clean_is old_and_new h.old)
