-- Each promise is asked about the store that breaks it.
use Rattle.std.proofs.Common.{◌≡◌, ◌≤◌, ℕ, List, [], ◌∷◌, inl, inr, map, true, false, refl, ap, sym, subst, ◌∙◌, arith}
use Rattle.sqlite.specs.Held.{Held as Conn}
use Rattle.floor_sql.specs.Held.{SqlHeld}
use Rattle.floor_store.specs.Content.{Content}
use Rattle.floor_store.specs.Examples.{free_row}
use Rattle.floor_store.specs.Records.{RowRecord}
use Rattle.otp_core.specs.Limits.{default_limits}
use Rattle.token_file.specs.Credential.{Credential}
use Rattle.roster_sql.specs.Examples.{entry_of, first_content, one_token, other_bond, small_bond}
use Rattle.roster_sql.specs.declared.entry.Entry.{Entry}
use Rattle.roster_sql.proofs.ExampleLemmas.{one_holds}
use Rattle.named_store.specs.Entries.{entries_of}
use Rattle.named_store.specs.Floors.{raised_floor}
use Rattle.retired_rows.specs.declared.row.NumberedRow.{NumberedRow}
use Rattle.retired_rows.proofs.StayLemmas.{returns_no_lower}
use Rattle.oathd_database.specs.Broken.{shows_any}
use Rattle.oathd_database.proofs.BrokenLemmas.{clean_is, imported_is}
use Rattle.oathd_floors.specs.Dropped.{IsLeft, dropped_text, numbered, numbered_row}
use Rattle.oathd_floors.specs.Examples.{named_conn, named_store, one_entry, one_named, small_cluster}
use Rattle.oathd_floors.proofs.BrokenLemmas.{not_other, one_bound, one_read, one_rows, rows_read}
use Rattle.oathd_floors.proofs.drop_laws.drops_can_be_broken.Goals as goal

pub returns-clause-forgets : goal.returns-clause-forgets
unfolding one_holds
returns-clause-forgets c = record {
  roster = one_entry;
  content = first_content;
  passes = [];
  whole = one_holds;
  of_node = refl;
  none_lower = λ place floor row at. returns_no_lower (numbered_row 0 (entry_of 1 2) (free_row 9) []
      ∷ numbered_row 1 (entry_of 3 2) (free_row 8) [] ∷ []) place floor row at;
}

pub returns-clause-forgets_floor : goal.returns-clause-forgets_floor
returns-clause-forgets_floor c h =
    let is = one_read one_token.schema h.content h.passes h.roster small_bond h.whole in
    let row = numbered_row 1 (entry_of 3 2) (free_row 10) [] in
    let floor : raised_floor one_entry (map (λ (r : RowRecord). r.next) first_content.rows) row.entry.seed 0
    ≡ raised_floor h.roster (map (λ (r : RowRecord). r.next) h.content.rows) row.entry.seed 0 =
    ap (λ (content : Content). raised_floor one_entry (map (λ (r : RowRecord). r.next) content.rows) row.entry.seed 0) is.0
    ∙ ap (λ (roster : List Entry). raised_floor roster (map (λ (r : RowRecord). r.next) h.content.rows) row.entry.seed 0) is.2 in
    let low : ◌≤◌ 10 9 = subst (λ (n : ℕ). 10 ≤ n) (sym floor) (h.none_lower 1 0 row refl) in
    omega (arith, low)

pub returns-clause-forgets_bond : goal.returns-clause-forgets_bond
returns-clause-forgets_bond c h = not_other (one_read one_token.schema h.content h.passes h.roster other_bond h.whole).3

pub returns-clause-left : goal.returns-clause-left
returns-clause-left c = inl (refl, refl)

-- a connection inside a transaction is not left
not_left : (boot : ℕ) (rows : List NumberedRow) (store : SqlHeld ℕ) → store.conn.in_transaction ≡ false
    → IsLeft one_named 1 small_bond boot rows store (record named_conn { in_transaction = true }) → ⊥
not_left boot rows store idle (inl h) = let both : true ≡ false = ap (λ (conn : Conn ℕ). conn.in_transaction) h.1 ∙ idle in absurd cc
not_left boot rows store idle (inr h) = let both : true ≡ false = h.renewed.idle in absurd cc

pub returns-clause-left_conn : goal.returns-clause-left_conn
returns-clause-left_conn c h = not_left 4 [] (named_store first_content) refl h

pub returns-clause-dropped : goal.returns-clause-dropped
returns-clause-dropped c = record {
  import = record { book = []; floors = []; imported = refl };
  roster = one_entry;
  store = named_store first_content;
  opened = one_rows;
  rows = numbered 0 one_entry first_content.rows [];
  are_rows = λ clean. refl;
  left = λ clean. inl (refl, refl);
  written = refl;
}

pub returns-clause-dropped_found : goal.returns-clause-dropped_found
returns-clause-dropped_found c h = h.opened.found (clean_is (λ disk. one_token.trees) h.opened.conn)

pub returns-clause-dropped_node : goal.returns-clause-dropped_node
returns-clause-dropped_node c h =
    let node : ◌≡◌ {A = ℕ} 2 1 = (rows_read shows_any small_bond 2 h.roster h.store h.opened).3 in omega (arith, node)

pub returns-clause-dropped_text : goal.returns-clause-dropped_text
returns-clause-dropped_text c text h =
    let is = rows_read shows_any small_bond 1 h.roster h.store h.opened in
    let none : h.import.book ≡ [] = (imported_is default_limits 0 11 [] [] [] refl h.import).0 in
    let rows : h.rows ≡ numbered 0 one_entry first_content.rows [] =
    h.are_rows (clean_is (λ disk. one_token.trees) h.store.conn)
    ∙ ap (λ (book : List Credential). numbered 0 h.roster h.store.mirror.rows (entries_of small_cluster.salt book)) none
    ∙ ap (λ (content : Content). numbered 0 h.roster content.rows []) (sym is.0)
    ∙ ap (λ (roster : List Entry). numbered 0 roster first_content.rows []) (sym is.1) in
    h.written ∙ ap dropped_text rows

pub returns-clause-dropped_conn : goal.returns-clause-dropped_conn
returns-clause-dropped_conn c h =
    not_left h.store.mirror.boot h.rows h.store h.opened.kept.idle (h.left (clean_is (λ disk. one_token.trees) h.store.conn))

pub returns-clause-same_bond : goal.returns-clause-same_bond
returns-clause-same_bond c h = one_bound shows_any h

pub returns-clause-store : goal.returns-clause-store
returns-clause-store c = record { book = []; floors = []; imported = refl }

pub returns-clause-output : goal.returns-clause-output
returns-clause-output c = record { book = []; floors = []; imported = refl }
