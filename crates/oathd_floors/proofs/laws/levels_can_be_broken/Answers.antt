-- Each promise is asked about the store that breaks it.
use Rattle.std.proofs.Common.{◌≡◌, ℕ, List, [], ◌∷◌, length, replicate, refl, ap, sym, ◌∙◌, arith}
use Rattle.std.specs.Prelude.{false, slice_index_or, Some, None}
use Rattle.floor_store.specs.Content.{Content, opening_row}
use Rattle.floors_file.specs.Named.{NamedFloorsRecord}
use Rattle.floors_file.specs.NamedExamples.{named_row}
use Rattle.floors_file.specs.NamedGathered.{gathered_rows}
use Rattle.named_floors.specs.Level.{levelled, told_by}
use Rattle.roster_sql.specs.Examples.{first_content, one_token, small_bond}
use Rattle.roster_sql.specs.declared.entry.Entry.{Entry}
use Rattle.oathd_database.specs.Broken.{shows_any}
use Rattle.oathd_database.proofs.BrokenLemmas.{clean_is}
use Rattle.oathd_floors.specs.Examples.{file_with, named_conn, named_store, one_entry, taking_at}
use Rattle.oathd_floors.proofs.BrokenLemmas.{files_are, one_bound, one_levels, one_rows, one_taken, one_unbound, one_untaken, rows_read}
use Rattle.oathd_floors.proofs.laws.levels_can_be_broken.Goals as goal

pub returns-clause-levelled : goal.returns-clause-levelled
returns-clause-levelled c = record {
  files = [];
  taken = refl;
  roster = one_entry;
  found = named_store first_content;
  opened = one_rows;
  levels = one_levels (None ∷ []) refl;
}

pub returns-clause-levelled_taken : goal.returns-clause-levelled_taken
returns-clause-levelled_taken c text fault refused h = one_untaken (taking_at false) text fault h.files refused h.taken

pub returns-clause-levelled_found : goal.returns-clause-levelled_found
returns-clause-levelled_found c h = h.opened.found (clean_is (λ disk. one_token.trees) h.opened.conn)

pub returns-clause-levelled_node : goal.returns-clause-levelled_node
returns-clause-levelled_node c h =
    let node : ◌≡◌ {A = ℕ} 2 1 = (rows_read shows_any small_bond 2 h.roster h.found h.opened).3 in omega (arith, node)

-- a file of the row's name
abbrev file_at : ℕ → NamedFloorsRecord
file_at floor = file_with (named_row (replicate 16 1) (replicate 16 2) floor ∷ [])

pub returns-clause-levelled_lower : goal.returns-clause-levelled_lower
returns-clause-levelled_lower c text reads = record {
  files = file_at 7 ∷ [];
  taken = one_taken (taking_at false) text (file_at 7) reads;
  roster = one_entry;
  found = named_store first_content;
  opened = one_rows;
  levels = one_levels (Some 7 ∷ []) refl;
}

-- the floor of the first row
abbrev first_floor : Content → ℕ
first_floor content = (slice_index_or content.rows 0 (opening_row 0)).next

pub returns-clause-levelled_greater : goal.returns-clause-levelled_greater
returns-clause-levelled_greater c text reads h =
    let is = rows_read shows_any small_bond 1 h.roster h.found h.opened in
    let files = files_are (taking_at false) (text ∷ []) h.files (file_at 12 ∷ []) h.taken (one_taken (taking_at false) text (file_at 12) reads) in
    let floor : ◌≡◌ {A = ℕ} 9 12 =
    ap first_floor (h.levels.ok (clean_is (λ disk. one_token.trees) named_conn))
    ∙ ap (λ (l : List NamedFloorsRecord). first_floor (levelled (told_by (gathered_rows l) h.roster) h.found.mirror)) files
    ∙ ap (λ (roster : List Entry). first_floor (levelled (told_by (gathered_rows (file_at 12 ∷ [])) roster) h.found.mirror)) (sym is.1)
    ∙ ap (λ (content : Content). first_floor (levelled (told_by (gathered_rows (file_at 12 ∷ [])) one_entry) content)) (sym is.0) in
    omega (arith, floor)

pub returns-clause-levelled_rows : goal.returns-clause-levelled_rows
returns-clause-levelled_rows c h =
    let is = rows_read shows_any small_bond 1 h.roster h.found h.opened in
    let rows : ◌≡◌ {A = ℕ} 0 1 = h.levels.tokens ∙ ap (λ (content : Content). length content.rows) (sym is.0) in
    omega (arith, rows)

pub returns-clause-store : goal.returns-clause-store
returns-clause-store c = ([], refl)

pub returns-clause-store_untaken : goal.returns-clause-store_untaken
returns-clause-store_untaken c text fault refused h = one_untaken (taking_at false) text fault h.0 refused h.1

pub returns-clause-another : goal.returns-clause-another
returns-clause-another c = (([], refl), one_unbound)

pub returns-clause-same_bond : goal.returns-clause-same_bond
returns-clause-same_bond c h = one_bound shows_any h.1

pub returns-clause-another_untaken : goal.returns-clause-another_untaken
returns-clause-another_untaken c text fault refused h = one_untaken (taking_at false) text fault h.0.0 refused h.0.1
