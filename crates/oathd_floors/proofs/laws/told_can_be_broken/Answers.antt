-- The store of one token is told, and nothing else.
use Rattle.std.proofs.Common.{◌≡◌, ℕ, List, refl, ap, sym, ◌∙◌, arith}
use Rattle.floor_store.specs.Content.{Content}
use Rattle.floors_file.specs.NamedWriting.{named_floors_text}
use Rattle.roster_sql.specs.Examples.{first_content, one_token, other_bond, small_bond}
use Rattle.roster_sql.specs.declared.entry.Entry.{Entry}
use Rattle.oathd_database.specs.Broken.{shows_any}
use Rattle.oathd_database.proofs.BrokenLemmas.{clean_is}
use Rattle.oathd_floors.specs.Examples.{named_store, one_entry}
use Rattle.oathd_floors.specs.Told.{told_file}
use Rattle.oathd_floors.proofs.BrokenLemmas.{not_other, one_bound, one_rows, one_unbound, rows_read}
use Rattle.oathd_floors.proofs.laws.told_can_be_broken.Goals as goal

pub returns-clause-told : goal.returns-clause-told
returns-clause-told c key = record { roster = one_entry; store = named_store first_content; opened = one_rows; written = λ clean. refl }

pub returns-clause-told_found : goal.returns-clause-told_found
returns-clause-told_found c key h = h.opened.found (clean_is (λ disk. one_token.trees) h.opened.conn)

pub returns-clause-told_node : goal.returns-clause-told_node
returns-clause-told_node c key h =
    let node : ◌≡◌ {A = ℕ} 2 1 = (rows_read shows_any small_bond 2 h.roster h.store h.opened).3 in omega (arith, node)

pub returns-clause-told_bond : goal.returns-clause-told_bond
returns-clause-told_bond c key text h = not_other (rows_read shows_any other_bond 1 h.roster h.store h.opened).2

pub returns-clause-told_written : goal.returns-clause-told_written
returns-clause-told_written c key text h =
    let is = rows_read shows_any small_bond 1 h.roster h.store h.opened in
    h.written (clean_is (λ disk. one_token.trees) h.store.conn)
    ∙ ap (λ (content : Content). named_floors_text key (told_file 1 100 small_bond h.roster content)) (sym is.0)
    ∙ ap (λ (roster : List Entry). named_floors_text key (told_file 1 100 small_bond roster first_content)) (sym is.1)

pub returns-clause-another : goal.returns-clause-another
returns-clause-another c = one_unbound

pub returns-clause-same_bond : goal.returns-clause-same_bond
returns-clause-same_bond c h = one_bound shows_any h
