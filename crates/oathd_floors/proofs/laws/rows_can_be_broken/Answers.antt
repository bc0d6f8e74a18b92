-- Each promise is asked about the store that breaks it.
use Rattle.std.proofs.Common.{◌≡◌, ℕ, List, [], ◌∷◌, length, get_or, refl, ap, ◌∙◌, arith}
use Rattle.floor_store.specs.Content.{Content}
use Rattle.floor_store.specs.Records.{PassRecord}
use Rattle.floor_sql.specs.Broken.{small_content}
use Rattle.roster_sql.specs.Examples.{entry_of, first_content, one_token, other_bond, small_bond}
use Rattle.roster_sql.specs.declared.entry.Entry.{Entry}
use Rattle.oathd_database.specs.Broken.{shows_any}
use Rattle.oathd_database.proofs.BrokenLemmas.{clean_is}
use Rattle.oathd_floors.specs.Examples.{named_conn, named_store, one_entry}
use Rattle.oathd_floors.proofs.BrokenLemmas.{not_other, one_bound, one_read, one_rows, one_unbound, rows_read}
use Rattle.oathd_floors.proofs.laws.rows_can_be_broken.Goals as goal

pub returns-clause-rows : goal.returns-clause-rows
returns-clause-rows c = one_rows

pub returns-clause-rows_found : goal.returns-clause-rows_found
returns-clause-rows_found c h = h.found (clean_is (λ disk. one_token.trees) h.conn)

pub returns-clause-rows_node : goal.returns-clause-rows_node
returns-clause-rows_node c h =
    let node : ◌≡◌ {A = ℕ} 2 1 = (rows_read shows_any small_bond 2 one_entry (named_store first_content) h).3 in omega (arith, node)

pub returns-clause-rows_bond : goal.returns-clause-rows_bond
returns-clause-rows_bond c h = not_other (rows_read shows_any other_bond 1 one_entry (named_store first_content) h).2

-- the first byte of the first name
abbrev first_byte : List Entry → ℕ
first_byte [] = 0
first_byte (entry ∷ roster) = get_or entry.name 0 0

pub returns-clause-rows_roster : goal.returns-clause-rows_roster
returns-clause-rows_roster c h =
    let byte : ◌≡◌ {A = ℕ} 1 3 = ap first_byte (rows_read shows_any small_bond 1 (entry_of 3 2 ∷ []) (named_store first_content) h).1 in
    omega (arith, byte)

pub returns-clause-rows_content : goal.returns-clause-rows_content
returns-clause-rows_content c h =
    let rows : ◌≡◌ {A = ℕ} 1 0 = ap (λ (content : Content). length content.rows)
    (rows_read shows_any small_bond 1 one_entry (named_store (small_content 4)) h).0 in
    omega (arith, rows)

pub returns-clause-rows_passes : goal.returns-clause-rows_passes
returns-clause-rows_passes c h =
    let held = h.tables (clean_is (λ disk. one_token.trees) named_conn) in
    let none = (one_read h.conn.schema first_content held.passes one_entry small_bond held.holds).1 in
    let counted : ◌≡◌ {A = ℕ} 0 1 = ap (λ (passes : List PassRecord). length passes) none ∙ held.counted in
    omega (arith, counted)

pub returns-clause-rows_distinct : goal.returns-clause-rows_distinct
returns-clause-rows_distinct c h = h.distinct 0 1 (entry_of 1 2) (omega arith) (omega arith) refl

pub returns-clause-unbound : goal.returns-clause-unbound
returns-clause-unbound c = one_unbound

pub returns-clause-unbound_found : goal.returns-clause-unbound_found
returns-clause-unbound_found c h = h.found (clean_is (λ disk. one_token.trees) h.conn)

pub returns-clause-unbound_bond : goal.returns-clause-unbound_bond
returns-clause-unbound_bond c h = one_bound shows_any h

pub returns-clause-read_bond : goal.returns-clause-read_bond
returns-clause-read_bond c h = one_bound shows_any h
