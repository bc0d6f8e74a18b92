-- Each promise is asked about the store that breaks it.
use Rattle.std.proofs.Common.{◌≡◌, ℕ, ◌*◌, ◌^◌, [], Option, Some, None, ap, ◌∙◌, arith}
use Rattle.sqlite.specs.Held.{Held as Conn, state}
use Rattle.floor_store.specs.Content.{Content}
use Rattle.floors_file.specs.NamedGathered.{gathered_rows}
use Rattle.named_floors.proofs.MadeLemmas.{gathered_alone}
use Rattle.named_store.specs.Opened.{with_new}
use Rattle.named_store.specs.Seating.{rows_after}
use Rattle.roster_sql.specs.Examples.{other_bond, small_bond}
use Rattle.oathd_database.specs.Broken.{shows_any}
use Rattle.oathd_database.specs.Lost.{boot_at}
use Rattle.oathd_database.proofs.BrokenLemmas.{clean_is}
use Rattle.oathd_floors.specs.Examples.{named_conn, no_tokens, none_named, none_seen}
use Rattle.oathd_floors.proofs.BrokenLemmas.{again_is, fallen_again, none_read, not_other}
use Rattle.oathd_floors.proofs.remade_laws.makings_can_be_broken.Goals as goal

pub returns-clause-again : goal.returns-clause-again
returns-clause-again c = fallen_again []

pub returns-clause-again_found : goal.returns-clause-again_found
returns-clause-again_found c h = h.found (clean_is (λ disk. no_tokens.trees) h.first)

pub returns-clause-again_node : goal.returns-clause-again_node
returns-clause-again_node c h =
    let node : ◌≡◌ {A = ℕ} 2 1 = (again_is shows_any 2 (boot_at 10) [] [] [] small_bond none_seen h).0 in omega (arith, node)

pub returns-clause-again_boot : goal.returns-clause-again_boot
returns-clause-again_boot c h =
    let boot : 11 * 2 ^ 20 ≡ 10 * 2 ^ 20 = (again_is shows_any 1 (boot_at 11) [] [] [] small_bond none_seen h).1 in omega (arith, boot)

pub returns-clause-again_bond : goal.returns-clause-again_bond
returns-clause-again_bond c h = not_other (again_is shows_any 1 (boot_at 10) [] [] [] other_bond none_seen h).2

pub returns-clause-again_survives : goal.returns-clause-again_survives
returns-clause-again_survives c h =
    let first = ap (λ (conn : Conn ℕ). conn.step_limit) (h.found (clean_is (λ disk. no_tokens.trees) h.first)) in
    let limit : ◌≡◌ {A = Option ℕ} (Some 7) None = h.seated.survives.limit ∙ h.survives.limit ∙ first in
    absurd cc

pub returns-clause-again_seated : goal.returns-clause-again_seated
returns-clause-again_seated c h =
    let seats = h.seated.tables (clean_is (λ disk. no_tokens.trees) named_conn) in
    let grown = seats.grown in
    let read = (none_read (state none_named named_conn).now.schema (with_new seats.roster [] [] [] grown.content) grown.passes (rows_after seats.roster []) small_bond grown.now).1 in
    let boot : 4 ≡ 10 * 2 ^ 20 = ap (λ (content : Content). content.boot) grown.seen ∙ read in
    omega (arith, boot)

pub returns-clause-room : goal.returns-clause-room
returns-clause-room c files many full = omega (arith, gathered_alone (gathered_rows files), many, full)

pub returns-clause-no_room : goal.returns-clause-no_room
returns-clause-no_room c files many = omega (arith, gathered_alone (gathered_rows files), many)
