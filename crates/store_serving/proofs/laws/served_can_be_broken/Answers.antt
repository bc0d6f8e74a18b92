-- Each promise is asked about the one that breaks it.
use Rattle.std.proofs.Common.{◌≡◌, inl, inr, ◌+◌, [], length, refl, ap, arith}
use Rattle.floor_store.specs.Content.{Content}
use Rattle.floor_sql.specs.Broken.{small_content, tables_at}
use Rattle.floor_sql.specs.Held.{sql_held}
use Rattle.floor_sql.specs.declared.schema.Format.TheVariants.{Numbered}
use Rattle.floor_sql.proofs.BrokenLemmas.{none_holds}
use Rattle.seated_store.specs.Seated.{seated_held}
use Rattle.seated_store.specs.Seats.{seated_content}
use Rattle.oath_node.specs.declared.turns.Served.{Served}
use Rattle.store_serving.specs.Broken.{booting, so_much}
use Rattle.oathd_database.proofs.BrokenLemmas.{clean_is, one_token, opened_over}
use Rattle.store_serving.proofs.BrokenLemmas.{no_output, nothing_served}
use Rattle.store_serving.proofs.laws.served_can_be_broken.Goals as goal

pub returns-clause-served_opened : goal.returns-clause-served_opened
returns-clause-served_opened c address users of_one h =
    let is : length h.import.book ≡ 0 = (opened_over (λ disk. 4 + disk) h.opened.conn h.opened.node (length h.import.book) h.found h.opened.opened).1 in
    let one : length h.import.book ≡ 1 = one_token 0 16777216 users of_one h.import in
    omega (arith, is, one)

pub returns-clause-served_in_boot : goal.returns-clause-served_in_boot
returns-clause-served_in_boot c address h =
    let clean = clean_is (λ disk. tables_at 4 []) h.over.first.store.inner.conn in
    let found : h.found.mirror.boot ≡ 4 = (opened_over (λ disk. 4) h.opened.conn h.opened.node (length h.import.book) h.found h.opened.opened).2 in
    let now = ap (λ (content : Content). content.boot) (h.over.in_boot.raises.writes.makes.ok clean) in
    let left = h.over.in_boot.raises.writes.settled clean (seated_content h.over.first.store.seats (small_content 4)) (
      small_content 4,
      record { clean = clean; trees = tables_at 4 []; left = refl; format = Numbered; passes = []; holds = none_holds 4 },
      refl,
    ) in
    let boot = ap (λ (content : Content). content.boot) left in
    omega (arith, found, now, boot)

pub returns-clause-served_serves : goal.returns-clause-served_serves
returns-clause-served_serves c address h =
    let none = nothing_served (seated_held (sql_held booting)) h.over.first h.over.last (so_much 1 0) h.over.served_is (clean_is (λ disk. tables_at (4 + disk) []) h.over.last.store.inner.conn) in
    let e : 1 ≡ 0 = ap (λ (served : Served). served.received) none.0 in
    omega (arith, e)

pub returns-clause-served_record : goal.returns-clause-served_record
returns-clause-served_record c address h =
    (nothing_served (seated_held (sql_held booting)) h.over.first h.over.last (so_much 0 0) h.over.served_is (clean_is (λ disk. tables_at (4 + disk) []) h.over.last.store.inner.conn)).1

pub returns-clause-served_members : goal.returns-clause-served_members
returns-clause-served_members c address h = h.over.served_is.of_setup

pub returns-clause-ends_before : goal.returns-clause-ends_before
returns-clause-ends_before c address = inl (record { book = []; floors = []; imported = refl })

pub returns-clause-ends_as_no_turn : goal.returns-clause-ends_as_no_turn
returns-clause-ends_as_no_turn c address h = elim h [ inl before ↦ before | inr has ↦ no_output has.over.served_is.end has.over.served_is.ends ]
