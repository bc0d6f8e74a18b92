use Rattle.std.proofs.Common.{◌≡◌, ◌<◌, ℕ, List, [], length, All, ap, sym, subst, ◌∙◌, arith}
use Rattle.sqlite.specs.Held.{Held, state}
use Rattle.sqlite.specs.State.{HasCleanDisk}
use Rattle.floor_sql.specs.Calls.{KeepsTables}
use Rattle.roster_sql.specs.Enrolled.{Enrols}
use Rattle.roster_sql.specs.declared.entry.Entry.{Entry}
use Rattle.named_store.specs.Floors.{seeded_floors}
use Rattle.named_store.specs.Opened.{EnrolsNew, IsEnrolled, AreWithin, IsRefused, floors_in, rises}
use Rattle.named_store.specs.Seating.{new_entries}
use Rattle.named_store.proofs.GrownLemmas.{as_many_from, is_nil, places_within}
use Rattle.floor_sql.specs.Staged.{CanPut}
use Rattle.floor_sql.specs.declared.put.Put.{Put}
use Rattle.named_store.proofs.OpenLemmas.{can_put, opened_enrolled, opened_none, opened_refused}
use Rattle.named_store.proofs.RefusedLemmas.{both_ok, err_weaker, refused_open}
use Rattle.named_store.proofs.opening.open_grown.Goals as goal

pub returns-then-changes-eq0-clause-grown : goal.returns-then-changes-eq0-clause-grown
returns-then-changes-eq0-clause-grown g c =
    let entries = c.args.seating.now.entries.items in
    let zero_is : length entries ≡ 0 = omega arith in
    let none : new_entries c.args.roster.now c.args.names.now ≡ [] = sym c.requires.fresh.all_entries ∙ is_nil entries zero_is in
    let no_puts : length c.in-Ok-rises.puts.items ≡ 0 = omega arith in
    let low = λ (clean : HasCleanDisk (state g.S.Store c.in-Ok.store.conn)).
    sym (c.in-Ok-rises.ensures.puts clean ∙ ap (λ (l : List ℕ). rises c.args.roster.now l c.in-Ok.store.mirror) c.deref.ensures.value) ∙ is_nil c.in-Ok-rises.puts.items no_puts in
    opened_none g.S.Store c.args.conn c.args.node c.args.roster.now c.args.names.now c.args.floors.now c.args.seating.now.seats.items c.in-Ok.store c.in-Ok.ensures.content
    c.in-Ok.ensures.rows none low

pub new_floors-requires-clause-places : goal.new_floors-requires-clause-places
new_floors-requires-clause-places g c =
    let names = c.args.names.now in
    subst (All (λ place. place < length names)) (sym (c.deref-2.ensures.value ∙ c.requires.fresh.all_places)) (places_within c.args.roster.now names)

pub returns-in-Err-new_floors-clause-refused : goal.returns-in-Err-new_floors-clause-refused
returns-in-Err-new_floors-clause-refused g c =
    let kept = c.in-Ok.ensures.content.kept in
    refused_open g.S.Store c.args.conn c.close-in-Err-new_floors.result (EnrolsNew c.args.node c.args.roster.now c.args.names.now c.args.floors.now c.args.seating.now.seats.items)
    (subst (KeepsTables g.S.Store c.args.conn) (sym c.close-in-Err-new_floors.ensures.same) kept)

pub enrol_and_open-requires-clause-counted : goal.enrol_and_open-requires-clause-counted
enrol_and_open-requires-clause-counted g c =
    let floors_are = ap (λ (l : List ℕ). length l) c.deref-4.ensures.value in
    let count = c.in-Ok-new_floors.ensures.count in
    let places = ap (λ (l : List ℕ). length l) (c.deref-2.ensures.value ∙ c.requires.fresh.all_places) in
    let many = as_many_from 0 c.args.roster.now c.args.names.now in
    let entries = ap (λ (l : List Entry). length l) (c.deref-5.ensures.value ∙ c.requires.fresh.all_entries) in
    omega (arith, floors_are, count, places, many, entries)

pub enrol_and_open-requires-clause-numbers : goal.enrol_and_open-requires-clause-numbers
enrol_and_open-requires-clause-numbers g c =
    let floors_are = ap (λ (l : List ℕ). length l) c.deref-4.ensures.value in
    let count = c.in-Ok-new_floors.ensures.count in
    let places = ap (λ (l : List ℕ). length l) (c.deref-2.ensures.value ∙ c.requires.fresh.all_places) in
    let many = as_many_from 0 c.args.roster.now c.args.names.now in
    let entries = ap (λ (l : List Entry). length l) c.requires.fresh.all_entries in
    let room = c.requires.room in
    omega (arith, floors_are, count, places, many, entries, room)

pub returns-clause-grown : goal.returns-clause-grown
returns-clause-grown g c =
    let node = c.args.node in
    let roster = c.args.roster.now in
    let names = c.args.names.now in
    let floors = c.args.floors.now in
    let first = c.in-Ok.store in
    let fresh = c.deref-4.result.now in
    let seats = c.args.seating.now.seats.items in
    let puts = c.deref-3.result.now in
    let puts_are = λ (early : HasCleanDisk (state g.S.Store first.conn)). c.deref-3.ensures.value ∙ c.in-Ok-rises.ensures.puts early
    ∙ ap (λ (l : List ℕ). rises roster l first.mirror) c.deref.ensures.value in
    let entries = c.deref-5.result.now in
    let places = c.deref-2.ensures.value ∙ c.requires.fresh.all_places in
    let floors_are = λ (early : HasCleanDisk (state g.S.Store first.conn)). c.deref-4.ensures.value ∙ c.in-Ok-new_floors.ensures.floors early
    ∙ ap (λ (l : List ℕ). seeded_floors roster (floors_in first.mirror) names floors l) places in
    let entries_are : entries ≡ new_entries roster names = c.deref-5.ensures.value ∙ c.requires.fresh.all_entries in
    let floors_long = ap (λ (l : List ℕ). length l) c.deref-4.ensures.value in
    let count = c.in-Ok-new_floors.ensures.count in
    let places_long = ap (λ (l : List ℕ). length l) places in
    let many = as_many_from 0 roster names in
    let entries_long = ap (λ (l : List Entry). length l) entries_are in
    let counted : length fresh ≡ length entries = omega (arith, floors_long, count, places_long, many, entries_long) in
    both_ok c.enrol_and_open.result _ _ _ (λ second it same.
    opened_enrolled g.S.Store c.args.conn node roster names floors seats first c.in-Ok.ensures.content puts fresh entries entries_are puts_are floors_are second counted
    (subst (λ (conn : Held _). IsEnrolled g.S.Store conn node (length roster) first.passes puts fresh entries second) c.close-2.ensures.same
    (subst (λ (n : ℕ). IsEnrolled g.S.Store c.close-2.result node (length roster) n puts fresh entries second) c.pass_count-count.ensures.value it)))
    c.enrol_and_open.ensures.enrolled c.enrol_and_open.ensures.enrolled

pub returns-clause-refused : goal.returns-clause-refused
returns-clause-refused g c =
    let node = c.args.node in
    let roster = c.args.roster.now in
    let names = c.args.names.now in
    let floors = c.args.floors.now in
    let first = c.in-Ok.store in
    let fresh = c.deref-4.result.now in
    let seats = c.args.seating.now.seats.items in
    let puts = c.deref-3.result.now in
    let puts_are = λ (early : HasCleanDisk (state g.S.Store first.conn)). c.deref-3.ensures.value ∙ c.in-Ok-rises.ensures.puts early
    ∙ ap (λ (l : List ℕ). rises roster l first.mirror) c.deref.ensures.value in
    let entries = c.deref-5.result.now in
    let places = c.deref-2.ensures.value ∙ c.requires.fresh.all_places in
    let floors_are = λ (early : HasCleanDisk (state g.S.Store first.conn)). c.deref-4.ensures.value ∙ c.in-Ok-new_floors.ensures.floors early
    ∙ ap (λ (l : List ℕ). seeded_floors roster (floors_in first.mirror) names floors l) places in
    let entries_are : entries ≡ new_entries roster names = c.deref-5.ensures.value ∙ c.requires.fresh.all_entries in
    err_weaker c.enrol_and_open.result _ _ (λ e back.
    opened_refused g.S.Store c.args.conn node roster names floors seats first c.in-Ok.ensures.content puts fresh entries entries_are puts_are floors_are e.0
    (subst (λ (conn : Held _). IsRefused g.S.Store (Enrols node (length roster) first.passes puts fresh entries) conn e.0) c.close-2.ensures.same
    (subst (λ (n : ℕ). IsRefused g.S.Store (Enrols node (length roster) n puts fresh entries) c.close-2.result e.0) c.pass_count-count.ensures.value back)))
    c.enrol_and_open.ensures.refused

pub enrol_and_open-requires-clause-range : goal.enrol_and_open-requires-clause-range
enrol_and_open-requires-clause-range g c =
    let long = ap (λ (l : List Put). length l) c.deref-3.ensures.value in
    let many = ap (λ (l : List ℕ). length l) c.deref.ensures.value in
    omega (arith, long, many, c.in-Ok-rises.ensures.count, c.requires.few, c.pass_count-count.ensures.range)

pub enrol_and_open-requires-clause-can : goal.enrol_and_open-requires-clause-can
enrol_and_open-requires-clause-can g c clean =
    let first = c.in-Ok.store in
    let early : HasCleanDisk (state g.S.Store first.conn) = subst (λ (conn : Held _). HasCleanDisk (state g.S.Store conn)) c.close-2.ensures.same clean in
    let opened = c.in-Ok.ensures.content in
    let puts = c.deref-3.result.now in
    subst (λ (conn : Held _). CanPut (state g.S.Store conn).now c.pass_count-count.result puts) (sym c.close-2.ensures.same)
    (can_put g.S.Store c.args.conn c.args.node (length c.args.roster.now) first opened c.pass_count-count.result c.pass_count-count.ensures.value puts
    (subst (AreWithin (length first.mirror.rows)) (sym c.deref-3.ensures.value) c.in-Ok-rises.ensures.tokens) early)
