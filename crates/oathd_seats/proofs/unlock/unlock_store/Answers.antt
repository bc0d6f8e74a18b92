use Rattle.std.proofs.Common.{◌≡◌, ◌∙◌, List, ℕ, refl, sym, ap, subst}
use Rattle.std.specs.Prelude.{Some, slice_get}
use Rattle.token_file.specs.Credential.{place_of}
use Rattle.oathd_seats.proofs.CommandLemmas.{has_unlocked, nobody, unseen_locked, write_fails}
use Rattle.oathd_seats.proofs.SeenLemmas.{seat_within}
use Rattle.oathd_seats.proofs.unlock.unlock_store.Goals as goal

pub returns-in-Err-clause-fault : goal.returns-in-Err-clause-fault
returns-in-Err-clause-fault g c =
    unseen_locked g.S.Store g.D.Database.finds c.args.naming c.args.settings 16777216 (g.R.Read.remaining c.args.users) c.args.user.now c.in-Err.fault
    c.in-Err.ensures.fault

pub returns-in-None-clause-fault : goal.returns-in-None-clause-fault
returns-in-None-clause-fault g c =
    let users = c.in-Ok.seen.0 in
    nobody g.S.Store g.D.Database.finds c.args.naming c.args.settings 16777216 (g.R.Read.remaining c.args.users) users.book users.floors.items
    c.in-Ok.ensures.users c.args.user.now c.args.user.now refl
    (ap (λ (name : List ℕ). place_of name users.book) (sym c.as_bytes.ensures.value) ∙ sym c.in-None.ensures.place)

pub returns-in-Ok-open_gate-clause-unlocked : goal.returns-in-Ok-open_gate-clause-unlocked
returns-in-Ok-open_gate-clause-unlocked g c =
    let users = c.in-Ok.seen.0 in
    let store = c.in-Ok.seen.1 in
    has_unlocked g.S.Store g.D.Database.finds c.args.naming c.args.settings 16777216 (g.R.Read.remaining c.args.users) users.book users.floors.items
    c.in-Ok.ensures.users store c.in-Ok.ensures.seen c.args.user.now c.in-Some.token c.value.result c.seat_at-row.result c.into_inner-store.result
    c.open_gate.new.store (ap (λ (name : List ℕ). place_of name users.book) (sym c.as_bytes.ensures.value) ∙ sym c.in-Some.ensures.place)
    c.value.ensures.value
    (subst (λ (l : List ℕ). slice_get l c.value.result ≡ Some c.seat_at-row.result) c.seats.ensures c.seat_at-row.ensures)
    c.into_inner-store.ensures c.in-Ok-open_gate.ensures

pub returns-clause-fault : goal.returns-clause-fault
returns-clause-fault g c =
    let users = c.in-Ok.seen.0 in
    write_fails g.S.Store g.D.Database.finds c.args.settings 16777216 (g.R.Read.remaining c.args.users) users.book users.floors.items
    c.in-Ok.ensures.users c.args.naming c.args.user.now c.in-Err-open_gate.fault

pub open_gate-requires : goal.open_gate-requires
open_gate-requires g c =
    seat_within g.S.Store g.D.Database.finds c.args.naming c.in-Ok.seen.0.book c.in-Ok.seen.1 c.value.result c.seat_at-row.result
    c.into_inner-store.result c.in-Ok.ensures.seen
    (subst (λ (l : List ℕ). slice_get l c.value.result ≡ Some c.seat_at-row.result) c.seats.ensures c.seat_at-row.ensures) c.into_inner-store.ensures
