use Rattle.std.proofs.Common.{ℕ, IfSome, subst}
use Rattle.oathd_database.specs.Made.{IsMadeAt, IsNotTold}
use Rattle.oathd_database.specs.Users.{drifted_floors}
use Rattle.oathd_database.specs.declared.fault.Fault.{Fault}
use Rattle.oathd_database.proofs.FaultLemmas.{err_is}
use Rattle.oathd_database.proofs.MadeLemmas.{made_member, not_told}
use Rattle.oathd_database.proofs.made.init_member_store.Goals as goal

pub returns-in_err-write_made-clause-fault : goal.returns-in_err-write_made-clause-fault
returns-in_err-write_made-clause-fault g c =
    let a = g.R.Read.remaining c.args.users in
    let book = c.in_ok-users.users.book in
    let floors = c.in_ok-users.users.floors.items in
    let store = c.in_ok-users.store in
    let fault = c.in_err-write_made.field-0.0 in
    let made = subst (λ (node : ℕ). IsMadeAt g.S.Store g.D.Database.finds node (drifted_floors c.args.settings.drift book floors) store)
    c.me.ensures.value c.in_ok-users.ensures.made in
    err_is c.from_residual-in_err-write_made.result fault
    (λ (x : Fault). IfSome a (IsNotTold g.S.Store g.D.Database.finds c.args.settings c.args.moment 16777216 c.args.place.me x))
    c.from_residual-in_err-write_made.ensures.1
    (not_told g.S.Store g.D.Database.finds c.args.place.me c.args.settings c.args.moment 16777216 book floors store a fault
    c.in_ok-users.ensures.users made c.in_err-write_made.ensures.fault)

pub returns-clause-made : goal.returns-clause-made
returns-clause-made g c =
    let book = c.in_ok-users.users.book in
    let floors = c.in_ok-users.users.floors.items in
    let store = c.in_ok-users.store in
    let made = subst (λ (node : ℕ). IsMadeAt g.S.Store g.D.Database.finds node (drifted_floors c.args.settings.drift book floors) store)
    c.me.ensures.value c.in_ok-users.ensures.made in
    made_member g.S.Store g.D.Database.finds c.args.place c.args.settings c.args.moment 16777216 book floors store
    (g.R.Read.remaining c.args.users) (g.W.Write.contents c.args.writer.now) (g.W.Write.contents c.write_made.new.writer)
    c.in_ok-users.ensures.users made c.in_ok-write_made.ensures.written
