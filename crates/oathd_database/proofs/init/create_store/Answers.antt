use Rattle.std.proofs.Common.{◌∙◌, IfSome, ap}
use Rattle.oathd_database.specs.Commands.{IsRefused}
use Rattle.oathd_database.specs.Users.{drifted_floors}
use Rattle.oathd_database.specs.declared.fault.Fault.{Fault}
use Rattle.oathd_database.specs.declared.fault.Fault.TheVariants.{Store}
use Rattle.oathd_database.proofs.FaultLemmas.{err_is}
use Rattle.oathd_database.proofs.MadeLemmas.{made_at}
use Rattle.oathd_database.proofs.UsersLemmas.{refused, refused_by_store}
use Rattle.oathd_database.proofs.init.create_store.Goals as goal

pub returns-in_err-users-clause-fault : goal.returns-in_err-users-clause-fault
returns-in_err-users-clause-fault g c =
    let a = g.R.Read.remaining c.args.users in
    let fault = c.in_err-users.field-0.0 in
    err_is c.from_residual.result fault (λ (x : Fault). IfSome a (IsRefused c.args.settings c.args.moment 16777216 x)) c.from_residual.ensures.1
    (refused c.args.settings c.args.moment 16777216 a fault c.in_err-users.ensures.fault)

pub returns-in_err-conn-clause-fault : goal.returns-in_err-conn-clause-fault
returns-in_err-conn-clause-fault g c =
    let a = g.R.Read.remaining c.args.users in
    let fault = c.in_err-conn.field-0.0 in
    err_is c.from_residual-in_err-conn.result (Store fault) (λ (x : Fault). IfSome a (IsRefused c.args.settings c.args.moment 16777216 x)) c.from_residual-in_err-conn.ensures.1
    (refused_by_store c.args.settings c.args.moment 16777216 a fault c.in_ok-users.users.book c.in_ok-users.users.floors.items c.in_ok-users.ensures.imported)

pub returns-in-Ok-init-clause-made : goal.returns-in-Ok-init-clause-made
returns-in-Ok-init-clause-made g c =
    let book = c.in_ok-users.users.book in
    let floors = c.in_ok-users.users.floors.items in
    made_at g.S.Store g.D.Database.finds c.args.node _ c.in-Ok-init.store _ (drifted_floors c.args.settings.drift book floors)
    (c.deref.ensures.value ∙ c.in-Ok.ensures.floors ∙ ap (λ d. drifted_floors d book floors) c.drift.ensures.value)
    c.in_ok-conn.ensures.found c.in-Ok-init.ensures.opening
