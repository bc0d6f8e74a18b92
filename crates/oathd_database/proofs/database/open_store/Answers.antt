use Rattle.std.proofs.Common.{IfSome, length, subst, sym}
use Rattle.oathd_database.specs.Commands.{HasOpened, IsRefused}
use Rattle.oathd_database.specs.declared.fault.Fault.{Fault}
use Rattle.oathd_database.specs.declared.fault.Fault.TheVariants.{Store}
use Rattle.oathd_database.proofs.FaultLemmas.{err_is}
use Rattle.oathd_database.proofs.UsersLemmas.{opened_found, refused, refused_by_store, refused_so}
use Rattle.oathd_database.proofs.database.open_store.Goals as goal

pub returns-in_err-users-clause-fault : goal.returns-in_err-users-clause-fault
returns-in_err-users-clause-fault g c =
    let a = g.R.Read.remaining c.args.users in
    let fault = c.in_err-users.field-0.0 in
    err_is c.from_residual.result fault (λ (x : Fault). IfSome a (IsRefused c.args.settings 0 16777216 x)) c.from_residual.ensures.1
    (refused c.args.settings 0 16777216 a fault c.in_err-users.ensures.fault)

pub returns-in_err-conn-clause-fault : goal.returns-in_err-conn-clause-fault
returns-in_err-conn-clause-fault g c =
    let a = g.R.Read.remaining c.args.users in
    let fault = c.in_err-conn.field-0.0 in
    err_is c.from_residual-in_err-conn.result (Store fault) (λ (x : Fault). IfSome a (IsRefused c.args.settings 0 16777216 x)) c.from_residual-in_err-conn.ensures.1
    (refused_by_store c.args.settings 0 16777216 a fault c.in_ok-users.users.book c.in_ok-users.users.floors.items c.in_ok-users.ensures.imported)

pub returns-in_err-store-clause-fault : goal.returns-in_err-store-clause-fault
returns-in_err-store-clause-fault g c =
    let a = g.R.Read.remaining c.args.users in
    let fault = c.in_err-store.field-0.0 in
    err_is c.from_residual-in_err-store.result fault (λ (x : Fault). IfSome a (IsRefused c.args.settings 0 16777216 x)) c.from_residual-in_err-store.ensures.1
    (refused_so c.args.settings 0 16777216 a fault c.in_ok-users.users.book c.in_ok-users.users.floors.items c.in_ok-users.ensures.imported c.in_err-store.ensures.fault)

pub returns-clause-opened : goal.returns-clause-opened
returns-clause-opened g c =
    subst (HasOpened g.S.Store g.D.Database.finds c.args.node (length c.in_ok-users.users.book)) (sym c.watch.ensures)
    (opened_found g.S.Store _ g.D.Database.finds c.in_ok-conn.conn c.args.node c.in_ok-store.store c.in_ok-conn.ensures.found c.in_ok-store.ensures.opened)
