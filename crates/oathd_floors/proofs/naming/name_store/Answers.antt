use Rattle.std.proofs.Common.{◌∙◌, IfSome}
use Rattle.otp_core.specs.Limits.{default_limits}
use Rattle.oathd_database.specs.declared.fault.Fault.TheVariants.{Store}
use Rattle.oathd_roster.specs.declared.fault.RosterFault.TheVariants.{Command}
use Rattle.oathd_floors.specs.Named.{IsUnnamed}
use Rattle.oathd_floors.specs.declared.fault.NamingFault.{NamingFault}
use Rattle.oathd_floors.specs.declared.fault.NamingFault.TheVariants.{Roster}
use Rattle.oathd_floors.proofs.FaultLemmas.{err_is}
use Rattle.oathd_floors.proofs.NamedLemmas.{has_named, imported_default, other_unnamed, store_unnamed, unread_unnamed}
use Rattle.oathd_floors.proofs.naming.name_store.Goals as goal

pub returns-in_err-named-clause-fault : goal.returns-in_err-named-clause-fault
returns-in_err-named-clause-fault g c =
    let a = g.R.Read.remaining c.args.users in
    let fault = c.in_err-named.field-0.0 in
    err_is c.from_residual.result (Roster fault)
    (λ (x : NamingFault). IfSome a (IsUnnamed g.S.Store g.D.Database.finds c.args.cluster.now default_limits 16777216 c.args.node x)) c.from_residual.ensures.1
    (unread_unnamed g.S.Store g.D.Database.finds c.args.cluster.now c.args.node c.default.result a fault c.default.ensures c.in_err-named.ensures.fault)

pub returns-in_err-conn-clause-fault : goal.returns-in_err-conn-clause-fault
returns-in_err-conn-clause-fault g c =
    let a = g.R.Read.remaining c.args.users in
    let users = c.in_ok-named.named.users in
    err_is c.from_residual-in_err-conn.result (Roster (Command (Store c.in_err-conn.field-0.0)))
    (λ (x : NamingFault). IfSome a (IsUnnamed g.S.Store g.D.Database.finds c.args.cluster.now default_limits 16777216 c.args.node x))
    c.from_residual-in_err-conn.ensures.1
    (store_unnamed g.S.Store g.D.Database.finds c.args.cluster.now c.args.node users.book users.floors.items a (Store c.in_err-conn.field-0.0) tt
    (imported_default c.default.result users.book users.floors.items a c.default.ensures c.in_ok-named.ensures.imported))

pub returns-in_err-store-clause-fault : goal.returns-in_err-store-clause-fault
returns-in_err-store-clause-fault g c =
    let a = g.R.Read.remaining c.args.users in
    let users = c.in_ok-named.named.users in
    let fault = c.in_err-store.field-0.0 in
    err_is c.from_residual-in_err-store.result (Roster (Command fault))
    (λ (x : NamingFault). IfSome a (IsUnnamed g.S.Store g.D.Database.finds c.args.cluster.now default_limits 16777216 c.args.node x))
    c.from_residual-in_err-store.ensures.1
    (store_unnamed g.S.Store g.D.Database.finds c.args.cluster.now c.args.node users.book users.floors.items a fault c.in_err-store.ensures.fault
    (imported_default c.default.result users.book users.floors.items a c.default.ensures c.in_ok-named.ensures.imported))

pub returns-in_err-check_kinds-clause-fault : goal.returns-in_err-check_kinds-clause-fault
returns-in_err-check_kinds-clause-fault g c =
    let a = g.R.Read.remaining c.args.users in
    let users = c.in_ok-named.named.users in
    let fault = c.in_err-check_kinds.field-0.0 in
    err_is c.from_residual-in_err-check_kinds.result fault
    (λ (x : NamingFault). IfSome a (IsUnnamed g.S.Store g.D.Database.finds c.args.cluster.now default_limits 16777216 c.args.node x))
    c.from_residual-in_err-check_kinds.ensures.1
    (other_unnamed g.S.Store g.D.Database.finds c.args.cluster.now c.args.node users.book users.floors.items c.in_ok-conn.conn c.in_ok-store.store
    c.in_ok-conn.ensures.found c.in_ok-store.ensures.opened a fault c.in_err-check_kinds.ensures.fault
    (imported_default c.default.result users.book users.floors.items a c.default.ensures c.in_ok-named.ensures.imported))

pub returns-in_err-conn-2-clause-fault : goal.returns-in_err-conn-2-clause-fault
returns-in_err-conn-2-clause-fault g c =
    let a = g.R.Read.remaining c.args.users in
    let users = c.in_ok-named.named.users in
    let fault = c.in_err-conn-2.field-0.0 in
    err_is c.from_residual-in_err-conn-2.result (Roster (Command fault))
    (λ (x : NamingFault). IfSome a (IsUnnamed g.S.Store g.D.Database.finds c.args.cluster.now default_limits 16777216 c.args.node x))
    c.from_residual-in_err-conn-2.ensures.1
    (store_unnamed g.S.Store g.D.Database.finds c.args.cluster.now c.args.node users.book users.floors.items a fault c.in_err-conn-2.ensures.fault
    (imported_default c.default.result users.book users.floors.items a c.default.ensures c.in_ok-named.ensures.imported))

pub returns-clause-named : goal.returns-clause-named
returns-clause-named g c =
    let a = g.R.Read.remaining c.args.users in
    let users = c.in_ok-named.named.users in
    has_named g.S.Store g.D.Database.finds c.args.cluster.now c.args.node users.book users.floors.items c.in_ok-conn.conn c.in_ok-store.store
    c.in_ok-conn.ensures.found c.in_ok-store.ensures.opened a c.close.result c.in_ok-conn-2.conn c.deref.result.now
    (c.deref.ensures.value ∙ c.in_ok-named.ensures.entries) c.in_ok-check_kinds.ensures.own c.close.ensures.same c.in_ok-conn-2.ensures.named
    (imported_default c.default.result users.book users.floors.items a c.default.ensures c.in_ok-named.ensures.imported)
