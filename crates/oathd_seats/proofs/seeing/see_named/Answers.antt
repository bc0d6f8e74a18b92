use Rattle.std.proofs.Common.{◌≤◌, ◌∙◌, List, IfSome, length, ap, sym, subst, arith}
use Rattle.roster_sql.specs.declared.entry.Entry.{Entry}
use Rattle.oathd_database.specs.declared.fault.Fault.TheVariants.{Store}
use Rattle.oathd_seats.proofs.FaultLemmas.{err_is}
use Rattle.oathd_roster.specs.declared.fault.RosterFault.TheVariants.{Command}
use Rattle.oathd_seats.specs.Seen.{IsNotSeenNamed}
use Rattle.oathd_seats.specs.declared.fault.SeatsFault.{SeatsFault}
use Rattle.oathd_seats.specs.declared.fault.SeatsFault.TheVariants.{Roster}
use Rattle.oathd_seats.proofs.SeenLemmas.{has_seen, place_is, seen_each, store_unseen, tables_unseen, unnamed_unseen}
use Rattle.oathd_seats.proofs.seeing.see_named.Goals as goal

pub returns-in_err-named-clause-fault : goal.returns-in_err-named-clause-fault
returns-in_err-named-clause-fault g c =
    let a = g.R.Read.remaining c.args.users in
    let fault = c.in_err-named.field-0.0 in
    err_is c.from_residual.result (Roster fault)
    (λ (x : SeatsFault). IfSome a (IsNotSeenNamed g.S.Store g.D.Database.finds c.args.cluster.now c.args.settings 16777216 c.args.node x))
    c.from_residual.ensures.1
    (unnamed_unseen g.S.Store g.D.Database.finds c.args.cluster.now c.args.settings 16777216 c.args.node a fault c.in_err-named.ensures.fault)

pub returns-in_err-conn-clause-fault : goal.returns-in_err-conn-clause-fault
returns-in_err-conn-clause-fault g c =
    let a = g.R.Read.remaining c.args.users in
    let fault = c.in_err-conn.field-0.0 in
    let users = c.in_ok-named.named.users in
    err_is c.from_residual-in_err-conn.result (Roster (Command (Store fault)))
    (λ (x : SeatsFault). IfSome a (IsNotSeenNamed g.S.Store g.D.Database.finds c.args.cluster.now c.args.settings 16777216 c.args.node x))
    c.from_residual-in_err-conn.ensures.1
    (store_unseen g.S.Store g.D.Database.finds c.args.cluster.now c.args.settings 16777216 c.args.node users.book users.floors.items a fault
    c.in_ok-named.ensures.imported)

pub look_named-requires-clause-tokens : goal.look_named-requires-clause-tokens
look_named-requires-clause-tokens g c =
    let named = c.in_ok-named.named in
    let many = ap (λ (l : List Entry). length l) c.deref.ensures.value in
    omega (arith, many, named.each, named.users.few)

pub returns-in-Ok-clause-seen : goal.returns-in-Ok-clause-seen
returns-in-Ok-clause-seen g c =
    let named = c.in_ok-named.named in
    let looked = c.in-Ok.looked in
    has_seen g.S.Store g.D.Database.finds c.args.cluster.now c.args.node named.users.book c.deref.result.now looked.roster.items c.in_ok-conn.conn
    looked.store (c.deref.ensures.value ∙ c.in_ok-named.ensures.entries) c.in_ok-conn.ensures.found c.in-Ok.ensures.looked

pub returns-in-Ok-clause-each : goal.returns-in-Ok-clause-each
returns-in-Ok-clause-each g c =
    let named = c.in_ok-named.named in
    let looked = c.in-Ok.looked in
    seen_each g.S.Store g.D.Database.finds c.args.cluster.now c.args.node named.users.book looked.roster.items looked.store
    (has_seen g.S.Store g.D.Database.finds c.args.cluster.now c.args.node named.users.book c.deref.result.now looked.roster.items c.in_ok-conn.conn
    looked.store (c.deref.ensures.value ∙ c.in_ok-named.ensures.entries) c.in_ok-conn.ensures.found c.in-Ok.ensures.looked)

pub fault_of-requires : goal.fault_of-requires
fault_of-requires g c =
    let named = c.in_ok-named.named in
    let many = ap (λ (l : List Entry). length l) c.deref.ensures.value in
    let few : length c.deref.result.now ≤ 10000 = omega (arith, many, named.each, named.users.few) in
    place_is c.deref.result.now c.in-Err.fault few c.in-Err.ensures.known

pub returns-clause-fault : goal.returns-clause-fault
returns-clause-fault g c =
    let a = g.R.Read.remaining c.args.users in
    let users = c.in_ok-named.named.users in
    subst (λ (x : SeatsFault). IfSome a (IsNotSeenNamed g.S.Store g.D.Database.finds c.args.cluster.now c.args.settings 16777216 c.args.node x))
    (sym c.fault_of.ensures)
    (tables_unseen g.S.Store g.D.Database.finds c.args.cluster.now c.args.settings 16777216 c.args.node users.book users.floors.items c.in_ok-conn.conn
    c.in-Err._left c.in_ok-conn.ensures.found c.in-Err.ensures.kept a c.deref.result.now c.in-Err.fault
    (c.deref.ensures.value ∙ c.in_ok-named.ensures.entries) c.in-Err.ensures.fault c.in-Err.ensures.known c.in_ok-named.ensures.imported)
