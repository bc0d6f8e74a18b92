use Rattle.std.proofs.Common.{◌≡◌, ◌∙◌, IfSome, length, arith}
use Rattle.oathd_database.specs.declared.fault.Fault.TheVariants.{Store}
use Rattle.oathd_roster.specs.declared.fault.RosterFault.{RosterFault}
use Rattle.oathd_roster.specs.declared.fault.RosterFault.TheVariants.{Command}
use Rattle.oathd_floors.specs.Dropped.{IsNotDropped}
use Rattle.oathd_floors.proofs.DroppedLemmas.{fails, has_dropped}
use Rattle.oathd_floors.proofs.FaultLemmas.{err_is}
use Rattle.oathd_floors.proofs.dropping.drop_retired_rows.Goals as goal

pub returns-in_err-rows-clause-fault : goal.returns-in_err-rows-clause-fault
returns-in_err-rows-clause-fault g c =
    let a = g.R.Read.remaining c.args.users in
    let users = c.in_ok-named.named.users in
    let fault = c.in_err-rows.field-0.0 in
    err_is c.from_residual-in_err-rows.result (Command (Store fault))
    (λ (x : RosterFault). IfSome a (IsNotDropped g.S.Store g.D.Database.finds c.args.cluster.now c.args.settings 16777216 c.args.node x))
    c.from_residual-in_err-rows.ensures.1
    (fails g.S.Store g.D.Database.finds c.args.cluster.now c.args.settings c.args.node a users.book users.floors.items c.in_ok-named.ensures.imported fault)

pub returns-clause-dropped : goal.returns-clause-dropped
returns-clause-dropped g c =
    let a = g.R.Read.remaining c.args.users in
    let users = c.in_ok-named.named.users in
    let all : c.len.result ≡ length c.in_ok-rows.rows.items = omega (arith, c.len.ensures, c.in_ok-rows.rows.ok.0) in
    has_dropped g.S.Store g.D.Database.finds c.args.cluster.now c.args.settings c.args.node a users.book users.floors.items c.in_ok-named.ensures.imported
    c.deref-2.result.now c.in_ok-roster.roster.items c.deref.result.now c.in_ok-roster.store c.in_ok-rows.rows.items c.deref-3.result.now c.in_ok-conn.conn
    c.len.result c.in_ok-conn.left c.saturating_sub.result (g.W.Write.contents c.args.writer.now) (g.W.Write.contents c.write_flushed.new.writer)
    c.in_ok-roster.ensures.opened (c.deref-2.ensures.value ∙ c.in_ok-named.ensures.entries) c.deref.ensures.value c.in_ok-rows.ensures c.deref-3.ensures.value
    c.in_ok-conn.ensures.left c.in_ok-conn.ensures.count all c.saturating_sub.ensures c.in_ok-write_flushed.ensures.written
