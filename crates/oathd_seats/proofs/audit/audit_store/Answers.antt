use Rattle.std.proofs.Common.{IfSome}
use Rattle.oathd_seats.proofs.FaultLemmas.{err_is}
use Rattle.oathd_roster.specs.declared.fault.RosterFault.TheVariants.{Command}
use Rattle.oathd_seats.specs.Commands.{EndsOutput}
use Rattle.oathd_seats.specs.declared.fault.SeatsFault.{SeatsFault}
use Rattle.oathd_seats.specs.declared.fault.SeatsFault.TheVariants.{Roster}
use Rattle.oathd_seats.proofs.CommandLemmas.{has_audited, output_fails, unseen_output}
use Rattle.oathd_seats.proofs.audit.audit_store.Goals as goal

pub returns-in_err-_users-clause-fault : goal.returns-in_err-_users-clause-fault
returns-in_err-_users-clause-fault g c =
    let a = g.R.Read.remaining c.args.users in
    let fault = c.in_err-_users.field-0.0 in
    err_is c.from_residual.result fault
    (λ (x : SeatsFault). IfSome a (EndsOutput g.S.Store g.D.Database.finds c.args.naming c.args.settings 16777216 x))
    c.from_residual.ensures.1
    (unseen_output g.S.Store g.D.Database.finds c.args.naming c.args.settings 16777216 a fault c.in_err-_users.ensures.fault)

pub returns-in_err-write_audit-clause-fault : goal.returns-in_err-write_audit-clause-fault
returns-in_err-write_audit-clause-fault g c =
    let a = g.R.Read.remaining c.args.users in
    let fault = c.in_err-write_audit.field-0.0 in
    let users = c.in_ok-_users._users in
    err_is c.from_residual-in_err-write_audit.result (Roster (Command fault))
    (λ (x : SeatsFault). IfSome a (EndsOutput g.S.Store g.D.Database.finds c.args.naming c.args.settings 16777216 x))
    c.from_residual-in_err-write_audit.ensures.1
    (output_fails g.S.Store g.D.Database.finds c.args.settings 16777216 a users.book users.floors.items c.in_ok-_users.ensures.users c.args.naming _
    fault c.in_err-write_audit.ensures.fault)

pub returns-clause-audited : goal.returns-clause-audited
returns-clause-audited g c =
    let a = g.R.Read.remaining c.args.users in
    let users = c.in_ok-_users._users in
    has_audited g.S.Store g.D.Database.finds c.args.naming c.args.settings 16777216 a users.book users.floors.items c.in_ok-_users.ensures.users
    c.in_ok-_users.store c.in_ok-_users.ensures.seen (g.W.Write.contents c.args.writer.now) (g.W.Write.contents c.write_audit.new.writer)
    c.into_inner-store.result c.write_audit.new.store c.into_inner-store.ensures c.write_audit.ensures.keeps
    c.in_ok-write_audit.ensures.written
