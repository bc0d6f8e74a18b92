use Rattle.std.proofs.Common.{IfSome}
use Rattle.oathd_seats.proofs.FaultLemmas.{err_is}
use Rattle.oathd_roster.specs.declared.fault.RosterFault.TheVariants.{Command}
use Rattle.oathd_seats.specs.Commands.{EndsOutput}
use Rattle.oathd_seats.specs.declared.fault.SeatsFault.{SeatsFault}
use Rattle.oathd_seats.specs.declared.fault.SeatsFault.TheVariants.{Roster}
use Rattle.oathd_seats.proofs.CommandLemmas.{has_told, output_fails, unseen_output}
use Rattle.oathd_seats.proofs.gates.gates_store.Goals as goal

pub returns-in_err-users-clause-fault : goal.returns-in_err-users-clause-fault
returns-in_err-users-clause-fault g c =
    let a = g.R.Read.remaining c.args.users in
    let fault = c.in_err-users.field-0.0 in
    err_is c.from_residual.result fault
    (λ (x : SeatsFault). IfSome a (EndsOutput g.S.Store g.D.Database.finds c.args.naming c.args.settings 16777216 x))
    c.from_residual.ensures.1
    (unseen_output g.S.Store g.D.Database.finds c.args.naming c.args.settings 16777216 a fault c.in_err-users.ensures.fault)

pub returns-in_err-write_gates-clause-fault : goal.returns-in_err-write_gates-clause-fault
returns-in_err-write_gates-clause-fault g c =
    let a = g.R.Read.remaining c.args.users in
    let fault = c.in_err-write_gates.field-0.0 in
    let users = c.in_ok-users.users in
    err_is c.from_residual-in_err-write_gates.result (Roster (Command fault))
    (λ (x : SeatsFault). IfSome a (EndsOutput g.S.Store g.D.Database.finds c.args.naming c.args.settings 16777216 x))
    c.from_residual-in_err-write_gates.ensures.1
    (output_fails g.S.Store g.D.Database.finds c.args.settings 16777216 a users.book users.floors.items c.in_ok-users.ensures.users c.args.naming _
    fault c.in_err-write_gates.ensures.fault)

pub returns-clause-told : goal.returns-clause-told
returns-clause-told g c =
    let a = g.R.Read.remaining c.args.users in
    let users = c.in_ok-users.users in
    has_told g.S.Store g.D.Database.finds c.args.naming c.args.settings 16777216 a users.book users.floors.items c.in_ok-users.ensures.users
    c.in_ok-users.store c.in_ok-users.ensures.seen (g.W.Write.contents c.args.writer.now) (g.W.Write.contents c.write_gates.new.writer)
    c.in_ok-write_gates.ensures.written
