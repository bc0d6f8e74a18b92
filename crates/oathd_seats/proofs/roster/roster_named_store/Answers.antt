use Rattle.std.proofs.Common.{◌∙◌, IfSome}
use Rattle.oathd_seats.proofs.FaultLemmas.{err_is}
use Rattle.oathd_roster.specs.declared.fault.RosterFault.TheVariants.{Command}
use Rattle.oathd_seats.specs.Commands.{EndsOutputNamed}
use Rattle.oathd_seats.specs.declared.fault.SeatsFault.{SeatsFault}
use Rattle.oathd_seats.specs.declared.fault.SeatsFault.TheVariants.{Roster}
use Rattle.oathd_seats.proofs.CommandLemmas.{has_told_roster, output_fails_named, unseen_named}
use Rattle.oathd_seats.proofs.roster.roster_named_store.Goals as goal

pub returns-in_err-named-clause-fault : goal.returns-in_err-named-clause-fault
returns-in_err-named-clause-fault g c =
    let a = g.R.Read.remaining c.args.users in
    let fault = c.in_err-named.field-0.0 in
    err_is c.from_residual.result fault
    (λ (x : SeatsFault). IfSome a (EndsOutputNamed g.S.Store g.D.Database.finds c.args.cluster.now c.args.settings 16777216 c.args.node x))
    c.from_residual.ensures.1
    (unseen_named g.S.Store g.D.Database.finds c.args.cluster.now c.args.settings 16777216 c.args.node a fault c.in_err-named.ensures.fault)

pub returns-in_err-write_roster-clause-fault : goal.returns-in_err-write_roster-clause-fault
returns-in_err-write_roster-clause-fault g c =
    let a = g.R.Read.remaining c.args.users in
    let fault = c.in_err-write_roster.field-0.0 in
    let users = c.in_ok-named.named.users in
    err_is c.from_residual-in_err-write_roster.result (Roster (Command fault))
    (λ (x : SeatsFault). IfSome a (EndsOutputNamed g.S.Store g.D.Database.finds c.args.cluster.now c.args.settings 16777216 c.args.node x))
    c.from_residual-in_err-write_roster.ensures.1
    (output_fails_named g.S.Store g.D.Database.finds c.args.cluster.now c.args.settings 16777216 c.args.node a users.book users.floors.items
    c.in_ok-named.ensures.users _ fault c.in_err-write_roster.ensures.fault)

pub returns-clause-told : goal.returns-clause-told
returns-clause-told g c =
    let a = g.R.Read.remaining c.args.users in
    let users = c.in_ok-named.named.users in
    let looked = c.in_ok-named.looked in
    has_told_roster g.S.Store g.D.Database.finds c.args.cluster.now c.args.settings 16777216 c.args.node a users.book users.floors.items
    c.in_ok-named.ensures.users looked.roster.items looked.store c.in_ok-named.ensures.seen (g.W.Write.contents c.args.writer.now)
    (g.W.Write.contents c.write_roster.new.writer) c.deref.result.now c.deref-2.result.now c.into_inner-store.result
    (c.deref.ensures.value ∙ c.in_ok-named.ensures.seats) c.deref-2.ensures.value c.into_inner-store.ensures c.in_ok-write_roster.ensures.written
