use Rattle.std.proofs.Common.{IfSome, subst}
use Rattle.otp_core.specs.Limits.{Limits, default_limits}
use Rattle.oathd_database.specs.Users.{IsImported}
use Rattle.oathd_database.proofs.FloorsLemmas.{ends_told, has_told}
use Rattle.oathd_database.proofs.floors.floors_store.Goals as goal

pub returns-clause-told : goal.returns-clause-told
returns-clause-told g c =
    let a = g.R.Read.remaining c.args.users in
    let book = c.in_ok-users.users.book in
    let floors = c.in_ok-users.users.floors.items in
    let imported = subst (λ (limits : Limits). IfSome a (IsImported limits 0 16777216 book floors)) c.default.ensures c.in_ok-users.ensures.users in
    has_told default_limits 16777216 a book floors imported g.S.Store g.D.Database.finds c.args.node c.args.members c.args.moment (g.W.Write.contents c.args.writer.now)
    (g.W.Write.contents c.write_told.new.writer) c.in_ok-users.store c.in_ok-users.ensures.opened c.write_told.result c.write_told.ensures.written

pub returns-clause-fault : goal.returns-clause-fault
returns-clause-fault g c =
    let a = g.R.Read.remaining c.args.users in
    let book = c.in_ok-users.users.book in
    let floors = c.in_ok-users.users.floors.items in
    let imported = subst (λ (limits : Limits). IfSome a (IsImported limits 0 16777216 book floors)) c.default.ensures c.in_ok-users.ensures.users in
    ends_told default_limits 16777216 a book floors imported c.write_told.result c.write_told.ensures.fault
