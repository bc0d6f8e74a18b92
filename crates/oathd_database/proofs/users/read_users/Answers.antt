use Rattle.std.proofs.Common.{IfSome}
use Rattle.oathd_database.specs.Users.{IsUnread}
use Rattle.oathd_database.specs.declared.fault.Fault.{Fault}
use Rattle.oathd_database.specs.declared.fault.Fault.TheVariants.{Users}
use Rattle.oathd_database.proofs.FaultLemmas.{err_is}
use Rattle.oathd_database.proofs.UsersLemmas.{unread}
use Rattle.oathd_database.proofs.users.read_users.Goals as goal

pub returns-in_err-book-clause-fault : goal.returns-in_err-book-clause-fault
returns-in_err-book-clause-fault g c =
    let a = g.R.Read.remaining c.args.reader in
    let fault = c.in_err-book.field-0.0 in
    err_is c.from_residual.result (Users fault) (λ (x : Fault). IfSome a (IsUnread c.args.settings c.args.moment 16777216 x)) c.from_residual.ensures.1
    (unread c.args.settings c.args.moment 16777216 a _ fault c.new-source.ensures.left c.in_err-book.ensures.fault c.in_err-book.ensures.read)
