use Rattle.std.proofs.Common.{IfSome}
use Rattle.oathd_roster.specs.Fault.{names_fault_of}
use Rattle.oathd_roster.specs.Users.{IsUnnamed}
use Rattle.oathd_roster.specs.declared.fault.RosterFault.{RosterFault}
use Rattle.oathd_roster.specs.declared.fault.RosterFault.TheVariants.{Command}
use Rattle.oathd_roster.proofs.UsersLemmas.{err_is, no_names, unnamed}
use Rattle.oathd_roster.proofs.users.read_named_users.Goals as goal

pub returns-in_err-users-clause-fault : goal.returns-in_err-users-clause-fault
returns-in_err-users-clause-fault g c =
    let a = g.R.Read.remaining c.args.reader in
    let fault = c.in_err-users.field-0.0 in
    err_is c.from_residual.result (Command fault) (λ (x : RosterFault). IfSome a (IsUnnamed c.args.salt.now c.args.settings c.args.moment 16777216 x))
    c.from_residual.ensures.1 (unnamed c.args.salt.now c.args.settings c.args.moment 16777216 a fault c.in_err-users.ensures.fault)

pub returns-in_err-entries-clause-fault : goal.returns-in_err-entries-clause-fault
returns-in_err-entries-clause-fault g c =
    let a = g.R.Read.remaining c.args.reader in
    let fault = c.in_err-entries.field-0.0 in
    err_is c.from_residual-in_err-entries.result (names_fault_of fault)
    (λ (x : RosterFault). IfSome a (IsUnnamed c.args.salt.now c.args.settings c.args.moment 16777216 x)) c.from_residual-in_err-entries.ensures.1
    (no_names c.args.salt.now c.args.settings c.args.moment 16777216 a fault c.in_ok-users.users.book c.in_ok-users.users.floors.items
    c.in_ok-users.ensures.imported c.in_err-entries.ensures.fault)
