use Rattle.std.proofs.Common.{ℕ, List, length, Option, Some, None, IfSome, IfOk, subst}
use Rattle.std.specs.Prelude.{Result, Ok, Err}
use Rattle.sqlite.specs.Store.{Ghosts}
use Rattle.sqlite.specs.Held as sql
use Rattle.sqlite.specs.State.{HasCleanDisk}
use Rattle.otp_core.specs.Limits.{Limits, default_limits}
use Rattle.token_file.specs.Credential.{Credential}
use Rattle.floor_sql.specs.Migrate.{IsMigrated}
use Rattle.oathd_database.specs.Commands.{HasMigrated, IsRefused}
use Rattle.oathd_database.specs.Users.{IsImported, IsUnread}
use Rattle.oathd_database.specs.declared.fault.Fault.{Fault}
use Rattle.oathd_database.proofs.FaultLemmas.{err_is}
use Rattle.oathd_database.proofs.UsersLemmas.{refused, refused_late}
use Rattle.oathd_database.proofs.migrate.migrate_store.Goals as goal

-- the store is migrated
migrated : (limits : Limits) (moment longest : ℕ) {S : Type 0} (g : Ghosts S) (finds : sql.Held S → Type 0) (node : ℕ) (a : Option (List ℕ)) (old : sql.Held S)
    (result : Result (sql.Held S) Fault) (book : List Credential) (floors : List ℕ) → IfSome a (IsImported limits moment longest book floors)
    → (HasCleanDisk (sql.state g old) → finds old) → IfOk result (IsMigrated g node (length book) old) → IfOk result (λ conn. IfSome a (HasMigrated g finds limits moment longest node conn))
migrated limits moment longest g finds node a old (Err fault) book floors h found is = tt
migrated limits moment longest g finds node None old (Ok conn) book floors h found is = tt
migrated limits moment longest g finds node (Some text) old (Ok conn) book floors h found is = record {
  import = record { book = book; floors = floors; imported = h };
  old = old;
  found = found;
  migrated = is;
}

pub returns-in_err-users-clause-fault : goal.returns-in_err-users-clause-fault
returns-in_err-users-clause-fault g c =
    let a = g.R.Read.remaining c.args.users in
    let fault = c.in_err-users.field-0.0 in
    let unread = subst (λ (limits : Limits). IfSome a (IsUnread limits 0 16777216 fault)) c.default.ensures c.in_err-users.ensures.fault in
    err_is c.from_residual.result fault (λ (x : Fault). IfSome a (IsRefused default_limits 0 16777216 x)) c.from_residual.ensures.1
    (refused default_limits 0 16777216 a fault unread)

pub returns-clause-migrated : goal.returns-clause-migrated
returns-clause-migrated g c =
    let a = g.R.Read.remaining c.args.users in
    let book = c.in_ok-users.users.book in
    let floors = c.in_ok-users.users.floors.items in
    let imported = subst (λ (limits : Limits). IfSome a (IsImported limits 0 16777216 book floors)) c.default.ensures c.in_ok-users.ensures.imported in
    migrated default_limits 0 16777216 g.S.Store g.D.Database.finds c.args.node a c.in_ok-conn.conn c.migrate_tables.result book floors imported c.in_ok-conn.ensures.found c.migrate_tables.ensures.migrated

pub returns-clause-fault : goal.returns-clause-fault
returns-clause-fault g c =
    let a = g.R.Read.remaining c.args.users in
    let book = c.in_ok-users.users.book in
    let floors = c.in_ok-users.users.floors.items in
    let imported = subst (λ (limits : Limits). IfSome a (IsImported limits 0 16777216 book floors)) c.default.ensures c.in_ok-users.ensures.imported in
    refused_late default_limits 0 16777216 a c.migrate_tables.result book floors imported c.migrate_tables.ensures.fault
