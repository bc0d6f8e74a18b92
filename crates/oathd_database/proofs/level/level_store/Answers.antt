use Rattle.std.proofs.Common.{IfSome, map, subst}
use Rattle.otp_core.specs.Limits.{Limits, default_limits}
use Rattle.oathd_database.specs.Users.{IsImported}
use Rattle.oathd_database.proofs.LevelLemmas.{has_levelled}
use Rattle.oathd_database.proofs.level.level_store.Goals as goal

pub returns-in-Ok-level_rows-clause-levelled : goal.returns-in-Ok-level_rows-clause-levelled
returns-in-Ok-level_rows-clause-levelled g c =
    let a = g.R.Read.remaining c.args.users in
    let book = c.in-Ok-open_store.opened.0.book in
    let floors = c.in-Ok-open_store.opened.0.floors.items in
    let imported = subst (λ (limits : Limits). IfSome a (IsImported limits 0 16777216 book floors)) c.default.ensures c.in-Ok-open_store.ensures.users in
    has_levelled default_limits 16777216 c.args.node g.S.Store g.D.Database.finds a (map (λ text. text.items) c.args.texts.now) c.in-Ok.files.items c.deref.result.now
    c.in-Ok-open_store.opened.1 c.level_rows.new.store book floors c.in-Ok-level_rows.field-0 imported c.in-Ok.ensures.read
    c.in-Ok-open_store.ensures.opened c.deref.ensures.value c.in-Ok-level_rows.ensures
