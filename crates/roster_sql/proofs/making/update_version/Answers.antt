use Rattle.std.proofs.Common.{arith}
use Rattle.sqlite.specs.Held.{state}
use Rattle.floor_sql.proofs.StepLemmas.{changes, refuses}
use Rattle.roster_sql.proofs.MakingLemmas.{version_raised, version_unusable}
use Rattle.roster_sql.proofs.making.update_version.Goals as goal

pub returns : goal.returns
returns g c =
    let old = state g.S.Store c.args.tx.now.conn.now in
    let new = state g.S.Store c.change_one.new.tx.conn.now in
    changes c.in_ok-change_one.ensures.steps (λ clean.
    version_raised old new (c.requires.there (omega (arith, c.change_one.ensures.steps.crash.clean)))
    (c.in_ok-change_one.ensures.ran clean))

pub returns-in_err-change_one : goal.returns-in_err-change_one
returns-in_err-change_one g c =
    refuses c.from_residual.ensures.1 c.in_err-change_one.ensures.steps (λ clean is.
    let there = c.requires.there (omega (arith, c.change_one.ensures.steps.crash.clean)) in
    version_unusable _ _ _ there.schema (c.in_err-change_one.ensures.cause clean) is)
