use Rattle.std.proofs.Common.{◌≡◌, Ok, subst, rules, arith}
use Rattle.sqlite.specs.Order.{Row}
use Rattle.sqlite.specs.Values.{bound}
use Rattle.sqlite.specs.Held.{state}
use Rattle.sqlite.specs.State.{Executes}
use Rattle.floor_sql.proofs.StepLemmas.{changes, refuses}
use Rattle.roster_sql.specs.Roster.{entry_values}
use Rattle.roster_sql.specs.Text.{insert_entry as text}
use Rattle.roster_sql.proofs.MakingLemmas.{entry_kept, entry_added}
use Rattle.roster_sql.proofs.making.insert_entry.Goals as goal

pub returns : goal.returns
returns g c =
    let old = state g.S.Store c.args.tx.now.conn.now in
    let new = state g.S.Store c.run.new.tx.conn.now in
    let params : bound c.entry_params-params.result ≡ entry_values c.args.token c.args.entry = search rules in
    changes c.in_ok-_one.ensures.steps (λ clean.
    let ran = subst (λ (p : Row). Executes text p old new (Ok c.in_ok-_one._one)) params (c.in_ok-_one.ensures.ran clean) in
    entry_added old new c.args.token c.args.entry c.in_ok-_one._one (c.requires.schema (omega (arith, c.run.ensures.steps.crash.clean))) ran)

pub returns-in_err-_one : goal.returns-in_err-_one
returns-in_err-_one g c = refuses c.from_residual.ensures.1 c.in_err-_one.ensures.steps
    (λ clean. entry_kept _ _ _ (bound c.entry_params-params.result)
    (c.requires.schema (omega (arith, c.run.ensures.steps.crash.clean))) (c.in_err-_one.ensures.cause clean))
