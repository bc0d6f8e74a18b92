use Rattle.std.proofs.Common.{◌≡◌, pos, Ok, subst, rules, arith}
use Rattle.sqlite.specs.Order.{Row}
use Rattle.sqlite.specs.Values.{bound}
use Rattle.sqlite.specs.Held.{state}
use Rattle.sqlite.specs.State.{Executes}
use Rattle.floor_sql.specs.Stored.{pass_values}
use Rattle.floor_sql.specs.Text.{insert_pass as text}
use Rattle.floor_sql.proofs.InsertLemmas.{pass_appended}
use Rattle.floor_sql.proofs.StepLemmas.{changes, refuses}
use Rattle.floor_sql.proofs.WriteLemmas.{pass_kept}
use Rattle.floor_sql.proofs.write.append_pass.Goals as goal

pub returns : goal.returns
returns g c =
    let old = state g.S.Store c.args.tx.now.conn.now in
    let new = state g.S.Store c.run.new.tx.conn.now in
    let pass = c.args.pass in
    let params : bound c.pass_params-params.result ≡ pass_values c.args.number pass = search rules in
    changes c.in_ok-_one.ensures.steps (λ clean.
    let ran = subst (λ (p : Row). Executes text p old new (Ok c.in_ok-_one._one)) params (c.in_ok-_one.ensures.ran clean) in
    pass_appended old new (pos c.args.number) (pos pass.token) (pos pass.lo) (pos pass.hi) (pos pass.boot) (pos pass.seq)
    c.in_ok-_one._one (c.requires.schema (omega (arith, c.run.ensures.steps.crash.clean))) ran)

pub returns-in_err-_one : goal.returns-in_err-_one
returns-in_err-_one g c = refuses c.from_residual.ensures.1 c.in_err-_one.ensures.steps
    (λ clean. pass_kept (state g.S.Store c.args.tx.now.conn.now) (state g.S.Store c.run.new.tx.conn.now) _
    (c.requires.schema (omega (arith, c.run.ensures.steps.crash.clean))) (bound c.pass_params-params.result)
    (c.in_err-_one.ensures.cause clean))
