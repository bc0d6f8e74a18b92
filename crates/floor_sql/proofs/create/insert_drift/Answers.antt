use Rattle.std.proofs.Common.{◌≡◌, pos, [], ◌∷◌, Ok, subst, rules, arith}
use Rattle.sqlite.specs.declared.types.Value.TheVariants.{Int}
use Rattle.sqlite.specs.Order.{Row}
use Rattle.sqlite.specs.Values.{bound}
use Rattle.sqlite.specs.Held.{state}
use Rattle.sqlite.specs.State.{Executes}
use Rattle.floor_sql.specs.Text.{insert_drift as text}
use Rattle.floor_sql.proofs.CreateLemmas.{drift_kept, drift_added}
use Rattle.floor_sql.proofs.StepLemmas.{changes, refuses}
use Rattle.floor_sql.proofs.create.insert_drift.Goals as goal

pub returns : goal.returns
returns g c =
    let old = state g.S.Store c.args.tx.now.conn.now in
    let new = state g.S.Store c.run.new.tx.conn.now in
    let params : bound c.token_params-params.result ≡ Int (pos c.args.token) ∷ [] = search rules in
    changes c.in_ok-_one.ensures.steps (λ clean.
    let ran = subst (λ (p : Row). Executes text p old new (Ok c.in_ok-_one._one)) params (c.in_ok-_one.ensures.ran clean) in
    drift_added old new c.args.token c.in_ok-_one._one (c.requires.schema (omega (arith, c.run.ensures.steps.crash.clean))) ran)

pub returns-in_err-_one : goal.returns-in_err-_one
returns-in_err-_one g c = refuses c.from_residual.ensures.1 c.in_err-_one.ensures.steps
    (λ clean. drift_kept _ _ _ (bound c.token_params-params.result)
    (c.requires.schema (omega (arith, c.run.ensures.steps.crash.clean))) (c.in_err-_one.ensures.cause clean))
