use Rattle.std.proofs.Common.{◌≡◌, [], ◌∷◌, Ok, subst, rules, arith}
use Rattle.sqlite.specs.declared.types.Value.TheVariants.{Int}
use Rattle.sqlite.specs.Order.{Row}
use Rattle.sqlite.specs.Values.{bound}
use Rattle.sqlite.specs.Held.{state}
use Rattle.sqlite.specs.State.{HasCleanDisk, Executes}
use Rattle.floor_sql.specs.Refusals.{ChangesNotOne}
use Rattle.floor_sql.specs.Stored.{drift_values}
use Rattle.floor_sql.specs.Text.{update_drift as text}
use Rattle.floor_sql.proofs.StepLemmas.{changes, refuses}
use Rattle.floor_sql.proofs.UpdateLemmas.{drift_updated}
use Rattle.floor_sql.proofs.WriteLemmas.{drift_unusable}
use Rattle.floor_sql.proofs.write.update_drift.Goals as goal

pub returns : goal.returns
returns g c =
    let old = state g.S.Store c.args.tx.now.conn.now in
    let new = state g.S.Store c.change_one.new.tx.conn.now in
    let params : bound c.drift_params-params.result ≡ drift_values c.args.token c.args.drift = search rules in
    changes c.in_ok-change_one.ensures.steps (λ clean.
    let early : HasCleanDisk old = omega (arith, c.change_one.ensures.steps.crash.clean) in
    let ran = subst (λ (p : Row). Executes text p old new (Ok 1)) params (c.in_ok-change_one.ensures.ran clean) in
    drift_updated old new c.args.token c.args.drift (c.requires.schema early) (c.requires.there early) ran)

pub returns-in_err-change_one : goal.returns-in_err-change_one
returns-in_err-change_one g c =
    let old = state g.S.Store c.args.tx.now.conn.now in
    let new = state g.S.Store c.change_one.new.tx.conn.now in
    let fault = c.in_err-change_one.field-0.0.0 in
    let params : bound c.drift_params-params.result ≡ drift_values c.args.token c.args.drift = search rules in
    refuses c.from_residual.ensures.1 c.in_err-change_one.ensures.steps (λ clean is.
    let cause = subst (λ (p : Row). ChangesNotOne text p old new fault) params (c.in_err-change_one.ensures.cause clean) in
    drift_unusable old new fault (c.requires.schema (omega (arith, c.change_one.ensures.steps.crash.clean))) c.args.token
    (Int c.args.drift ∷ []) cause is)
