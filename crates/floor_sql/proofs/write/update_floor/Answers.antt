use Rattle.std.proofs.Common.{◌≡◌, Ok, subst, rules, arith}
use Rattle.sqlite.specs.Order.{Row}
use Rattle.sqlite.specs.Values.{bound}
use Rattle.sqlite.specs.Held.{state}
use Rattle.sqlite.specs.State.{Executes}
use Rattle.floor_sql.specs.Refusals.{ChangesNotOne}
use Rattle.floor_sql.specs.Stored.{floor_values, row_values}
use Rattle.floor_sql.specs.Text.{update_floor as text}
use Rattle.floor_sql.proofs.StepLemmas.{changes, refuses}
use Rattle.floor_sql.proofs.UpdateLemmas.{row_updated}
use Rattle.floor_sql.proofs.WriteLemmas.{floor_unusable}
use Rattle.floor_sql.proofs.write.update_floor.Goals as goal

pub returns : goal.returns
returns g c =
    let old = state g.S.Store c.args.tx.now.conn.now in
    let new = state g.S.Store c.change_one.new.tx.conn.now in
    let params : bound c.row_params-params.result ≡ floor_values c.args.token c.args.row = search rules in
    changes c.in_ok-change_one.ensures.steps (λ clean.
    let ran = subst (λ (p : Row). Executes text p old new (Ok 1)) params (c.in_ok-change_one.ensures.ran clean) in
    row_updated old new c.args.token c.args.row (c.requires.there (omega (arith, c.change_one.ensures.steps.crash.clean))) ran)

pub returns-in_err-change_one : goal.returns-in_err-change_one
returns-in_err-change_one g c =
    let old = state g.S.Store c.args.tx.now.conn.now in
    let new = state g.S.Store c.change_one.new.tx.conn.now in
    let fault = c.in_err-change_one.field-0.0.0 in
    let params : bound c.row_params-params.result ≡ floor_values c.args.token c.args.row = search rules in
    refuses c.from_residual.ensures.1 c.in_err-change_one.ensures.steps (λ clean is.
    let cause = subst (λ (p : Row). ChangesNotOne text p old new fault) params (c.in_err-change_one.ensures.cause clean) in
    let there = c.requires.there (omega (arith, c.change_one.ensures.steps.crash.clean)) in
    floor_unusable old new fault there.schema c.args.token (row_values c.args.row) cause is)
