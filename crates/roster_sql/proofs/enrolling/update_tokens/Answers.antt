use Rattle.std.proofs.Common.{◌≡◌, pos, [], ◌∷◌, Ok, subst, arith}
use Rattle.sqlite.specs.declared.types.Value.TheVariants.{Int}
use Rattle.sqlite.specs.Values.{bound}
use Rattle.sqlite.specs.Order.{Row}
use Rattle.sqlite.specs.Held.{state}
use Rattle.sqlite.specs.State.{Executes}
use Rattle.floor_sql.proofs.StepLemmas.{changes, refuses}
use Rattle.roster_sql.specs.Text.{update_tokens as text}
use Rattle.roster_sql.proofs.EnrolLemmas.{tokens_set, tokens_unusable}
use Rattle.roster_sql.proofs.enrolling.update_tokens.Goals as goal

pub returns : goal.returns
returns g c =
    let old = state g.S.Store c.args.tx.now.conn.now in
    let new = state g.S.Store c.change_one.new.tx.conn.now in
    let params : bound c.token_params-params.result ≡ Int (pos c.args.tokens) ∷ [] = c.token_params-params.ensures in
    changes c.in_ok-change_one.ensures.steps (λ clean.
    let ran = subst (λ (p : Row). Executes text p old new (Ok 1)) params (c.in_ok-change_one.ensures.ran clean) in
    tokens_set old new c.args.tokens (c.requires.there (omega (arith, c.change_one.ensures.steps.crash.clean))) ran)

pub returns-in_err-change_one : goal.returns-in_err-change_one
returns-in_err-change_one g c =
    refuses c.from_residual.ensures.1 c.in_err-change_one.ensures.steps (λ clean is.
    let there = c.requires.there (omega (arith, c.change_one.ensures.steps.crash.clean)) in
    tokens_unusable _ _ _ there.schema _ (c.in_err-change_one.ensures.cause clean) is)
