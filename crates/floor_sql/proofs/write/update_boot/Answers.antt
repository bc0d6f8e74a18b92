use Rattle.std.proofs.Common.{◌≡◌, pos, ◌∷◌, [], Ok, subst, rules, arith}
use Rattle.sqlite.specs.declared.types.Value.TheVariants.{Int}
use Rattle.sqlite.specs.Order.{Row}
use Rattle.sqlite.specs.Held.{state}
use Rattle.sqlite.specs.State.{Executes}
use Rattle.sqlite.specs.Values.{bound}
use Rattle.floor_sql.specs.Text.{update_boot as text}
use Rattle.floor_sql.proofs.BootLemmas.{boot_raised}
use Rattle.floor_sql.proofs.StepLemmas.{changes, refuses}
use Rattle.floor_sql.proofs.WriteLemmas.{boot_unusable}
use Rattle.floor_sql.proofs.write.update_boot.Goals as goal

pub returns : goal.returns
returns g c =
    let old = state g.S.Store c.args.tx.now.conn.now in
    let new = state g.S.Store c.change_one.new.tx.conn.now in
    let params : bound c.boot_params-params.result ≡ Int (pos c.args.boot) ∷ [] = search rules in
    changes c.in_ok-change_one.ensures.steps (λ clean.
    let ran = subst (λ (p : Row). Executes text p old new (Ok 1)) params (c.in_ok-change_one.ensures.ran clean) in
    boot_raised old new c.args.boot (c.requires.there (omega (arith, c.change_one.ensures.steps.crash.clean))) ran)

pub returns-in_err-change_one : goal.returns-in_err-change_one
returns-in_err-change_one g c =
    refuses c.from_residual.ensures.1 c.in_err-change_one.ensures.steps (λ clean is.
    let there = c.requires.there (omega (arith, c.change_one.ensures.steps.crash.clean)) in
    boot_unusable _ _ _ (there.0, there.1.schema) _ (c.in_err-change_one.ensures.cause clean) is)
