use Rattle.std.proofs.Common.{◌∙◌, sym}
use Rattle.oathd_database.specs.Made.{has_step}
use Rattle.oathd_database.proofs.MadeLemmas.{fails, passes}
use Rattle.oathd_database.proofs.made.has_steps.Goals as goal

pub returns-then-has_step : goal.returns-then-has_step
returns-then-has_step c =
    passes (has_step c.args.step) c.args.book.now c.loop-number.number c.token_at.result.now c.token_at.ensures c.loop-number.invariant
    (sym c.has_step.ensures ∙ c.if-has_step.true)

pub loop-number-preserved : goal.loop-number-preserved
loop-number-preserved c =
    fails (has_step c.args.step) c.args.book.now c.loop-number.number c.token_at.result.now c.token_at.ensures c.loop-number.invariant
    (sym c.has_step.ensures ∙ c.if-has_step.false)
