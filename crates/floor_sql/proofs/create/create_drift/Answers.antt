use Rattle.std.proofs.Common.{arith}
use Rattle.floor_sql.proofs.CreateLemmas.{drift_made, creates_drift}
use Rattle.floor_sql.proofs.StepLemmas.{changes, refuses}
use Rattle.floor_sql.proofs.create.create_drift.Goals as goal

pub returns : goal.returns
returns g c = changes c.in_ok-_none.ensures.steps
    (λ clean. creates_drift _ _ _ (c.requires.schema (omega (arith, c.run.ensures.steps.crash.clean))) (c.in_ok-_none.ensures.ran clean))

pub returns-in_err-_none : goal.returns-in_err-_none
returns-in_err-_none g c = refuses c.from_residual.ensures.1 c.in_err-_none.ensures.steps
    (λ clean. drift_made _ _ _ (c.requires.schema (omega (arith, c.run.ensures.steps.crash.clean))) (c.in_err-_none.ensures.cause clean))
