use Rattle.std.proofs.Common.{arith}
use Rattle.floor_sql.proofs.StepLemmas.{changes, refuses}
use Rattle.roster_sql.proofs.MakingLemmas.{roster_made, creates_roster}
use Rattle.roster_sql.proofs.making.create_roster.Goals as goal

pub returns : goal.returns
returns g c = changes c.in_ok-_none.ensures.steps
    (λ clean. creates_roster _ _ _ (c.requires.schema (omega (arith, c.run.ensures.steps.crash.clean))) (c.in_ok-_none.ensures.ran clean))

pub returns-in_err-_none : goal.returns-in_err-_none
returns-in_err-_none g c = refuses c.from_residual.ensures.1 c.in_err-_none.ensures.steps
    (λ clean. roster_made _ _ _ (c.requires.schema (omega (arith, c.run.ensures.steps.crash.clean))) (c.in_err-_none.ensures.cause clean))
