use Rattle.std.proofs.Common.{arith}
use Rattle.floor_sql.proofs.StepLemmas.{changes, refuses}
use Rattle.roster_renewal.proofs.DropLemmas.{drops, never_of_text}
use Rattle.roster_renewal.proofs.TextLemmas.{floor_dropped}
use Rattle.roster_renewal.proofs.dropping.drop_floor.Goals as goal

pub returns : goal.returns
returns g c = changes c.in_ok-_none.ensures.steps
    (λ clean. drops floor_dropped _ _ (c.requires.schema (omega (arith, c.run.ensures.steps.crash.clean))) _ (c.in_ok-_none.ensures.ran clean))

pub returns-in_err-_none : goal.returns-in_err-_none
returns-in_err-_none g c = refuses c.from_residual.ensures.1 c.in_err-_none.ensures.steps
    (λ clean. never_of_text floor_dropped _ _ (c.requires.schema (omega (arith, c.run.ensures.steps.crash.clean))) _ (c.in_err-_none.ensures.cause clean))
