use Rattle.floor_sql.proofs.StepLemmas.{changes}
use Rattle.roster_renewal.proofs.renewing.write_puts.Goals as goal

pub returns-in-Ok-clause-changes : goal.returns-in-Ok-clause-changes
returns-in-Ok-clause-changes g c = changes c.in-Ok.ensures.changes.steps c.in-Ok.ensures.changes.made
