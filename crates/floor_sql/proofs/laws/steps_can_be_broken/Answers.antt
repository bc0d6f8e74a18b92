-- A transaction in which nothing has happened yet.
use Rattle.floor_sql.proofs.StepLemmas.{begins}
use Rattle.floor_sql.proofs.laws.steps_can_be_broken.Goals as goal

pub returns-clause-steps : goal.returns-clause-steps
returns-clause-steps g c = λ tx inside. begins tx (λ clean. inside)

pub returns-clause-changes : goal.returns-clause-changes
returns-clause-changes g c = λ tx inside. record {
  steps = begins tx (λ clean. inside);
  made = λ clean. tt;
  unusable = λ clean. tt;
}
