-- It is a lemma.
use Rattle.world_law.proofs.Enrolments.{are_enrolled}
use Rattle.world_law.proofs.laws.clusters_can_be_enrolled.Goals as goal

pub returns : goal.returns
returns c = λ cluster. are_enrolled cluster
