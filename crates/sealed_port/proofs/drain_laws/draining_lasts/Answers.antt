use Rattle.sealed_port.proofs.DrainLemmas.{handed_law, lasts_law, nothing_law}
use Rattle.sealed_port.proofs.drain_laws.draining_lasts.Goals as goal

pub returns-clause-lasts : goal.returns-clause-lasts
returns-clause-lasts c = lasts_law

pub returns-clause-hands_in : goal.returns-clause-hands_in
returns-clause-hands_in c = handed_law

pub returns-clause-answers_nothing : goal.returns-clause-answers_nothing
returns-clause-answers_nothing c = nothing_law
