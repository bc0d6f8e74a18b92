use Rattle.sealed_port.proofs.LifeLemmas.{gates_law}
use Rattle.sealed_port.proofs.RunLemmas.{once_law}
use Rattle.sealed_port.proofs.laws.nothing_is_opened_twice.Goals as goal

pub returns-clause-once : goal.returns-clause-once
returns-clause-once c = once_law

pub returns-clause-over_lives : goal.returns-clause-over_lives
returns-clause-over_lives c = gates_law
