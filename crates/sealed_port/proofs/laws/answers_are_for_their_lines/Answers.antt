use Rattle.sealed_port.proofs.RunLemmas.{answer_law}
use Rattle.sealed_port.proofs.WorldLemmas.{world_law}
use Rattle.sealed_port.proofs.laws.answers_are_for_their_lines.Goals as goal

pub returns-clause-sealed : goal.returns-clause-sealed
returns-clause-sealed c = answer_law

pub returns-clause-read : goal.returns-clause-read
returns-clause-read c = world_law
