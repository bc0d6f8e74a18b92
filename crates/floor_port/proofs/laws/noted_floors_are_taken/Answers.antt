use Rattle.floor_port.proofs.TakenLemmas.{left_law, noted_law}
use Rattle.floor_port.proofs.laws.noted_floors_are_taken.Goals as goal

pub returns-clause-noted : goal.returns-clause-noted
returns-clause-noted c = noted_law

pub returns-clause-left : goal.returns-clause-left
returns-clause-left c = left_law
