use Rattle.floor_port.proofs.HandLemmas.{fells_law}
use Rattle.floor_port.proofs.laws.falls_are_true.Goals as goal

pub returns : goal.returns
returns c = fells_law
