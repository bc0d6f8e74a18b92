use Rattle.floor_port.proofs.ToldLemmas.{told_law}
use Rattle.floor_port.proofs.laws.what_is_told_is_the_nodes.Goals as goal

pub returns : goal.returns
returns c = told_law
