use Rattle.oath_node.proofs.BoundLemmas.{outputs_few}
use Rattle.oath_node.proofs.laws.outputs_are_few.Goals as goal

pub returns : goal.returns
returns c = outputs_few
