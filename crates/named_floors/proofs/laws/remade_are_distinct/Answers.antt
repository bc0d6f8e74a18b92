use Rattle.named_floors.proofs.KeptLemmas.{remade_distinct}
use Rattle.named_floors.proofs.laws.remade_are_distinct.Goals as goal

pub returns : goal.returns
returns c = remade_distinct
