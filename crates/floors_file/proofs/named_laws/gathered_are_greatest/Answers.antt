use Rattle.floors_file.proofs.GreatestLemmas.{greatest_gathered}
use Rattle.floors_file.proofs.named_laws.gathered_are_greatest.Goals as goal

pub returns : goal.returns
returns c = λ files. greatest_gathered files
