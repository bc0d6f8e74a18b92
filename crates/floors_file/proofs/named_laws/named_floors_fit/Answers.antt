use Rattle.floors_file.proofs.NamedFitLemmas.{named_floors_short}
use Rattle.floors_file.proofs.named_laws.named_floors_fit.Goals as goal

pub returns : goal.returns
returns c = λ key floors are. named_floors_short key floors are
