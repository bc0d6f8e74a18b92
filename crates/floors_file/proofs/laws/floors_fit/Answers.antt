use Rattle.floors_file.proofs.FitLemmas.{floors_short}
use Rattle.floors_file.proofs.laws.floors_fit.Goals as goal

pub returns : goal.returns
returns c = λ floors are. floors_short floors are
