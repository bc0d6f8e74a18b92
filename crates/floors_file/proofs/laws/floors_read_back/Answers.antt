use Rattle.floors_file.proofs.RoundLemmas.{floors_back}
use Rattle.floors_file.proofs.laws.floors_read_back.Goals as goal

pub returns : goal.returns
returns c = λ floors are. floors_back floors are
