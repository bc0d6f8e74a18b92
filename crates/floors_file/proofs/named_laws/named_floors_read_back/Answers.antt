use Rattle.floors_file.proofs.NamedRoundLemmas.{named_back}
use Rattle.floors_file.proofs.named_laws.named_floors_read_back.Goals as goal

pub returns : goal.returns
returns c = λ key floors are. named_back key floors are
