use Rattle.floors_file.proofs.NamedSpellingLemmas.{spelled_so}
use Rattle.floors_file.proofs.named_laws.named_floors_one_spelling.Goals as goal

pub returns : goal.returns
returns c = λ key text floors e. spelled_so key text floors e
