use Rattle.floor_port.proofs.SpellingLemmas.{body_again, body_back}
use Rattle.floor_port.proofs.laws.floors_one_spelling.Goals as goal

pub returns : goal.returns
returns c = λ floors body are. (body_again floors body, body_back floors body are)
