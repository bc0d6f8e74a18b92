use Rattle.floor_port.proofs.HandLemmas.{hands_law}
use Rattle.floor_port.proofs.laws.what_is_handed_in_was_told.Goals as goal

pub returns : goal.returns
returns c = hands_law
