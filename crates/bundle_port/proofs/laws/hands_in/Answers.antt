use Rattle.bundle_port.proofs.HandLemmas.{hands_law}
use Rattle.bundle_port.proofs.laws.hands_in.Goals as goal

pub returns : goal.returns
returns c = hands_law
