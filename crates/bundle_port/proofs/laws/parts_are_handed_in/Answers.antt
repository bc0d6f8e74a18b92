use Rattle.bundle_port.proofs.LeftLemmas.{handed_law}
use Rattle.bundle_port.proofs.laws.parts_are_handed_in.Goals as goal

pub returns : goal.returns
returns c = handed_law
