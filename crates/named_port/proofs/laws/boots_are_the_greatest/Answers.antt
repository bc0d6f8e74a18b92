use Rattle.named_port.proofs.RunLemmas.{heard_law}
use Rattle.named_port.proofs.laws.boots_are_the_greatest.Goals as goal

pub returns : goal.returns
returns c = heard_law
