use Rattle.named_port.proofs.RunLemmas.{offers_law}
use Rattle.named_port.proofs.laws.what_is_offered_is_the_nodes.Goals as goal

pub returns : goal.returns
returns c = λ key bytes known names me boot member calls. offers_law key names known me boot calls member bytes
