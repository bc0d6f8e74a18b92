use Rattle.sealed_port.proofs.OpenLemmas.{opened_law}
use Rattle.sealed_port.proofs.laws.what_is_opened_is_sealed.Goals as goal

pub returns : goal.returns
returns c = opened_law
