use Rattle.sealed_port.proofs.RequestLemmas.{request_law}
use Rattle.sealed_port.proofs.request_laws.what_is_set_aside_is_sealed.Goals as goal

pub returns : goal.returns
returns c = request_law
