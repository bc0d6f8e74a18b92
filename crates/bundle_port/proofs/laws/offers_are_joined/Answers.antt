use Rattle.bundle_port.proofs.JoinLemmas.{join_law}
use Rattle.bundle_port.proofs.laws.offers_are_joined.Goals as goal

pub returns : goal.returns
returns c = join_law
