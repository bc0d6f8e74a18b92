use Rattle.bundle_port.proofs.SentLemmas.{sent_law}
use Rattle.bundle_port.proofs.laws.parts_are_offers.Goals as goal

pub returns : goal.returns
returns c = sent_law
