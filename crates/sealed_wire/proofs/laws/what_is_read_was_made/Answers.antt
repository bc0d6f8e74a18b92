use Rattle.sealed_wire.proofs.MakingLemmas.{made_law}
use Rattle.sealed_wire.proofs.laws.what_is_read_was_made.Goals as goal

pub returns : goal.returns
returns c = made_law
