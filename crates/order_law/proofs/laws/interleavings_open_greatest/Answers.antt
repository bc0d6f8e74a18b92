-- A lemma.
use Rattle.order_law.proofs.Devices.{opens_greatest}
use Rattle.order_law.proofs.laws.interleavings_open_greatest.Goals as goal

pub returns : goal.returns
returns c = opens_greatest
