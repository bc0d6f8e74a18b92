-- By induction over the items.
use Rattle.named_order_law.proofs.Bytes.{is_unforged}
use Rattle.named_order_law.proofs.laws.unforged_interleavings_are_genuine.Goals as goal

pub returns : goal.returns
returns c = is_unforged
