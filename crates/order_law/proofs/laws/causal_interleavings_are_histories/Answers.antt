-- By induction over the items.
use Rattle.order_law.proofs.Causes.{is_history}
use Rattle.order_law.proofs.laws.causal_interleavings_are_histories.Goals as goal

pub returns : goal.returns
returns c = is_history
