-- Each clause is a lemma.
use Rattle.order_law.proofs.Walk.{nodes, offered}
use Rattle.order_law.proofs.laws.interleavings_are_actions.Goals as goal

pub returns-clause-nodes : goal.returns-clause-nodes
returns-clause-nodes c = nodes

pub returns-clause-offered : goal.returns-clause-offered
returns-clause-offered c = offered
