use Rattle.oathd_words.proofs.WordsLemmas.{where_none}
use Rattle.oathd_words.proofs.words.node_task.Goals as goal

pub returns-in_err-address-clause-none : goal.returns-in_err-address-clause-none
returns-in_err-address-clause-none c =
    where_none c.from_residual-in_err-address.result _ (λ address node operator inquiry asks. c.in_err-address.ensures.none address asks.at)

pub returns-in_err-node-clause-none : goal.returns-in_err-node-clause-none
returns-in_err-node-clause-none c =
    where_none c.from_residual-in_err-node.result _ (λ address node operator inquiry asks. c.in_err-node.ensures.none node asks.number)
