use Rattle.clap.specs.Matches.{found_of}
use Rattle.oathd_words.proofs.WordsLemmas.{no_init_node, where_none}
use Rattle.oathd_words.proofs.store_words.remake.Goals as goal

pub returns-in_err-node-clause-none : goal.returns-in_err-node-clause-none
returns-in_err-node-clause-none c =
    where_none c.from_residual.result _ (no_init_node (found_of c.args.matches.now) c.in_err-node.ensures.none)
