use Rattle.oathd_serving.proofs.WordsLemmas.{lines_in_file}
use Rattle.oathd_serving.proofs.serving.lines_of.Goals as goal

pub returns-in_ok-clients_at-in-Named-clause-lines : goal.returns-in_ok-clients_at-in-Named-clause-lines
returns-in_ok-clients_at-in-Named-clause-lines c =
    lines_in_file c.args.clients _ _ c.in-Named.is c.in_ok-clients_at-in-Named.ensures.clients
