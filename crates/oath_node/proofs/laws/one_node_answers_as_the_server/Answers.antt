use Rattle.oath_node.proofs.AloneLemmas.{line_alone, line_runs}
use Rattle.oath_node.proofs.laws.one_node_answers_as_the_server.Goals as goal

pub returns-clause-runs : goal.returns-clause-runs
returns-clause-runs c = line_runs

pub returns-clause-serves : goal.returns-clause-serves
returns-clause-serves c = line_alone c.gate_keeps_throttle.ensures.failed c.least_fit_is_least.ensures.some
