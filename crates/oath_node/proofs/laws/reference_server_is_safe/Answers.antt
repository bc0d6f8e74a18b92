use Rattle.oath_node.proofs.SafetyLemmas.{run-entitled, run-real_time_order, run-single_use, run-spaced}
use Rattle.oath_node.proofs.laws.reference_server_is_safe.Goals as goal

pub returns-clause-single_use : goal.returns-clause-single_use
returns-clause-single_use c = run-single_use c.least_fit_is_least.ensures.some

pub returns-clause-in_order : goal.returns-clause-in_order
returns-clause-in_order c = run-real_time_order c.least_fit_is_least.ensures.some

pub returns-clause-entitled : goal.returns-clause-entitled
returns-clause-entitled c = run-entitled c.least_fit_is_least.ensures.some

pub returns-clause-spaced : goal.returns-clause-spaced
returns-clause-spaced c = run-spaced c.least_fit_is_least.ensures.some c.failures_are_spaced.ensures
