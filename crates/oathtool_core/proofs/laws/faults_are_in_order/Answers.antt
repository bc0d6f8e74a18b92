use Rattle.oathtool_core.proofs.OrderLemmas.{bad_key_next, bad_step_size_next, bad_time_first, first_fault_next, none_left, range_next}
use Rattle.oathtool_core.proofs.laws.faults_are_in_order.Goals as goal

pub returns-clause-time : goal.returns-clause-time
returns-clause-time c = bad_time_first

pub returns-clause-step_size : goal.returns-clause-step_size
returns-clause-step_size c = bad_step_size_next

pub returns-clause-key : goal.returns-clause-key
returns-clause-key c = bad_key_next

pub returns-clause-first : goal.returns-clause-first
returns-clause-first c = first_fault_next

pub returns-clause-range : goal.returns-clause-range
returns-clause-range c =
    λ words clock fault times secret first has key e above s. range_next words clock fault times secret first has key e s

pub returns-clause-none : goal.returns-clause-none
returns-clause-none c = none_left
