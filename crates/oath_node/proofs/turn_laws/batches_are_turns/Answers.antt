use Rattle.std.proofs.Common.{refl}
use Rattle.oath_node.proofs.OrderLemmas.{batch_few, batch_of_one, batches_order, comes, faults_out_of_batches}
use Rattle.oath_node.proofs.turn_laws.batches_are_turns.Goals as goal

pub returns-clause-order : goal.returns-clause-order
returns-clause-order c = λ member batches start formed. batches_order member batches start start start.end refl formed (comes start)

pub returns-clause-one : goal.returns-clause-one
returns-clause-one c = λ member receipt start. batch_of_one member receipt start

pub returns-clause-failures : goal.returns-clause-failures
returns-clause-failures c = λ member batches start formed going end. faults_out_of_batches member batches start formed going end

pub returns-clause-few : goal.returns-clause-few
returns-clause-few c = λ received batch is. batch_few received batch is
