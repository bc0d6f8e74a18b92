use Rattle.oath_node.proofs.FailureLemmas.{faults_out, same_run}
use Rattle.oath_node.proofs.turn_laws.faults_change_no_offer.Goals as goal

pub returns : goal.returns
returns c = λ member receipts start going end. faults_out member receipts start start (same_run start) going going end
