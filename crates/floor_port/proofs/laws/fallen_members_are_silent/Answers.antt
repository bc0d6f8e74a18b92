use Rattle.floor_port.proofs.SilenceLemmas.{silent_bytes, silent_law, silent_same, stays_fallen}
use Rattle.floor_port.proofs.laws.fallen_members_are_silent.Goals as goal

pub returns-clause-without_bytes : goal.returns-clause-without_bytes
returns-clause-without_bytes c = silent_bytes

pub returns-clause-changes_nothing : goal.returns-clause-changes_nothing
returns-clause-changes_nothing c = silent_same

pub returns-clause-stays : goal.returns-clause-stays
returns-clause-stays c = stays_fallen

pub returns-clause-in_all_executions : goal.returns-clause-in_all_executions
returns-clause-in_all_executions c = silent_law
