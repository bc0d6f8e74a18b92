use Rattle.sealed_port.proofs.LatestLemmas.{marked_law, operators_marked_law}
use Rattle.sealed_port.proofs.latest_laws.nothing_is_opened_twice_over_boots.Goals as goal

pub returns-clause-lines : goal.returns-clause-lines
returns-clause-lines c = marked_law

pub returns-clause-requests : goal.returns-clause-requests
returns-clause-requests c = operators_marked_law
