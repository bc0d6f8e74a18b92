use Rattle.sealed_port.proofs.CameLemmas.{both_law, line_law, no_request_law}
use Rattle.sealed_port.proofs.request_laws.lines_and_requests_are_apart.Goals as goal

pub returns-clause-line : goal.returns-clause-line
returns-clause-line c = line_law

pub returns-clause-request : goal.returns-clause-request
returns-clause-request c = no_request_law

pub returns-clause-both : goal.returns-clause-both
returns-clause-both c = both_law
