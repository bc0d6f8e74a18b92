use Rattle.sealed_port.proofs.ReportLemmas.{report_world_law, sealed_for_request}
use Rattle.sealed_port.proofs.request_laws.reports_are_for_their_requests.Goals as goal

pub returns-clause-sealed : goal.returns-clause-sealed
returns-clause-sealed c = sealed_for_request

pub returns-clause-read : goal.returns-clause-read
returns-clause-read c = report_world_law
