use Rattle.sealed_wire.proofs.MakingLemmas.{one_tag_law, report_law}
use Rattle.sealed_wire.proofs.laws.reports_are_for_their_requests.Goals as goal

pub returns-clause-read : goal.returns-clause-read
returns-clause-read c = report_law

pub returns-clause-one_tag : goal.returns-clause-one_tag
returns-clause-one_tag c = one_tag_law
