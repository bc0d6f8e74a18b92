use Rattle.sealed_wire.proofs.ReportLemmas.{reading_law, report_again}
use Rattle.sealed_wire.proofs.laws.one_report.Goals as goal

pub returns-clause-reading : goal.returns-clause-reading
returns-clause-reading c = reading_law

pub returns-clause-again : goal.returns-clause-again
returns-clause-again c = report_again
