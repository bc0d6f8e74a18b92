use Rattle.sealed_port.proofs.LatestLemmas.{lines_law, marks_law, operator_marks_law, requests_law}
use Rattle.sealed_port.proofs.latest_laws.what_is_opened_is_no_later.Goals as goal

pub returns-clause-lines : goal.returns-clause-lines
returns-clause-lines c = lines_law

pub returns-clause-requests : goal.returns-clause-requests
returns-clause-requests c = requests_law

pub returns-clause-marks : goal.returns-clause-marks
returns-clause-marks c = marks_law

pub returns-clause-marks_of_operators : goal.returns-clause-marks_of_operators
returns-clause-marks_of_operators c = operator_marks_law
