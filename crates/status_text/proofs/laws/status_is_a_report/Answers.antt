use Rattle.status_text.proofs.StatusLemmas.{are_lines, is_line}
use Rattle.status_text.proofs.laws.status_is_a_report.Goals as goal

pub returns-clause-line : goal.returns-clause-line
returns-clause-line c line is = is_line line is

pub returns-clause-lines : goal.returns-clause-lines
returns-clause-lines c lines each few = are_lines lines each few
