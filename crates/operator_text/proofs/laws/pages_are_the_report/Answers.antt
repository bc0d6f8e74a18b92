use Rattle.operator_text.proofs.PagesLemmas.{goes_on, whole_report}
use Rattle.operator_text.proofs.laws.pages_are_the_report.Goals as goal

pub returns-clause-joined : goal.returns-clause-joined
returns-clause-joined c lines are = (whole_report lines are).lines

pub returns-clause-whole : goal.returns-clause-whole
returns-clause-whole c lines are = (whole_report lines are).ends

pub returns-clause-onward : goal.returns-clause-onward
returns-clause-onward c lines from are inside = goes_on lines from are inside
