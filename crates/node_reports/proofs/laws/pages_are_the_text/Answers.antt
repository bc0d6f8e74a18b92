use Rattle.std.proofs.Common.{◌∙◌}
use Rattle.operator_text.proofs.PagesLemmas.{whole_report}
use Rattle.node_reports.specs.Text.{lines_of}
use Rattle.node_reports.proofs.laws.pages_are_the_text.Goals as goal

pub returns-clause-joined : goal.returns-clause-joined
returns-clause-joined c text is = (whole_report (lines_of text) is.lines).lines ∙ is.whole

pub returns-clause-whole : goal.returns-clause-whole
returns-clause-whole c text is = (whole_report (lines_of text) is.lines).ends
