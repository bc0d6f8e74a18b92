use Rattle.retired_rows.proofs.RenewLemmas.{renewed_is, passes_are}
use Rattle.retired_rows.proofs.laws.renewed_content_is.Goals as goal

pub returns-clause-content : goal.returns-clause-content
returns-clause-content c = renewed_is

pub returns-clause-passes : goal.returns-clause-passes
returns-clause-passes c = passes_are
