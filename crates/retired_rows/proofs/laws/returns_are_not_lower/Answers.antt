use Rattle.retired_rows.proofs.StayLemmas.{raised_stays, returns_no_lower}
use Rattle.retired_rows.proofs.laws.returns_are_not_lower.Goals as goal

pub returns-clause-same : goal.returns-clause-same
returns-clause-same c = raised_stays

pub returns-clause-of_each_row : goal.returns-clause-of_each_row
returns-clause-of_each_row c = returns_no_lower
