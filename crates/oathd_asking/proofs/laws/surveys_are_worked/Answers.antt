use Rattle.std.proofs.Common.{refl}
use Rattle.std.specs.Fmt.{digits}
use Rattle.oathd_asking.specs.Table.{begin_text, heard_text, prints_text, silent_text, told_text}
use Rattle.oathd_asking.proofs.laws.surveys_are_worked.Goals as goal

pub returns-clause-table : goal.returns-clause-table
unfolding begin_text heard_text prints_text told_text silent_text digits
returns-clause-table c = refl
