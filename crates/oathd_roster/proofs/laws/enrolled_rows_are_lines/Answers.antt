use Rattle.kept_rows.proofs.KeptLemmas.{lines_are_kept}
use Rattle.oathd_roster.specs.Enrolled.{is_enrolled}
use Rattle.oathd_roster.proofs.laws.enrolled_rows_are_lines.Goals as goal

pub returns : goal.returns
returns c salt limits roster text = lines_are_kept (is_enrolled salt limits roster) text
