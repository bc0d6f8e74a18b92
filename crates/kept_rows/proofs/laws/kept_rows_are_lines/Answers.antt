use Rattle.kept_rows.proofs.KeptLemmas.{kept_is_short, lines_are_kept}
use Rattle.kept_rows.proofs.laws.kept_rows_are_lines.Goals as goal

pub returns : goal.returns
returns c = record { lines = lines_are_kept; short = kept_is_short }
