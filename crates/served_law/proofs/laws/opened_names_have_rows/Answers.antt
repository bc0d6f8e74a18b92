-- The rows are those after the new tokens were enrolled, and are read at their numbers.
use Rattle.std.proofs.Common.{sym, ◌∙◌}
use Rattle.sqlite.specs.Held as sql
use Rattle.served_law.proofs.Rows.{one_roster}
use Rattle.served_law.proofs.Seated.{rows_of_opened}
use Rattle.served_law.proofs.laws.opened_names_have_rows.Goals as goal

pub returns-clause-some : goal.returns-clause-some
returns-clause-some g c = λ cluster limits moment node book floors store counts opened clean. rows_of_opened g.S.Store g.D.Database.finds cluster limits moment node book floors store counts opened clean

pub returns-clause-one : goal.returns-clause-one
returns-clause-one g c = λ own other store rows others h k. one_roster (sql.state g.S.Store store.conn).now.trees rows others h.holds.roster k.holds.roster (h.holds.counted ∙ sym k.holds.counted)
