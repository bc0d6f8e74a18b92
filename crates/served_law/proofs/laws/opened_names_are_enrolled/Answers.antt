-- It is a lemma.
use Rattle.served_law.proofs.Enrolled.{enrolled_opened}
use Rattle.served_law.proofs.laws.opened_names_are_enrolled.Goals as goal

pub returns : goal.returns
returns g c = λ cluster limits moment node book floors store counts names rows setting opened its members. enrolled_opened g.S.Store g.D.Database.finds cluster limits moment node book floors store counts names rows setting opened its members
