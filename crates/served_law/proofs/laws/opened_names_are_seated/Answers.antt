-- It is a lemma.
use Rattle.served_law.proofs.Seated.{seated_opened}
use Rattle.served_law.proofs.laws.opened_names_are_seated.Goals as goal

pub returns : goal.returns
returns g c = λ cluster limits moment node book floors store counts names rows terms opened its of_book of_seats. seated_opened g.S.Store g.D.Database.finds cluster limits moment node book floors store counts names rows terms opened its of_book of_seats
