-- The names of the book are those of its seats.
use Rattle.served_law.proofs.Seated.{translator_of_opened}
use Rattle.served_law.proofs.laws.named_translators_are_first.Goals as goal

pub returns : goal.returns
returns g c = λ cluster moment node serving book floors store counts names rows boot known opened its. translator_of_opened g.S.Store g.D.Database.finds cluster moment node serving book floors store counts names rows boot known opened its
