-- It is a lemma.
use Rattle.book_law.proofs.Noted.{history_noted}
use Rattle.book_law.proofs.laws.results_are_noted.Goals as goal

pub returns : goal.returns
returns c = λ setting history node token is leaves. history_noted c.rulings_have_grounds.ensures.grounds setting history node token is leaves
