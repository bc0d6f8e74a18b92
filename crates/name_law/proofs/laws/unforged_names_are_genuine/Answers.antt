-- It is a lemma.
use Rattle.name_law.proofs.Unforged.{unforged}
use Rattle.name_law.proofs.laws.unforged_names_are_genuine.Goals as goal

pub returns : goal.returns
returns c = λ names setting history sized h. unforged c.rulings_have_grounds.ensures.grounds names setting history sized h
