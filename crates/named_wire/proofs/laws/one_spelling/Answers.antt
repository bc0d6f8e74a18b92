use Rattle.named_wire.proofs.TagLemmas.{again, reading_law}
use Rattle.named_wire.proofs.laws.one_spelling.Goals as goal

pub returns-clause-reading : goal.returns-clause-reading
returns-clause-reading c = reading_law

pub returns-clause-again : goal.returns-clause-again
returns-clause-again c = again
