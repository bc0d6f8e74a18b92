use Rattle.vote_wire.proofs.TagLemmas.{spelling_law, again_law, reading_law}
use Rattle.vote_wire.proofs.laws.one_spelling.Goals as goal

pub returns-clause-spelling : goal.returns-clause-spelling
returns-clause-spelling c = spelling_law

pub returns-clause-again : goal.returns-clause-again
returns-clause-again c = again_law

pub returns-clause-reading : goal.returns-clause-reading
returns-clause-reading c = reading_law
