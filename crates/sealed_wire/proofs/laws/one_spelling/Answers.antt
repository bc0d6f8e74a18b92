use Rattle.sealed_wire.proofs.TagLemmas.{again, client_law, reading_law, takes}
use Rattle.sealed_wire.proofs.laws.one_spelling.Goals as goal

pub returns-clause-reading : goal.returns-clause-reading
returns-clause-reading c = reading_law

pub returns-clause-again : goal.returns-clause-again
returns-clause-again c = again

pub returns-clause-client : goal.returns-clause-client
returns-clause-client c = client_law

pub returns-clause-head : goal.returns-clause-head
returns-clause-head c = λ key bound bytes text head e. (takes key bound bytes head text e).head_is
