use Rattle.named_port.proofs.SpellingLemmas.{named_of_message}
use Rattle.named_port.proofs.WireLemmas.{named_law, numbered_at_law}
use Rattle.named_port.proofs.laws.named_one_spelling.Goals as goal

pub returns-clause-named : goal.returns-clause-named
returns-clause-named c = λ key name names boot from to message. named_law key names boot from to name message

pub returns-clause-numbered : goal.returns-clause-numbered
returns-clause-numbered c = λ key name names boot from to message. numbered_at_law key names boot from to name message

pub returns-clause-read : goal.returns-clause-read
returns-clause-read c = λ key bytes body out names head from to message. named_of_message key names head bytes body out from to message
