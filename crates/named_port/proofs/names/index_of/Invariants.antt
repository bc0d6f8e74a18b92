use Rattle.named_port.proofs.NamesLemmas.{HasFrom}
use Rattle.named_port.proofs.names.index_of.Given as goal

-- the index has the names from the last place on
abbrev pub invariant-loop-number : goal.invariant-loop-number
invariant-loop-number l = HasFrom l.number l.names l.index
