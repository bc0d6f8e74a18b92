-- Each clause is a lemma.
use Rattle.name_law.proofs.Datagrams.{is_vote}
use Rattle.name_law.proofs.Ports.{inputs_in_parts_law, inputs_law, offers_law, reads_law}
use Rattle.name_law.proofs.laws.named_ports_tell_envelopes.Goals as goal

pub returns-clause-inputs : goal.returns-clause-inputs
returns-clause-inputs c = λ names setting node boot known terms found taken calls left is place from read at. inputs_law names setting node terms boot known found taken calls left is place from read at

pub returns-clause-inputs_in_parts : goal.returns-clause-inputs_in_parts
returns-clause-inputs_in_parts c = λ names setting node boot known terms found parts calls left is entries i place from part read there at.
    inputs_in_parts_law names setting node terms boot known found parts calls left is entries i place from part read there at

pub returns-clause-reads : goal.returns-clause-reads
returns-clause-reads c = λ names node from terms calls offered read r h. reads_law names node terms calls offered from read r h

pub returns-clause-votes : goal.returns-clause-votes
returns-clause-votes c = λ names node from terms bytes h. is_vote names node from terms bytes h

pub returns-clause-offers : goal.returns-clause-offers
returns-clause-offers c = λ names node boot known terms calls own seated e. offers_law names node terms boot known calls own seated e
