-- Each run is computed.
use Rattle.std.proofs.Common.{refl}
use Rattle.std.specs.Fmt.{digits}
use Rattle.vote_core.specs.Voting.{tick}
use Rattle.oath_node.specs.Machine.{made_by_datagram, made_by_event, made_by_proposal, made_by_ruling, made_while_running}
use Rattle.oath_node.proofs.turn_laws.entries_are_worked.Goals as goal

pub returns-clause-quiet : goal.returns-clause-quiet
unfolding made_by_event made_while_running made_by_ruling made_by_proposal made_by_datagram tick digits
returns-clause-quiet c = refl

pub returns-clause-fault : goal.returns-clause-fault
unfolding made_by_event made_while_running made_by_ruling made_by_proposal made_by_datagram tick digits
returns-clause-fault c = refl

pub returns-clause-tick_64th : goal.returns-clause-tick_64th
unfolding made_by_event made_while_running made_by_ruling made_by_proposal made_by_datagram tick digits
returns-clause-tick_64th c = refl

pub returns-clause-tick_of_a_batch : goal.returns-clause-tick_of_a_batch
unfolding made_by_event made_while_running made_by_ruling made_by_proposal made_by_datagram tick digits
returns-clause-tick_of_a_batch c = refl
