-- Each run is computed.
use Rattle.std.proofs.Common.{[], ◌∷◌, refl}
use Rattle.std.specs.Fmt.{digits}
use Rattle.vote_core.specs.Voting.{tick}
use Rattle.oath_node.specs.Machine.{made_by_datagram, made_by_event, made_by_proposal, made_by_ruling, made_while_running}
use Rattle.oath_node.specs.TurnExamples.{no_line}
use Rattle.oath_node.specs.Turns.{Failure, Nothing}
use Rattle.oath_node.proofs.turn_laws.batches_are_worked.Goals as goal

pub returns-clause-lines : goal.returns-clause-lines
unfolding made_by_event made_while_running made_by_ruling made_by_proposal made_by_datagram tick digits
returns-clause-lines c = refl

pub returns-clause-one_by_one : goal.returns-clause-one_by_one
unfolding made_by_event made_while_running made_by_ruling made_by_proposal made_by_datagram tick digits
returns-clause-one_by_one c = refl

pub returns-clause-tick : goal.returns-clause-tick
unfolding made_by_event made_while_running made_by_ruling made_by_proposal made_by_datagram tick digits
returns-clause-tick c = refl

pub returns-clause-lines_and_tick : goal.returns-clause-lines_and_tick
unfolding made_by_event made_while_running made_by_ruling made_by_proposal made_by_datagram tick digits
returns-clause-lines_and_tick c = refl

pub returns-clause-fault : goal.returns-clause-fault
unfolding made_by_event made_while_running made_by_ruling made_by_proposal made_by_datagram tick digits
returns-clause-fault c = refl

pub returns-clause-last_fault : goal.returns-clause-last_fault
unfolding made_by_event made_while_running made_by_ruling made_by_proposal made_by_datagram tick digits
returns-clause-last_fault c = refl

pub returns-clause-too_many_faults : goal.returns-clause-too_many_faults
unfolding made_by_event made_while_running made_by_ruling made_by_proposal made_by_datagram tick digits
returns-clause-too_many_faults c = refl

pub returns-clause-clock : goal.returns-clause-clock
unfolding made_by_event made_while_running made_by_ruling made_by_proposal made_by_datagram tick digits
returns-clause-clock c = refl

pub returns-clause-whole : goal.returns-clause-whole
returns-clause-whole c = (
  record { before = no_line ∷ []; last = no_line; is = refl; goes_on = (refl, tt) },
  (
    record { before = no_line ∷ []; last = Failure; is = refl; goes_on = (refl, tt) },
    (record { before = []; last = Nothing; is = refl; goes_on = tt }, tt),
  ),
)
