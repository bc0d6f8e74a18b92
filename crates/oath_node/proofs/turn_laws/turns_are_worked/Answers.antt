-- Each run is computed.
use Rattle.std.proofs.Common.{refl}
use Rattle.std.specs.Fmt.{digits}
use Rattle.hmac_core.specs.Unfolded.sha256_steps
use Rattle.vote_core.specs.Voting.{tick}
use Rattle.vote_wire.specs.Body.{body_at}
use Rattle.vote_wire.specs.Datagram.{datagram_at}
use Rattle.vote_wire.specs.Key.{tag_of}
use Rattle.oath_node.specs.Machine.{made_by_datagram, made_by_event, made_by_proposal, made_by_ruling, made_while_running}
use Rattle.oath_node.proofs.turn_laws.turns_are_worked.Goals as goal

pub returns-clause-quiet : goal.returns-clause-quiet
unfolding made_by_event made_while_running made_by_ruling made_by_proposal made_by_datagram tick digits
returns-clause-quiet c = refl

pub returns-clause-lines : goal.returns-clause-lines
unfolding made_by_event made_while_running made_by_ruling made_by_proposal made_by_datagram tick digits
returns-clause-lines c = refl

pub returns-clause-before_64th : goal.returns-clause-before_64th
unfolding made_by_event made_while_running made_by_ruling made_by_proposal made_by_datagram tick digits
returns-clause-before_64th c = refl

pub returns-clause-members_count : goal.returns-clause-members_count
unfolding made_by_event made_while_running made_by_ruling made_by_proposal made_by_datagram tick digits datagram_at tag_of body_at sha256_steps.first_words sha256_steps.schedule sha256_steps.rounds sha256_steps.compress sha256_steps.hash_after sha256_steps.digest_bytes sha256_steps.sha256
returns-clause-members_count c = refl

pub returns-clause-faults : goal.returns-clause-faults
unfolding made_by_event made_while_running made_by_ruling made_by_proposal made_by_datagram tick digits
returns-clause-faults c = refl

pub returns-clause-too_many_faults : goal.returns-clause-too_many_faults
unfolding made_by_event made_while_running made_by_ruling made_by_proposal made_by_datagram tick digits
returns-clause-too_many_faults c = refl

pub returns-clause-faults_apart : goal.returns-clause-faults_apart
unfolding made_by_event made_while_running made_by_ruling made_by_proposal made_by_datagram tick digits
returns-clause-faults_apart c = refl

pub returns-clause-clock : goal.returns-clause-clock
unfolding made_by_event made_while_running made_by_ruling made_by_proposal made_by_datagram tick digits
returns-clause-clock c = refl

pub returns-clause-asked : goal.returns-clause-asked
unfolding made_by_event made_while_running made_by_ruling made_by_proposal made_by_datagram tick digits
returns-clause-asked c = refl

pub returns-clause-faults_apart_by_noise : goal.returns-clause-faults_apart_by_noise
unfolding made_by_event made_while_running made_by_ruling made_by_proposal made_by_datagram tick digits datagram_at tag_of body_at sha256_steps.first_words sha256_steps.schedule sha256_steps.rounds sha256_steps.compress sha256_steps.hash_after sha256_steps.digest_bytes sha256_steps.sha256
returns-clause-faults_apart_by_noise c = refl

pub returns-clause-faults_apart_by_a_line : goal.returns-clause-faults_apart_by_a_line
unfolding made_by_event made_while_running made_by_ruling made_by_proposal made_by_datagram tick digits
returns-clause-faults_apart_by_a_line c = refl
