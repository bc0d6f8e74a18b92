-- Each step is computed, the codes with it.
use Rattle.std.proofs.Common.{refl}
use Rattle.std.specs.Fmt.{digits}
use Rattle.admit_core.specs.Fit.{code_at}
use Rattle.hmac_core.specs.Unfolded.sha1_steps
use Rattle.vote_core.specs.Voting.{propose, propose_alone, propose_among, on_ask, accept, count_grant, on_grant, raise, count_deny, on_deny, on_floor, on_message, tick}
use Rattle.oath_node.specs.Machine.{made_by_datagram, made_by_event, made_by_proposal, made_by_ruling, made_while_running}
use Rattle.oath_node.proofs.laws.events_are_worked.Goals as goal

pub returns-clause-bad_line : goal.returns-clause-bad_line
unfolding made_by_event made_while_running made_by_ruling made_by_proposal made_by_datagram propose propose_alone propose_among on_message on_ask on_grant count_grant accept on_deny raise count_deny on_floor tick code_at digits sha1_steps.first_words sha1_steps.schedule sha1_steps.rounds sha1_steps.compress sha1_steps.hash_after sha1_steps.digest_bytes sha1_steps.sha1
returns-clause-bad_line c = refl

pub returns-clause-again : goal.returns-clause-again
unfolding made_by_event made_while_running made_by_ruling made_by_proposal made_by_datagram propose propose_alone propose_among on_message on_ask on_grant count_grant accept on_deny raise count_deny on_floor tick code_at digits sha1_steps.first_words sha1_steps.schedule sha1_steps.rounds sha1_steps.compress sha1_steps.hash_after sha1_steps.digest_bytes sha1_steps.sha1
returns-clause-again c = refl

pub returns-clause-another_client : goal.returns-clause-another_client
unfolding made_by_event made_while_running made_by_ruling made_by_proposal made_by_datagram propose propose_alone propose_among on_message on_ask on_grant count_grant accept on_deny raise count_deny on_floor tick code_at digits sha1_steps.first_words sha1_steps.schedule sha1_steps.rounds sha1_steps.compress sha1_steps.hash_after sha1_steps.digest_bytes sha1_steps.sha1
returns-clause-another_client c = refl

pub returns-clause-waiting : goal.returns-clause-waiting
unfolding made_by_event made_while_running made_by_ruling made_by_proposal made_by_datagram propose propose_alone propose_among on_message on_ask on_grant count_grant accept on_deny raise count_deny on_floor tick code_at digits sha1_steps.first_words sha1_steps.schedule sha1_steps.rounds sha1_steps.compress sha1_steps.hash_after sha1_steps.digest_bytes sha1_steps.sha1
returns-clause-waiting c = refl

pub returns-clause-unknown : goal.returns-clause-unknown
unfolding made_by_event made_while_running made_by_ruling made_by_proposal made_by_datagram propose propose_alone propose_among on_message on_ask on_grant count_grant accept on_deny raise count_deny on_floor tick code_at digits sha1_steps.first_words sha1_steps.schedule sha1_steps.rounds sha1_steps.compress sha1_steps.hash_after sha1_steps.digest_bytes sha1_steps.sha1
returns-clause-unknown c = refl

pub returns-clause-busy : goal.returns-clause-busy
unfolding made_by_event made_while_running made_by_ruling made_by_proposal made_by_datagram propose propose_alone propose_among on_message on_ask on_grant count_grant accept on_deny raise count_deny on_floor tick code_at digits sha1_steps.first_words sha1_steps.schedule sha1_steps.rounds sha1_steps.compress sha1_steps.hash_after sha1_steps.digest_bytes sha1_steps.sha1
returns-clause-busy c = refl

pub returns-clause-wrong : goal.returns-clause-wrong
unfolding made_by_event made_while_running made_by_ruling made_by_proposal made_by_datagram propose propose_alone propose_among on_message on_ask on_grant count_grant accept on_deny raise count_deny on_floor tick code_at digits sha1_steps.first_words sha1_steps.schedule sha1_steps.rounds sha1_steps.compress sha1_steps.hash_after sha1_steps.digest_bytes sha1_steps.sha1
returns-clause-wrong c = refl

pub returns-clause-alone : goal.returns-clause-alone
unfolding made_by_event made_while_running made_by_ruling made_by_proposal made_by_datagram propose propose_alone propose_among on_message on_ask on_grant count_grant accept on_deny raise count_deny on_floor tick code_at digits sha1_steps.first_words sha1_steps.schedule sha1_steps.rounds sha1_steps.compress sha1_steps.hash_after sha1_steps.digest_bytes sha1_steps.sha1
returns-clause-alone c = refl

pub returns-clause-among : goal.returns-clause-among
unfolding made_by_event made_while_running made_by_ruling made_by_proposal made_by_datagram propose propose_alone propose_among on_message on_ask on_grant count_grant accept on_deny raise count_deny on_floor tick code_at digits sha1_steps.first_words sha1_steps.schedule sha1_steps.rounds sha1_steps.compress sha1_steps.hash_after sha1_steps.digest_bytes sha1_steps.sha1
returns-clause-among c = refl

pub returns-clause-no_number : goal.returns-clause-no_number
unfolding made_by_event made_while_running made_by_ruling made_by_proposal made_by_datagram propose propose_alone propose_among on_message on_ask on_grant count_grant accept on_deny raise count_deny on_floor tick code_at digits sha1_steps.first_words sha1_steps.schedule sha1_steps.rounds sha1_steps.compress sha1_steps.hash_after sha1_steps.digest_bytes sha1_steps.sha1
returns-clause-no_number c = refl

pub returns-clause-failed : goal.returns-clause-failed
unfolding made_by_event made_while_running made_by_ruling made_by_proposal made_by_datagram propose propose_alone propose_among on_message on_ask on_grant count_grant accept on_deny raise count_deny on_floor tick code_at digits sha1_steps.first_words sha1_steps.schedule sha1_steps.rounds sha1_steps.compress sha1_steps.hash_after sha1_steps.digest_bytes sha1_steps.sha1
returns-clause-failed c = refl

pub returns-clause-begun : goal.returns-clause-begun
unfolding made_by_event made_while_running made_by_ruling made_by_proposal made_by_datagram propose propose_alone propose_among on_message on_ask on_grant count_grant accept on_deny raise count_deny on_floor tick code_at digits sha1_steps.first_words sha1_steps.schedule sha1_steps.rounds sha1_steps.compress sha1_steps.hash_after sha1_steps.digest_bytes sha1_steps.sha1
returns-clause-begun c = refl

pub returns-clause-granted : goal.returns-clause-granted
unfolding made_by_event made_while_running made_by_ruling made_by_proposal made_by_datagram propose propose_alone propose_among on_message on_ask on_grant count_grant accept on_deny raise count_deny on_floor tick code_at digits sha1_steps.first_words sha1_steps.schedule sha1_steps.rounds sha1_steps.compress sha1_steps.hash_after sha1_steps.digest_bytes sha1_steps.sha1
returns-clause-granted c = refl

pub returns-clause-accepted : goal.returns-clause-accepted
unfolding made_by_event made_while_running made_by_ruling made_by_proposal made_by_datagram propose propose_alone propose_among on_message on_ask on_grant count_grant accept on_deny raise count_deny on_floor tick code_at digits sha1_steps.first_words sha1_steps.schedule sha1_steps.rounds sha1_steps.compress sha1_steps.hash_after sha1_steps.digest_bytes sha1_steps.sha1
returns-clause-accepted c = refl

pub returns-clause-denied : goal.returns-clause-denied
unfolding made_by_event made_while_running made_by_ruling made_by_proposal made_by_datagram propose propose_alone propose_among on_message on_ask on_grant count_grant accept on_deny raise count_deny on_floor tick code_at digits sha1_steps.first_words sha1_steps.schedule sha1_steps.rounds sha1_steps.compress sha1_steps.hash_after sha1_steps.digest_bytes sha1_steps.sha1
returns-clause-denied c = refl

pub returns-clause-asked : goal.returns-clause-asked
unfolding made_by_event made_while_running made_by_ruling made_by_proposal made_by_datagram propose propose_alone propose_among on_message on_ask on_grant count_grant accept on_deny raise count_deny on_floor tick code_at digits sha1_steps.first_words sha1_steps.schedule sha1_steps.rounds sha1_steps.compress sha1_steps.hash_after sha1_steps.digest_bytes sha1_steps.sha1
returns-clause-asked c = refl

pub returns-clause-floor : goal.returns-clause-floor
unfolding made_by_event made_while_running made_by_ruling made_by_proposal made_by_datagram propose propose_alone propose_among on_message on_ask on_grant count_grant accept on_deny raise count_deny on_floor tick code_at digits sha1_steps.first_words sha1_steps.schedule sha1_steps.rounds sha1_steps.compress sha1_steps.hash_after sha1_steps.digest_bytes sha1_steps.sha1
returns-clause-floor c = refl

pub returns-clause-unread : goal.returns-clause-unread
unfolding made_by_event made_while_running made_by_ruling made_by_proposal made_by_datagram propose propose_alone propose_among on_message on_ask on_grant count_grant accept on_deny raise count_deny on_floor tick code_at digits sha1_steps.first_words sha1_steps.schedule sha1_steps.rounds sha1_steps.compress sha1_steps.hash_after sha1_steps.digest_bytes sha1_steps.sha1
returns-clause-unread c = refl

pub returns-clause-other_sender : goal.returns-clause-other_sender
unfolding made_by_event made_while_running made_by_ruling made_by_proposal made_by_datagram propose propose_alone propose_among on_message on_ask on_grant count_grant accept on_deny raise count_deny on_floor tick code_at digits sha1_steps.first_words sha1_steps.schedule sha1_steps.rounds sha1_steps.compress sha1_steps.hash_after sha1_steps.digest_bytes sha1_steps.sha1
returns-clause-other_sender c = refl

pub returns-clause-other_receiver : goal.returns-clause-other_receiver
unfolding made_by_event made_while_running made_by_ruling made_by_proposal made_by_datagram propose propose_alone propose_among on_message on_ask on_grant count_grant accept on_deny raise count_deny on_floor tick code_at digits sha1_steps.first_words sha1_steps.schedule sha1_steps.rounds sha1_steps.compress sha1_steps.hash_after sha1_steps.digest_bytes sha1_steps.sha1
returns-clause-other_receiver c = refl

pub returns-clause-own : goal.returns-clause-own
unfolding made_by_event made_while_running made_by_ruling made_by_proposal made_by_datagram propose propose_alone propose_among on_message on_ask on_grant count_grant accept on_deny raise count_deny on_floor tick code_at digits sha1_steps.first_words sha1_steps.schedule sha1_steps.rounds sha1_steps.compress sha1_steps.hash_after sha1_steps.digest_bytes sha1_steps.sha1
returns-clause-own c = refl

pub returns-clause-no_member : goal.returns-clause-no_member
unfolding made_by_event made_while_running made_by_ruling made_by_proposal made_by_datagram propose propose_alone propose_among on_message on_ask on_grant count_grant accept on_deny raise count_deny on_floor tick code_at digits sha1_steps.first_words sha1_steps.schedule sha1_steps.rounds sha1_steps.compress sha1_steps.hash_after sha1_steps.digest_bytes sha1_steps.sha1
returns-clause-no_member c = refl

pub returns-clause-no_node : goal.returns-clause-no_node
unfolding made_by_event made_while_running made_by_ruling made_by_proposal made_by_datagram propose propose_alone propose_among on_message on_ask on_grant count_grant accept on_deny raise count_deny on_floor tick code_at digits sha1_steps.first_words sha1_steps.schedule sha1_steps.rounds sha1_steps.compress sha1_steps.hash_after sha1_steps.digest_bytes sha1_steps.sha1
returns-clause-no_node c = refl

pub returns-clause-no_token : goal.returns-clause-no_token
unfolding made_by_event made_while_running made_by_ruling made_by_proposal made_by_datagram propose propose_alone propose_among on_message on_ask on_grant count_grant accept on_deny raise count_deny on_floor tick code_at digits sha1_steps.first_words sha1_steps.schedule sha1_steps.rounds sha1_steps.compress sha1_steps.hash_after sha1_steps.digest_bytes sha1_steps.sha1
returns-clause-no_token c = refl

pub returns-clause-late : goal.returns-clause-late
unfolding made_by_event made_while_running made_by_ruling made_by_proposal made_by_datagram propose propose_alone propose_among on_message on_ask on_grant count_grant accept on_deny raise count_deny on_floor tick code_at digits sha1_steps.first_words sha1_steps.schedule sha1_steps.rounds sha1_steps.compress sha1_steps.hash_after sha1_steps.digest_bytes sha1_steps.sha1
returns-clause-late c = refl

pub returns-clause-stopped : goal.returns-clause-stopped
unfolding made_by_event made_while_running made_by_ruling made_by_proposal made_by_datagram propose propose_alone propose_among on_message on_ask on_grant count_grant accept on_deny raise count_deny on_floor tick code_at digits sha1_steps.first_words sha1_steps.schedule sha1_steps.rounds sha1_steps.compress sha1_steps.hash_after sha1_steps.digest_bytes sha1_steps.sha1
returns-clause-stopped c = refl

pub returns-clause-restarted : goal.returns-clause-restarted
unfolding made_by_event made_while_running made_by_ruling made_by_proposal made_by_datagram propose propose_alone propose_among on_message on_ask on_grant count_grant accept on_deny raise count_deny on_floor tick code_at digits sha1_steps.first_words sha1_steps.schedule sha1_steps.rounds sha1_steps.compress sha1_steps.hash_after sha1_steps.digest_bytes sha1_steps.sha1
returns-clause-restarted c = refl

pub returns-clause-opened : goal.returns-clause-opened
unfolding made_by_event made_while_running made_by_ruling made_by_proposal made_by_datagram propose propose_alone propose_among on_message on_ask on_grant count_grant accept on_deny raise count_deny on_floor tick code_at digits sha1_steps.first_words sha1_steps.schedule sha1_steps.rounds sha1_steps.compress sha1_steps.hash_after sha1_steps.digest_bytes sha1_steps.sha1
returns-clause-opened c = refl

pub returns-clause-last_boot : goal.returns-clause-last_boot
unfolding made_by_event made_while_running made_by_ruling made_by_proposal made_by_datagram propose propose_alone propose_among on_message on_ask on_grant count_grant accept on_deny raise count_deny on_floor tick code_at digits sha1_steps.first_words sha1_steps.schedule sha1_steps.rounds sha1_steps.compress sha1_steps.hash_after sha1_steps.digest_bytes sha1_steps.sha1
returns-clause-last_boot c = refl

pub returns-clause-clock_before_busy : goal.returns-clause-clock_before_busy
unfolding made_by_event made_while_running made_by_ruling made_by_proposal made_by_datagram propose propose_alone propose_among on_message on_ask on_grant count_grant accept on_deny raise count_deny on_floor tick code_at digits sha1_steps.first_words sha1_steps.schedule sha1_steps.rounds sha1_steps.compress sha1_steps.hash_after sha1_steps.digest_bytes sha1_steps.sha1
returns-clause-clock_before_busy c = refl

pub returns-clause-busy_before_unknown : goal.returns-clause-busy_before_unknown
unfolding made_by_event made_while_running made_by_ruling made_by_proposal made_by_datagram propose propose_alone propose_among on_message on_ask on_grant count_grant accept on_deny raise count_deny on_floor tick code_at digits sha1_steps.first_words sha1_steps.schedule sha1_steps.rounds sha1_steps.compress sha1_steps.hash_after sha1_steps.digest_bytes sha1_steps.sha1
returns-clause-busy_before_unknown c = refl

pub returns-clause-drifted_alone : goal.returns-clause-drifted_alone
unfolding made_by_event made_while_running made_by_ruling made_by_proposal made_by_datagram propose propose_alone propose_among on_message on_ask on_grant count_grant accept on_deny raise count_deny on_floor tick code_at digits sha1_steps.first_words sha1_steps.schedule sha1_steps.rounds sha1_steps.compress sha1_steps.hash_after sha1_steps.digest_bytes sha1_steps.sha1
returns-clause-drifted_alone c = refl

pub returns-clause-drifted_among : goal.returns-clause-drifted_among
unfolding made_by_event made_while_running made_by_ruling made_by_proposal made_by_datagram propose propose_alone propose_among on_message on_ask on_grant count_grant accept on_deny raise count_deny on_floor tick code_at digits sha1_steps.first_words sha1_steps.schedule sha1_steps.rounds sha1_steps.compress sha1_steps.hash_after sha1_steps.digest_bytes sha1_steps.sha1
returns-clause-drifted_among c = refl

pub returns-clause-not_drifted : goal.returns-clause-not_drifted
unfolding made_by_event made_while_running made_by_ruling made_by_proposal made_by_datagram propose propose_alone propose_among on_message on_ask on_grant count_grant accept on_deny raise count_deny on_floor tick code_at digits sha1_steps.first_words sha1_steps.schedule sha1_steps.rounds sha1_steps.compress sha1_steps.hash_after sha1_steps.digest_bytes sha1_steps.sha1
returns-clause-not_drifted c = refl
