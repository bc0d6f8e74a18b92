-- Each event is computed.
use Rattle.std.proofs.Common.{refl}
use Rattle.vote_core.specs.Schedule.{cluster_after, with_proposal_begun, after_proposal, after_delivery, after_act, after_restart, after_event, run}
use Rattle.vote_core.specs.Voting.{propose, propose_alone, propose_among, on_ask, accept, count_grant, on_grant, raise, on_floor, on_message, tick}
use Rattle.vote_core.proofs.laws.events_are_worked.Goals as goal

pub returns-clause-begun : goal.returns-clause-begun
unfolding after_event after_act after_proposal with_proposal_begun cluster_after propose propose_among
returns-clause-begun c = refl

pub returns-clause-not_begun : goal.returns-clause-not_begun
unfolding after_event after_act
returns-clause-not_begun c = refl

pub returns-clause-begun_in_turn : goal.returns-clause-begun_in_turn
unfolding run after_event after_act after_proposal with_proposal_begun cluster_after propose propose_among
returns-clause-begun_in_turn c = refl

pub returns-clause-may_one : goal.returns-clause-may_one
returns-clause-may_one c = refl

pub returns-clause-may_two : goal.returns-clause-may_two
returns-clause-may_two c = refl

pub returns-clause-may_not_below : goal.returns-clause-may_not_below
returns-clause-may_not_below c = refl

pub returns-clause-may_not_backwards : goal.returns-clause-may_not_backwards
returns-clause-may_not_backwards c = refl

pub returns-clause-may_not_three : goal.returns-clause-may_not_three
returns-clause-may_not_three c = refl

pub returns-clause-may_not_no_token : goal.returns-clause-may_not_no_token
returns-clause-may_not_no_token c = refl

pub returns-clause-may_not_node_0 : goal.returns-clause-may_not_node_0
returns-clause-may_not_node_0 c = refl

pub returns-clause-may_not_node_3 : goal.returns-clause-may_not_node_3
returns-clause-may_not_node_3 c = refl

pub returns-clause-may_not_stopped : goal.returns-clause-may_not_stopped
returns-clause-may_not_stopped c = refl

pub returns-clause-may_with_31 : goal.returns-clause-may_with_31
returns-clause-may_with_31 c = refl

pub returns-clause-may_not_with_32 : goal.returns-clause-may_not_with_32
returns-clause-may_not_with_32 c = refl

pub returns-clause-last_number : goal.returns-clause-last_number
unfolding after_event after_act after_proposal with_proposal_begun cluster_after propose propose_among
returns-clause-last_number c = refl

pub returns-clause-no_number : goal.returns-clause-no_number
unfolding after_event after_act after_proposal
returns-clause-no_number c = refl

pub returns-clause-asked : goal.returns-clause-asked
unfolding after_event after_act after_delivery cluster_after on_message on_ask
returns-clause-asked c = refl

pub returns-clause-told : goal.returns-clause-told
unfolding after_event after_act after_delivery cluster_after on_message on_floor raise
returns-clause-told c = refl

pub returns-clause-accepted : goal.returns-clause-accepted
unfolding after_event after_act after_delivery cluster_after on_message on_grant count_grant accept
returns-clause-accepted c = refl

pub returns-clause-not_sent : goal.returns-clause-not_sent
unfolding after_event after_act after_delivery
returns-clause-not_sent c = refl

pub returns-clause-told_stopped : goal.returns-clause-told_stopped
unfolding after_event after_act after_delivery
returns-clause-told_stopped c = refl

pub returns-clause-not_on_record : goal.returns-clause-not_on_record
returns-clause-not_on_record c = refl

pub returns-clause-ticked : goal.returns-clause-ticked
unfolding after_event after_act cluster_after tick
returns-clause-ticked c = refl

pub returns-clause-ticked_0 : goal.returns-clause-ticked_0
unfolding after_event after_act
returns-clause-ticked_0 c = refl

pub returns-clause-ticked_3 : goal.returns-clause-ticked_3
unfolding after_event after_act
returns-clause-ticked_3 c = refl

pub returns-clause-ticked_stopped : goal.returns-clause-ticked_stopped
unfolding after_event after_act
returns-clause-ticked_stopped c = refl

pub returns-clause-throttled : goal.returns-clause-throttled
unfolding after_event after_act cluster_after
returns-clause-throttled c = refl

pub returns-clause-throttled_stopped : goal.returns-clause-throttled_stopped
unfolding after_event after_act
returns-clause-throttled_stopped c = refl

pub returns-clause-throttled_3 : goal.returns-clause-throttled_3
unfolding after_event after_act
returns-clause-throttled_3 c = refl

pub returns-clause-idle : goal.returns-clause-idle
unfolding after_event after_act
returns-clause-idle c = refl

pub returns-clause-restarted : goal.returns-clause-restarted
unfolding after_event after_restart
returns-clause-restarted c = refl

pub returns-clause-restarted_stopped : goal.returns-clause-restarted_stopped
unfolding after_event after_restart
returns-clause-restarted_stopped c = refl

pub returns-clause-last_boot : goal.returns-clause-last_boot
unfolding after_event after_restart
returns-clause-last_boot c = refl

pub returns-clause-no_boot : goal.returns-clause-no_boot
unfolding after_event after_restart
returns-clause-no_boot c = refl

pub returns-clause-restarted_0 : goal.returns-clause-restarted_0
unfolding after_event after_restart
returns-clause-restarted_0 c = refl

pub returns-clause-restarted_3 : goal.returns-clause-restarted_3
unfolding after_event after_restart
returns-clause-restarted_3 c = refl

pub returns-clause-begun_kept : goal.returns-clause-begun_kept
unfolding after_event after_act after_proposal with_proposal_begun cluster_after propose propose_among after_restart
returns-clause-begun_kept c = refl

pub returns-clause-begun_lost : goal.returns-clause-begun_lost
unfolding after_event after_restart
returns-clause-begun_lost c = refl

pub returns-clause-asked_kept : goal.returns-clause-asked_kept
unfolding after_event after_act after_delivery cluster_after on_message on_ask after_restart
returns-clause-asked_kept c = refl

pub returns-clause-asked_lost : goal.returns-clause-asked_lost
unfolding after_event after_restart
returns-clause-asked_lost c = refl

pub returns-clause-accepted_kept : goal.returns-clause-accepted_kept
unfolding after_event after_act after_delivery cluster_after on_message on_grant count_grant accept after_restart
returns-clause-accepted_kept c = refl

pub returns-clause-accepted_lost : goal.returns-clause-accepted_lost
unfolding after_event after_restart
returns-clause-accepted_lost c = refl

pub returns-clause-not_sent_kept : goal.returns-clause-not_sent_kept
unfolding after_event after_act after_delivery after_restart
returns-clause-not_sent_kept c = refl

pub returns-clause-not_sent_lost : goal.returns-clause-not_sent_lost
unfolding after_event after_restart
returns-clause-not_sent_lost c = refl

pub returns-clause-ticked_kept : goal.returns-clause-ticked_kept
unfolding after_event after_act cluster_after tick after_restart
returns-clause-ticked_kept c = refl

pub returns-clause-throttled_kept : goal.returns-clause-throttled_kept
unfolding after_event after_act cluster_after after_restart
returns-clause-throttled_kept c = refl

pub returns-clause-throttled_lost : goal.returns-clause-throttled_lost
unfolding after_event after_restart
returns-clause-throttled_lost c = refl

pub returns-clause-idle_cut : goal.returns-clause-idle_cut
unfolding after_event after_act after_restart
returns-clause-idle_cut c = refl

pub returns-clause-cut_3 : goal.returns-clause-cut_3
unfolding after_event after_act after_restart
returns-clause-cut_3 c = refl

pub returns-clause-opened : goal.returns-clause-opened
returns-clause-opened c = refl

pub returns-clause-opened_empty : goal.returns-clause-opened_empty
returns-clause-opened_empty c = refl

pub returns-clause-alone : goal.returns-clause-alone
unfolding run after_event after_act after_proposal with_proposal_begun cluster_after after_restart propose propose_alone tick
returns-clause-alone c = refl

pub returns-clause-accepted_alone : goal.returns-clause-accepted_alone
unfolding run after_event after_act after_proposal with_proposal_begun cluster_after after_restart propose propose_alone tick
returns-clause-accepted_alone c = refl

pub returns-clause-nothing_sent_alone : goal.returns-clause-nothing_sent_alone
unfolding run after_event after_act after_proposal with_proposal_begun cluster_after after_restart propose propose_alone tick
returns-clause-nothing_sent_alone c = refl

pub returns-clause-before_event_0 : goal.returns-clause-before_event_0
unfolding run after_event after_act after_proposal with_proposal_begun cluster_after after_restart propose propose_alone tick
returns-clause-before_event_0 c = refl

pub returns-clause-before_event_1 : goal.returns-clause-before_event_1
unfolding run after_event after_act after_proposal with_proposal_begun cluster_after after_restart propose propose_alone tick
returns-clause-before_event_1 c = refl

pub returns-clause-before_event_2 : goal.returns-clause-before_event_2
unfolding run after_event after_act after_proposal with_proposal_begun cluster_after after_restart propose propose_alone tick
returns-clause-before_event_2 c = refl

pub returns-clause-before_event_3 : goal.returns-clause-before_event_3
unfolding run after_event after_act after_proposal with_proposal_begun cluster_after after_restart propose propose_alone tick
returns-clause-before_event_3 c = refl

pub returns-clause-before_event_9 : goal.returns-clause-before_event_9
unfolding run after_event after_act after_proposal with_proposal_begun cluster_after after_restart propose propose_alone tick
returns-clause-before_event_9 c = refl

pub returns-clause-at_other_node : goal.returns-clause-at_other_node
unfolding run after_event after_act after_proposal with_proposal_begun cluster_after after_restart propose propose_among tick
returns-clause-at_other_node c = refl

pub returns-clause-of_other_token : goal.returns-clause-of_other_token
unfolding run after_event after_act after_proposal with_proposal_begun cluster_after after_restart propose propose_alone tick
returns-clause-of_other_token c = refl
