-- Each roster is computed.
use Rattle.std.proofs.Common.{refl}
use Rattle.vote_core.specs.Roster.{serve}
use Rattle.vote_core.specs.Schedule.{cluster_after, with_proposal_begun, after_proposal, after_delivery, after_act, after_restart, after_loss, after_replacement, after_event}
use Rattle.vote_core.specs.Voting.{propose, propose_alone, propose_among, on_ask, accept, count_grant, on_grant, raise, count_deny, on_deny, on_floor, on_message, tick_telling, tell}
use Rattle.vote_core.proofs.roster_laws.rosters_are_worked.Goals as goal

pub returns-clause-dropped : goal.returns-clause-dropped
unfolding serve after_event after_act after_proposal after_delivery with_proposal_begun cluster_after after_restart after_loss after_replacement propose propose_alone propose_among on_ask accept count_grant on_grant raise count_deny on_deny on_floor on_message tick_telling tell
returns-clause-dropped c = refl

pub returns-clause-higher : goal.returns-clause-higher
unfolding serve after_event after_act after_proposal after_delivery with_proposal_begun cluster_after after_restart after_loss after_replacement propose propose_alone propose_among on_ask accept count_grant on_grant raise count_deny on_deny on_floor on_message tick_telling tell
returns-clause-higher c = refl

pub returns-clause-unknown : goal.returns-clause-unknown
unfolding serve after_event after_act after_proposal after_delivery with_proposal_begun cluster_after after_restart after_loss after_replacement propose propose_alone propose_among on_ask accept count_grant on_grant raise count_deny on_deny on_floor on_message tick_telling tell
returns-clause-unknown c = refl

pub returns-clause-again : goal.returns-clause-again
unfolding serve after_event after_act after_proposal after_delivery with_proposal_begun cluster_after after_restart after_loss after_replacement propose propose_alone propose_among on_ask accept count_grant on_grant raise count_deny on_deny on_floor on_message tick_telling tell
returns-clause-again c = refl

pub returns-clause-anew_too_low : goal.returns-clause-anew_too_low
unfolding serve after_event after_act after_proposal after_delivery with_proposal_begun cluster_after after_restart after_loss after_replacement propose propose_alone propose_among on_ask accept count_grant on_grant raise count_deny on_deny on_floor on_message tick_telling tell
returns-clause-anew_too_low c = refl

pub returns-clause-anew : goal.returns-clause-anew
unfolding serve after_event after_act after_proposal after_delivery with_proposal_begun cluster_after after_restart after_loss after_replacement propose propose_alone propose_among on_ask accept count_grant on_grant raise count_deny on_deny on_floor on_message tick_telling tell
returns-clause-anew c = refl

pub returns-clause-later_too_low : goal.returns-clause-later_too_low
unfolding serve after_event after_act after_proposal after_delivery with_proposal_begun cluster_after after_restart after_loss after_replacement propose propose_alone propose_among on_ask accept count_grant on_grant raise count_deny on_deny on_floor on_message tick_telling tell
returns-clause-later_too_low c = refl

pub returns-clause-later : goal.returns-clause-later
unfolding serve after_event after_act after_proposal after_delivery with_proposal_begun cluster_after after_restart after_loss after_replacement propose propose_alone propose_among on_ask accept count_grant on_grant raise count_deny on_deny on_floor on_message tick_telling tell
returns-clause-later c = refl

pub returns-clause-both_too_low : goal.returns-clause-both_too_low
unfolding serve after_event after_act after_proposal after_delivery with_proposal_begun cluster_after after_restart after_loss after_replacement propose propose_alone propose_among on_ask accept count_grant on_grant raise count_deny on_deny on_floor on_message tick_telling tell
returns-clause-both_too_low c = refl

pub returns-clause-both : goal.returns-clause-both
unfolding serve after_event after_act after_proposal after_delivery with_proposal_begun cluster_after after_restart after_loss after_replacement propose propose_alone propose_among on_ask accept count_grant on_grant raise count_deny on_deny on_floor on_message tick_telling tell
returns-clause-both c = refl

pub returns-clause-two : goal.returns-clause-two
unfolding serve after_event after_act after_proposal after_delivery with_proposal_begun cluster_after after_restart after_loss after_replacement propose propose_alone propose_among on_ask accept count_grant on_grant raise count_deny on_deny on_floor on_message tick_telling tell
returns-clause-two c = refl

pub returns-clause-told : goal.returns-clause-told
unfolding serve after_event after_act after_proposal after_delivery with_proposal_begun cluster_after after_restart after_loss after_replacement propose propose_alone propose_among on_ask accept count_grant on_grant raise count_deny on_deny on_floor on_message tick_telling tell
returns-clause-told c = refl

pub returns-clause-stopped : goal.returns-clause-stopped
unfolding serve after_event after_act after_proposal after_delivery with_proposal_begun cluster_after after_restart after_loss after_replacement propose propose_alone propose_among on_ask accept count_grant on_grant raise count_deny on_deny on_floor on_message tick_telling tell
returns-clause-stopped c = refl

pub returns-clause-again_higher : goal.returns-clause-again_higher
unfolding serve after_event after_act after_proposal after_delivery with_proposal_begun cluster_after after_restart after_loss after_replacement propose propose_alone propose_among on_ask accept count_grant on_grant raise count_deny on_deny on_floor on_message tick_telling tell
returns-clause-again_higher c = refl
