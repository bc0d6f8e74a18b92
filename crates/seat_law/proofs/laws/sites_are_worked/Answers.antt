-- Each is computed.
use Rattle.std.proofs.Common.{refl}
use Rattle.seat_law.specs.Seats.{after_course, go}
use Rattle.vote_core.specs.Schedule.{cluster_after, with_proposal_begun, after_restart}
use Rattle.vote_core.specs.Voting.{propose, propose_alone, propose_among, on_ask, accept, count_grant, on_grant, raise, count_deny, on_deny, on_floor, on_message, tell, tick}
use Rattle.seat_law.proofs.laws.sites_are_worked.Goals as goal

pub returns-clause-two_orders : goal.returns-clause-two_orders
unfolding go after_course with_proposal_begun cluster_after after_restart propose propose_alone propose_among on_ask accept count_grant on_grant raise count_deny on_deny on_floor on_message tell tick
returns-clause-two_orders c = refl

pub returns-clause-unheard : goal.returns-clause-unheard
unfolding go after_course with_proposal_begun cluster_after after_restart propose propose_alone propose_among on_ask accept count_grant on_grant raise count_deny on_deny on_floor on_message tell tick
returns-clause-unheard c = refl

pub returns-clause-back : goal.returns-clause-back
unfolding go after_course with_proposal_begun cluster_after after_restart propose propose_alone propose_among on_ask accept count_grant on_grant raise count_deny on_deny on_floor on_message tell tick
returns-clause-back c = refl

pub returns-clause-granted : goal.returns-clause-granted
unfolding go after_course with_proposal_begun cluster_after after_restart propose propose_alone propose_among on_ask accept count_grant on_grant raise count_deny on_deny on_floor on_message tell tick
returns-clause-granted c = refl

pub returns-clause-elsewhere : goal.returns-clause-elsewhere
unfolding go after_course with_proposal_begun cluster_after after_restart propose propose_alone propose_among on_ask accept count_grant on_grant raise count_deny on_deny on_floor on_message tell tick
returns-clause-elsewhere c = refl

pub returns-clause-again : goal.returns-clause-again
unfolding go after_course with_proposal_begun cluster_after after_restart propose propose_alone propose_among on_ask accept count_grant on_grant raise count_deny on_deny on_floor on_message tell tick
returns-clause-again c = refl

pub returns-clause-wrong_seats : goal.returns-clause-wrong_seats
unfolding go after_course with_proposal_begun cluster_after after_restart propose propose_alone propose_among on_ask accept count_grant on_grant raise count_deny on_deny on_floor on_message tell tick
returns-clause-wrong_seats c = refl

pub returns-clause-added_again : goal.returns-clause-added_again
unfolding go after_course with_proposal_begun cluster_after after_restart propose propose_alone propose_among on_ask accept count_grant on_grant raise count_deny on_deny on_floor on_message tell tick
returns-clause-added_again c = refl

pub returns-clause-told : goal.returns-clause-told
unfolding go after_course with_proposal_begun cluster_after after_restart propose propose_alone propose_among on_ask accept count_grant on_grant raise count_deny on_deny on_floor on_message tell tick
returns-clause-told c = refl

pub returns-clause-remade : goal.returns-clause-remade
unfolding go after_course with_proposal_begun cluster_after after_restart propose propose_alone propose_among on_ask accept count_grant on_grant raise count_deny on_deny on_floor on_message tell tick
returns-clause-remade c = refl

pub returns-clause-remade_too_low : goal.returns-clause-remade_too_low
unfolding go after_course with_proposal_begun cluster_after after_restart propose propose_alone propose_among on_ask accept count_grant on_grant raise count_deny on_deny on_floor on_message tell tick
returns-clause-remade_too_low c = refl

pub returns-clause-remade_without : goal.returns-clause-remade_without
unfolding go after_course with_proposal_begun cluster_after after_restart propose propose_alone propose_among on_ask accept count_grant on_grant raise count_deny on_deny on_floor on_message tell tick
returns-clause-remade_without c = refl

pub returns-clause-remade_unknown : goal.returns-clause-remade_unknown
unfolding go after_course with_proposal_begun cluster_after after_restart propose propose_alone propose_among on_ask accept count_grant on_grant raise count_deny on_deny on_floor on_message tell tick
returns-clause-remade_unknown c = refl

pub returns-clause-floors_seated : goal.returns-clause-floors_seated
unfolding go after_course with_proposal_begun cluster_after after_restart propose propose_alone propose_among on_ask accept count_grant on_grant raise count_deny on_deny on_floor on_message tell tick
returns-clause-floors_seated c = refl

pub returns-clause-floors_aside : goal.returns-clause-floors_aside
unfolding go after_course with_proposal_begun cluster_after after_restart propose propose_alone propose_among on_ask accept count_grant on_grant raise count_deny on_deny on_floor on_message tell tick
returns-clause-floors_aside c = refl

pub returns-clause-floors_added : goal.returns-clause-floors_added
unfolding go after_course with_proposal_begun cluster_after after_restart propose propose_alone propose_among on_ask accept count_grant on_grant raise count_deny on_deny on_floor on_message tell tick
returns-clause-floors_added c = refl

pub returns-clause-floors_told : goal.returns-clause-floors_told
unfolding go after_course with_proposal_begun cluster_after after_restart propose propose_alone propose_among on_ask accept count_grant on_grant raise count_deny on_deny on_floor on_message tell tick
returns-clause-floors_told c = refl

pub returns-clause-add_kept : goal.returns-clause-add_kept
unfolding go after_course with_proposal_begun cluster_after after_restart propose propose_alone propose_among on_ask accept count_grant on_grant raise count_deny on_deny on_floor on_message tell tick
returns-clause-add_kept c = refl

pub returns-clause-add_dropped : goal.returns-clause-add_dropped
unfolding go after_course with_proposal_begun cluster_after after_restart propose propose_alone propose_among on_ask accept count_grant on_grant raise count_deny on_deny on_floor on_message tell tick
returns-clause-add_dropped c = refl

pub returns-clause-begin_kept : goal.returns-clause-begin_kept
unfolding go after_course with_proposal_begun cluster_after after_restart propose propose_alone propose_among on_ask accept count_grant on_grant raise count_deny on_deny on_floor on_message tell tick
returns-clause-begin_kept c = refl

pub returns-clause-begin_dropped : goal.returns-clause-begin_dropped
unfolding go after_course with_proposal_begun cluster_after after_restart propose propose_alone propose_among on_ask accept count_grant on_grant raise count_deny on_deny on_floor on_message tell tick
returns-clause-begin_dropped c = refl

pub returns-clause-row_aside : goal.returns-clause-row_aside
unfolding go after_course with_proposal_begun cluster_after after_restart propose propose_alone propose_among on_ask accept count_grant on_grant raise count_deny on_deny on_floor on_message tell tick
returns-clause-row_aside c = refl

pub returns-clause-row_back : goal.returns-clause-row_back
unfolding go after_course with_proposal_begun cluster_after after_restart propose propose_alone propose_among on_ask accept count_grant on_grant raise count_deny on_deny on_floor on_message tell tick
returns-clause-row_back c = refl

pub returns-clause-last_pass : goal.returns-clause-last_pass
unfolding go after_course with_proposal_begun cluster_after after_restart propose propose_alone propose_among on_ask accept count_grant on_grant raise count_deny on_deny on_floor on_message tell tick
returns-clause-last_pass c = refl

pub returns-clause-last_pass_moved : goal.returns-clause-last_pass_moved
unfolding go after_course with_proposal_begun cluster_after after_restart propose propose_alone propose_among on_ask accept count_grant on_grant raise count_deny on_deny on_floor on_message tell tick
returns-clause-last_pass_moved c = refl

pub returns-clause-last_pass_unseen : goal.returns-clause-last_pass_unseen
unfolding go after_course with_proposal_begun cluster_after after_restart propose propose_alone propose_among on_ask accept count_grant on_grant raise count_deny on_deny on_floor on_message tell tick
returns-clause-last_pass_unseen c = refl

pub returns-clause-last_pass_back : goal.returns-clause-last_pass_back
unfolding go after_course with_proposal_begun cluster_after after_restart propose propose_alone propose_among on_ask accept count_grant on_grant raise count_deny on_deny on_floor on_message tell tick
returns-clause-last_pass_back c = refl

pub returns-clause-last_boot_seat : goal.returns-clause-last_boot_seat
unfolding go after_course with_proposal_begun cluster_after after_restart propose propose_alone propose_among on_ask accept count_grant on_grant raise count_deny on_deny on_floor on_message tell tick
returns-clause-last_boot_seat c = refl

pub returns-clause-last_boot_stops : goal.returns-clause-last_boot_stops
unfolding go after_course with_proposal_begun cluster_after after_restart propose propose_alone propose_among on_ask accept count_grant on_grant raise count_deny on_deny on_floor on_message tell tick
returns-clause-last_boot_stops c = refl

pub returns-clause-floors_of_each : goal.returns-clause-floors_of_each
unfolding go after_course with_proposal_begun cluster_after after_restart propose propose_alone propose_among on_ask accept count_grant on_grant raise count_deny on_deny on_floor on_message tell tick
returns-clause-floors_of_each c = refl

pub returns-clause-floors_remade : goal.returns-clause-floors_remade
unfolding go after_course with_proposal_begun cluster_after after_restart propose propose_alone propose_among on_ask accept count_grant on_grant raise count_deny on_deny on_floor on_message tell tick
returns-clause-floors_remade c = refl

pub returns-clause-floors_not_remade : goal.returns-clause-floors_not_remade
unfolding go after_course with_proposal_begun cluster_after after_restart propose propose_alone propose_among on_ask accept count_grant on_grant raise count_deny on_deny on_floor on_message tell tick
returns-clause-floors_not_remade c = refl

pub returns-clause-last_pass_of_seat_1 : goal.returns-clause-last_pass_of_seat_1
unfolding go after_course with_proposal_begun cluster_after after_restart propose propose_alone propose_among on_ask accept count_grant on_grant raise count_deny on_deny on_floor on_message tell tick
returns-clause-last_pass_of_seat_1 c = refl

pub returns-clause-lost_seat : goal.returns-clause-lost_seat
unfolding go after_course with_proposal_begun cluster_after after_restart propose propose_alone propose_among on_ask accept count_grant on_grant raise count_deny on_deny on_floor on_message tell tick
returns-clause-lost_seat c = refl

pub returns-clause-begin_unsent : goal.returns-clause-begin_unsent
unfolding go after_course with_proposal_begun cluster_after after_restart propose propose_alone propose_among on_ask accept count_grant on_grant raise count_deny on_deny on_floor on_message tell tick
returns-clause-begin_unsent c = refl
