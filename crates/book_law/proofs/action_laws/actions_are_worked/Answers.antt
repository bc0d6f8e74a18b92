-- Each is computed.
use Rattle.std.proofs.Common.{◌≡◌, refl, arith}
use Rattle.vote_core.specs.Voting.{raise, on_floor, on_message, tick}
use Rattle.oath_node.specs.Machine.{made_by_proposal, made_by_ruling, made_by_datagram, made_while_running, made_by_event}
use Rattle.book_law.specs.Lives.{state_after, state_after_action}
use Rattle.book_law.specs.Results.{results_after, results_after_action}
use Rattle.book_law.proofs.action_laws.actions_are_worked.Goals as goal

pub returns-clause-opens : goal.returns-clause-opens
unfolding state_after state_after_action results_after results_after_action made_by_event made_while_running made_by_datagram made_by_ruling made_by_proposal raise on_floor on_message tick
returns-clause-opens c = refl

pub returns-clause-boot : goal.returns-clause-boot
unfolding state_after state_after_action results_after results_after_action made_by_event made_while_running made_by_datagram made_by_ruling made_by_proposal raise on_floor on_message tick
returns-clause-boot c = refl

pub returns-clause-opens_no_more : goal.returns-clause-opens_no_more
unfolding state_after state_after_action results_after results_after_action made_by_event made_while_running made_by_datagram made_by_ruling made_by_proposal raise on_floor on_message tick
returns-clause-opens_no_more c = refl

pub returns-clause-half_opens : goal.returns-clause-half_opens
unfolding state_after state_after_action results_after results_after_action made_by_event made_while_running made_by_datagram made_by_ruling made_by_proposal raise on_floor on_message tick
returns-clause-half_opens c = refl

pub returns-clause-half_opens_no_more : goal.returns-clause-half_opens_no_more
unfolding state_after state_after_action results_after results_after_action made_by_event made_while_running made_by_datagram made_by_ruling made_by_proposal raise on_floor on_message tick
returns-clause-half_opens_no_more c = refl

pub returns-clause-opens_in_vain : goal.returns-clause-opens_in_vain
unfolding state_after state_after_action results_after results_after_action made_by_event made_while_running made_by_datagram made_by_ruling made_by_proposal raise on_floor on_message tick
returns-clause-opens_in_vain c = refl

pub returns-clause-one_process : goal.returns-clause-one_process
unfolding state_after state_after_action results_after results_after_action made_by_event made_while_running made_by_datagram made_by_ruling made_by_proposal raise on_floor on_message tick
returns-clause-one_process c = refl

pub returns-clause-half_opens_nothing : goal.returns-clause-half_opens_nothing
unfolding state_after state_after_action results_after results_after_action made_by_event made_while_running made_by_datagram made_by_ruling made_by_proposal raise on_floor on_message tick
returns-clause-half_opens_nothing c = refl

pub returns-clause-unlocks_at_no_process : goal.returns-clause-unlocks_at_no_process
unfolding state_after state_after_action results_after results_after_action made_by_event made_while_running made_by_datagram made_by_ruling made_by_proposal raise on_floor on_message tick
returns-clause-unlocks_at_no_process c = refl

pub returns-clause-raises_at_no_process : goal.returns-clause-raises_at_no_process
unfolding state_after state_after_action results_after results_after_action made_by_event made_while_running made_by_datagram made_by_ruling made_by_proposal raise on_floor on_message tick
returns-clause-raises_at_no_process c = refl

pub returns-clause-handed_out : goal.returns-clause-handed_out
unfolding state_after state_after_action results_after results_after_action made_by_event made_while_running made_by_datagram made_by_ruling made_by_proposal raise on_floor on_message tick
returns-clause-handed_out c = refl

pub returns-clause-first_offered : goal.returns-clause-first_offered
unfolding state_after state_after_action results_after results_after_action made_by_event made_while_running made_by_datagram made_by_ruling made_by_proposal raise on_floor on_message tick
returns-clause-first_offered c = refl

pub returns-clause-rest_waits : goal.returns-clause-rest_waits
unfolding state_after state_after_action results_after results_after_action made_by_event made_while_running made_by_datagram made_by_ruling made_by_proposal raise on_floor on_message tick
returns-clause-rest_waits c = refl

pub returns-clause-all_offered : goal.returns-clause-all_offered
unfolding state_after state_after_action results_after results_after_action made_by_event made_while_running made_by_datagram made_by_ruling made_by_proposal raise on_floor on_message tick
returns-clause-all_offered c = refl

pub returns-clause-taken_is_not_offered : goal.returns-clause-taken_is_not_offered
unfolding state_after state_after_action results_after results_after_action made_by_event made_while_running made_by_datagram made_by_ruling made_by_proposal raise on_floor on_message tick
returns-clause-taken_is_not_offered c = refl

pub returns-clause-waits_in_order : goal.returns-clause-waits_in_order
unfolding state_after state_after_action results_after results_after_action made_by_event made_while_running made_by_datagram made_by_ruling made_by_proposal raise on_floor on_message tick
returns-clause-waits_in_order c = refl

pub returns-clause-answers : goal.returns-clause-answers
unfolding state_after state_after_action results_after results_after_action made_by_event made_while_running made_by_datagram made_by_ruling made_by_proposal raise on_floor on_message tick
returns-clause-answers c = refl

pub returns-clause-stops : goal.returns-clause-stops
unfolding state_after state_after_action results_after results_after_action made_by_event made_while_running made_by_datagram made_by_ruling made_by_proposal raise on_floor on_message tick
returns-clause-stops c = refl

pub returns-clause-keeps : goal.returns-clause-keeps
unfolding state_after state_after_action results_after results_after_action made_by_event made_while_running made_by_datagram made_by_ruling made_by_proposal raise on_floor on_message tick
returns-clause-keeps c = refl

pub returns-clause-loses : goal.returns-clause-loses
unfolding state_after state_after_action results_after results_after_action made_by_event made_while_running made_by_datagram made_by_ruling made_by_proposal raise on_floor on_message tick
returns-clause-loses c = refl

pub returns-clause-note_is_lost : goal.returns-clause-note_is_lost
unfolding state_after state_after_action results_after results_after_action made_by_event made_while_running made_by_datagram made_by_ruling made_by_proposal raise on_floor on_message tick
returns-clause-note_is_lost c = refl

pub returns-clause-unlocks : goal.returns-clause-unlocks
unfolding state_after state_after_action results_after results_after_action made_by_event made_while_running made_by_datagram made_by_ruling made_by_proposal raise on_floor on_message tick
returns-clause-unlocks c = refl

pub returns-clause-unlocks_another : goal.returns-clause-unlocks_another
unfolding state_after state_after_action results_after results_after_action made_by_event made_while_running made_by_datagram made_by_ruling made_by_proposal raise on_floor on_message tick
returns-clause-unlocks_another c = refl

pub returns-clause-raises : goal.returns-clause-raises
unfolding state_after state_after_action results_after results_after_action made_by_event made_while_running made_by_datagram made_by_ruling made_by_proposal raise on_floor on_message tick
returns-clause-raises c = refl

pub returns-clause-raises_lower : goal.returns-clause-raises_lower
unfolding state_after state_after_action results_after results_after_action made_by_event made_while_running made_by_datagram made_by_ruling made_by_proposal raise on_floor on_message tick
returns-clause-raises_lower c = refl

pub returns-clause-unlocking : goal.returns-clause-unlocking
unfolding state_after state_after_action results_after results_after_action made_by_event made_while_running made_by_datagram made_by_ruling made_by_proposal raise on_floor on_message tick
returns-clause-unlocking c = refl

pub returns-clause-unlocking_of_another : goal.returns-clause-unlocking_of_another
unfolding state_after state_after_action results_after results_after_action made_by_event made_while_running made_by_datagram made_by_ruling made_by_proposal raise on_floor on_message tick
returns-clause-unlocking_of_another c = refl

pub returns-clause-unlocking_elsewhere : goal.returns-clause-unlocking_elsewhere
unfolding state_after state_after_action results_after results_after_action made_by_event made_while_running made_by_datagram made_by_ruling made_by_proposal raise on_floor on_message tick
returns-clause-unlocking_elsewhere c = refl

pub returns-clause-own_node : goal.returns-clause-own_node
unfolding state_after state_after_action results_after results_after_action made_by_event made_while_running made_by_datagram made_by_ruling made_by_proposal raise on_floor on_message tick
returns-clause-own_node c = refl

pub returns-clause-stranger : goal.returns-clause-stranger
unfolding state_after state_after_action results_after results_after_action made_by_event made_while_running made_by_datagram made_by_ruling made_by_proposal raise on_floor on_message tick
returns-clause-stranger c = refl

pub returns-clause-floor_before : goal.returns-clause-floor_before
unfolding state_after state_after_action results_after results_after_action made_by_event made_while_running made_by_datagram made_by_ruling made_by_proposal raise on_floor on_message tick
returns-clause-floor_before c = refl

pub returns-clause-first_boots : goal.returns-clause-first_boots
unfolding state_after state_after_action results_after results_after_action made_by_event made_while_running made_by_datagram made_by_ruling made_by_proposal raise on_floor on_message tick
returns-clause-first_boots c = refl

pub returns-clause-none_is_lost : goal.returns-clause-none_is_lost
unfolding state_after state_after_action results_after results_after_action made_by_event made_while_running made_by_datagram made_by_ruling made_by_proposal raise on_floor on_message tick
returns-clause-none_is_lost c = refl

pub returns-clause-sent_before : goal.returns-clause-sent_before
unfolding state_after state_after_action results_after results_after_action made_by_event made_while_running made_by_datagram made_by_ruling made_by_proposal raise on_floor on_message tick
returns-clause-sent_before c = refl

pub returns-clause-unlocking_is_no_note : goal.returns-clause-unlocking_is_no_note
unfolding state_after state_after_action
returns-clause-unlocking_is_no_note c = refl

pub returns-clause-leaves_the_gate : goal.returns-clause-leaves_the_gate
returns-clause-leaves_the_gate c = (
  (λ (at : 1 ≡ 2) same. absurd (omega (arith, at))),
  ((λ at (same : 1 ≡ 0). absurd (omega (arith, same))), ((λ (at : 1 ≡ 2) same. absurd (omega (arith, at))), ((λ at (same : 1 ≡ 0). absurd (omega (arith, same))), tt))),
)

pub returns-clause-unlocks_the_gate : goal.returns-clause-unlocks_the_gate
returns-clause-unlocks_the_gate c h = h.1.0 refl refl

pub returns-clause-opens_the_gate : goal.returns-clause-opens_the_gate
returns-clause-opens_the_gate c h = h.1.0 refl refl
