-- Each is computed.
use Rattle.std.proofs.Common.{refl}
use Rattle.vote_core.specs.Voting.{raise, on_floor, on_message, tick}
use Rattle.oath_node.specs.Machine.{made_by_proposal, made_by_ruling, made_by_datagram, made_while_running, made_by_event}
use Rattle.book_law.specs.Lives.{state_after, state_after_action}
use Rattle.book_law.specs.Results.{results_after, results_after_action}
use Rattle.book_law.proofs.action_laws.losses_are_worked.Goals as goal

pub returns-clause-gone : goal.returns-clause-gone
unfolding state_after state_after_action results_after results_after_action made_by_event made_while_running made_by_datagram made_by_ruling made_by_proposal raise on_floor on_message tick
returns-clause-gone c = refl

pub returns-clause-nothing_there : goal.returns-clause-nothing_there
unfolding state_after state_after_action results_after results_after_action made_by_event made_while_running made_by_datagram made_by_ruling made_by_proposal raise on_floor on_message tick
returns-clause-nothing_there c = refl

pub returns-clause-least : goal.returns-clause-least
unfolding state_after state_after_action results_after results_after_action made_by_event made_while_running made_by_datagram made_by_ruling made_by_proposal raise on_floor on_message tick
returns-clause-least c = refl

pub returns-clause-least_of_the_others : goal.returns-clause-least_of_the_others
unfolding state_after state_after_action results_after results_after_action made_by_event made_while_running made_by_datagram made_by_ruling made_by_proposal raise on_floor on_message tick
returns-clause-least_of_the_others c = refl

pub returns-clause-least_stays : goal.returns-clause-least_stays
unfolding state_after state_after_action results_after results_after_action made_by_event made_while_running made_by_datagram made_by_ruling made_by_proposal raise on_floor on_message tick
returns-clause-least_stays c = refl

pub returns-clause-least_of_the_third : goal.returns-clause-least_of_the_third
unfolding state_after state_after_action results_after results_after_action made_by_event made_while_running made_by_datagram made_by_ruling made_by_proposal raise on_floor on_message tick
returns-clause-least_of_the_third c = refl

pub returns-clause-lost_before : goal.returns-clause-lost_before
unfolding state_after state_after_action results_after results_after_action made_by_event made_while_running made_by_datagram made_by_ruling made_by_proposal raise on_floor on_message tick
returns-clause-lost_before c = refl

pub returns-clause-lost_again : goal.returns-clause-lost_again
unfolding state_after state_after_action results_after results_after_action made_by_event made_while_running made_by_datagram made_by_ruling made_by_proposal raise on_floor on_message tick
returns-clause-lost_again c = refl

pub returns-clause-other_stays_lost : goal.returns-clause-other_stays_lost
unfolding state_after state_after_action results_after results_after_action made_by_event made_while_running made_by_datagram made_by_ruling made_by_proposal raise on_floor on_message tick
returns-clause-other_stays_lost c = refl

pub returns-clause-made : goal.returns-clause-made
unfolding state_after state_after_action results_after results_after_action made_by_event made_while_running made_by_datagram made_by_ruling made_by_proposal raise on_floor on_message tick
returns-clause-made c = refl

pub returns-clause-there_again : goal.returns-clause-there_again
unfolding state_after state_after_action results_after results_after_action made_by_event made_while_running made_by_datagram made_by_ruling made_by_proposal raise on_floor on_message tick
returns-clause-there_again c = refl

pub returns-clause-noted : goal.returns-clause-noted
unfolding state_after state_after_action results_after results_after_action made_by_event made_while_running made_by_datagram made_by_ruling made_by_proposal raise on_floor on_message tick
returns-clause-noted c = refl

pub returns-clause-too_low : goal.returns-clause-too_low
unfolding state_after state_after_action results_after results_after_action made_by_event made_while_running made_by_datagram made_by_ruling made_by_proposal raise on_floor on_message tick
returns-clause-too_low c = refl

pub returns-clause-least_floor : goal.returns-clause-least_floor
unfolding state_after state_after_action results_after results_after_action made_by_event made_while_running made_by_datagram made_by_ruling made_by_proposal raise on_floor on_message tick
returns-clause-least_floor c = refl

pub returns-clause-used_boot : goal.returns-clause-used_boot
unfolding state_after state_after_action results_after results_after_action made_by_event made_while_running made_by_datagram made_by_ruling made_by_proposal raise on_floor on_message tick
returns-clause-used_boot c = refl

pub returns-clause-next_boot : goal.returns-clause-next_boot
unfolding state_after state_after_action results_after results_after_action made_by_event made_while_running made_by_datagram made_by_ruling made_by_proposal raise on_floor on_message tick
returns-clause-next_boot c = refl

pub returns-clause-in_the_last_boot : goal.returns-clause-in_the_last_boot
unfolding state_after state_after_action results_after results_after_action made_by_event made_while_running made_by_datagram made_by_ruling made_by_proposal raise on_floor on_message tick
returns-clause-in_the_last_boot c = refl

pub returns-clause-past_the_last_boot : goal.returns-clause-past_the_last_boot
unfolding state_after state_after_action results_after results_after_action made_by_event made_while_running made_by_datagram made_by_ruling made_by_proposal raise on_floor on_message tick
returns-clause-past_the_last_boot c = refl

pub returns-clause-too_many : goal.returns-clause-too_many
unfolding state_after state_after_action results_after results_after_action made_by_event made_while_running made_by_datagram made_by_ruling made_by_proposal raise on_floor on_message tick
returns-clause-too_many c = refl

pub returns-clause-not_lost : goal.returns-clause-not_lost
unfolding state_after state_after_action results_after results_after_action made_by_event made_while_running made_by_datagram made_by_ruling made_by_proposal raise on_floor on_message tick
returns-clause-not_lost c = refl
