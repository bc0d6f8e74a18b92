-- Each is computed, the hash with it.
use Rattle.std.proofs.Common.{refl}
use Rattle.admit_core.specs.Fit.{code_at}
use Rattle.sha1.specs.Sha1.{first_words, schedule, rounds, compress, hash_after, digest_bytes, sha1}
use Rattle.vote_core.specs.Voting.{propose, propose_alone, propose_among, on_ask, accept, count_grant, on_grant, raise, count_deny, on_deny, on_floor, on_message, tick}
use Rattle.oath_node.specs.Machine.{made_by_proposal, made_by_ruling, made_by_datagram, made_while_running, made_by_event}
use Rattle.book_law.specs.Lives.{state_after, state_after_action}
use Rattle.book_law.specs.Results.{results_after, results_after_action}
use Rattle.book_law.proofs.laws.books_are_worked.Goals as goal

pub returns-clause-two_orders : goal.returns-clause-two_orders
unfolding code_at first_words schedule rounds compress hash_after digest_bytes sha1 state_after state_after_action results_after results_after_action made_by_event made_while_running made_by_datagram made_by_ruling made_by_proposal propose propose_alone propose_among on_ask accept count_grant on_grant raise count_deny on_deny on_floor on_message tick
returns-clause-two_orders c = refl

pub returns-clause-answered : goal.returns-clause-answered
unfolding code_at first_words schedule rounds compress hash_after digest_bytes sha1 state_after state_after_action results_after results_after_action made_by_event made_while_running made_by_datagram made_by_ruling made_by_proposal propose propose_alone propose_among on_ask accept count_grant on_grant raise count_deny on_deny on_floor on_message tick
returns-clause-answered c = refl

pub returns-clause-other_number : goal.returns-clause-other_number
unfolding code_at first_words schedule rounds compress hash_after digest_bytes sha1 state_after state_after_action results_after results_after_action made_by_event made_while_running made_by_datagram made_by_ruling made_by_proposal propose propose_alone propose_among on_ask accept count_grant on_grant raise count_deny on_deny on_floor on_message tick
returns-clause-other_number c = refl

pub returns-clause-floor_before : goal.returns-clause-floor_before
unfolding code_at first_words schedule rounds compress hash_after digest_bytes sha1 state_after state_after_action results_after results_after_action made_by_event made_while_running made_by_datagram made_by_ruling made_by_proposal propose propose_alone propose_among on_ask accept count_grant on_grant raise count_deny on_deny on_floor on_message tick
returns-clause-floor_before c = refl

pub returns-clause-floor_after : goal.returns-clause-floor_after
unfolding code_at first_words schedule rounds compress hash_after digest_bytes sha1 state_after state_after_action results_after results_after_action made_by_event made_while_running made_by_datagram made_by_ruling made_by_proposal propose propose_alone propose_among on_ask accept count_grant on_grant raise count_deny on_deny on_floor on_message tick
returns-clause-floor_after c = refl

pub returns-clause-floor_of_another : goal.returns-clause-floor_of_another
unfolding code_at first_words schedule rounds compress hash_after digest_bytes sha1 state_after state_after_action results_after results_after_action made_by_event made_while_running made_by_datagram made_by_ruling made_by_proposal propose propose_alone propose_among on_ask accept count_grant on_grant raise count_deny on_deny on_floor on_message tick
returns-clause-floor_of_another c = refl

pub returns-clause-floor_without_a_row : goal.returns-clause-floor_without_a_row
unfolding code_at first_words schedule rounds compress hash_after digest_bytes sha1 state_after state_after_action results_after results_after_action made_by_event made_while_running made_by_datagram made_by_ruling made_by_proposal propose propose_alone propose_among on_ask accept count_grant on_grant raise count_deny on_deny on_floor on_message tick
returns-clause-floor_without_a_row c = refl

pub returns-clause-gone : goal.returns-clause-gone
unfolding code_at first_words schedule rounds compress hash_after digest_bytes sha1 state_after state_after_action results_after results_after_action made_by_event made_while_running made_by_datagram made_by_ruling made_by_proposal propose propose_alone propose_among on_ask accept count_grant on_grant raise count_deny on_deny on_floor on_message tick
returns-clause-gone c = refl

pub returns-clause-floor_of_the_gone : goal.returns-clause-floor_of_the_gone
unfolding code_at first_words schedule rounds compress hash_after digest_bytes sha1 state_after state_after_action results_after results_after_action made_by_event made_while_running made_by_datagram made_by_ruling made_by_proposal propose propose_alone propose_among on_ask accept count_grant on_grant raise count_deny on_deny on_floor on_message tick
returns-clause-floor_of_the_gone c = refl

pub returns-clause-back : goal.returns-clause-back
unfolding code_at first_words schedule rounds compress hash_after digest_bytes sha1 state_after state_after_action results_after results_after_action made_by_event made_while_running made_by_datagram made_by_ruling made_by_proposal propose propose_alone propose_among on_ask accept count_grant on_grant raise count_deny on_deny on_floor on_message tick
returns-clause-back c = refl

pub returns-clause-another_key : goal.returns-clause-another_key
unfolding code_at first_words schedule rounds compress hash_after digest_bytes sha1 state_after state_after_action results_after results_after_action made_by_event made_while_running made_by_datagram made_by_ruling made_by_proposal propose propose_alone propose_among on_ask accept count_grant on_grant raise count_deny on_deny on_floor on_message tick
returns-clause-another_key c = refl

pub returns-clause-floor_under_another_key : goal.returns-clause-floor_under_another_key
unfolding code_at first_words schedule rounds compress hash_after digest_bytes sha1 state_after state_after_action results_after results_after_action made_by_event made_while_running made_by_datagram made_by_ruling made_by_proposal propose propose_alone propose_among on_ask accept count_grant on_grant raise count_deny on_deny on_floor on_message tick
returns-clause-floor_under_another_key c = refl

pub returns-clause-old_envelope : goal.returns-clause-old_envelope
unfolding code_at first_words schedule rounds compress hash_after digest_bytes sha1 state_after state_after_action results_after results_after_action made_by_event made_while_running made_by_datagram made_by_ruling made_by_proposal propose propose_alone propose_among on_ask accept count_grant on_grant raise count_deny on_deny on_floor on_message tick
returns-clause-old_envelope c = refl

pub returns-clause-old_envelope_for_another : goal.returns-clause-old_envelope_for_another
unfolding code_at first_words schedule rounds compress hash_after digest_bytes sha1 state_after state_after_action results_after results_after_action made_by_event made_while_running made_by_datagram made_by_ruling made_by_proposal propose propose_alone propose_among on_ask accept count_grant on_grant raise count_deny on_deny on_floor on_message tick
returns-clause-old_envelope_for_another c = refl

pub returns-clause-told_floor : goal.returns-clause-told_floor
unfolding code_at first_words schedule rounds compress hash_after digest_bytes sha1 state_after state_after_action results_after results_after_action made_by_event made_while_running made_by_datagram made_by_ruling made_by_proposal propose propose_alone propose_among on_ask accept count_grant on_grant raise count_deny on_deny on_floor on_message tick
returns-clause-told_floor c = refl

pub returns-clause-told_floor_of_another : goal.returns-clause-told_floor_of_another
unfolding code_at first_words schedule rounds compress hash_after digest_bytes sha1 state_after state_after_action results_after results_after_action made_by_event made_while_running made_by_datagram made_by_ruling made_by_proposal propose propose_alone propose_among on_ask accept count_grant on_grant raise count_deny on_deny on_floor on_message tick
returns-clause-told_floor_of_another c = refl

pub returns-clause-told_by_another : goal.returns-clause-told_by_another
unfolding code_at first_words schedule rounds compress hash_after digest_bytes sha1 state_after state_after_action results_after results_after_action made_by_event made_while_running made_by_datagram made_by_ruling made_by_proposal propose propose_alone propose_among on_ask accept count_grant on_grant raise count_deny on_deny on_floor on_message tick
returns-clause-told_by_another c = refl

pub returns-clause-told_less : goal.returns-clause-told_less
unfolding code_at first_words schedule rounds compress hash_after digest_bytes sha1 state_after state_after_action results_after results_after_action made_by_event made_while_running made_by_datagram made_by_ruling made_by_proposal propose propose_alone propose_among on_ask accept count_grant on_grant raise count_deny on_deny on_floor on_message tick
returns-clause-told_less c = refl

pub returns-clause-locked_out : goal.returns-clause-locked_out
unfolding code_at first_words schedule rounds compress hash_after digest_bytes sha1 state_after state_after_action results_after results_after_action made_by_event made_while_running made_by_datagram made_by_ruling made_by_proposal propose propose_alone propose_among on_ask accept count_grant on_grant raise count_deny on_deny on_floor on_message tick
returns-clause-locked_out c = refl

pub returns-clause-locked_out_passes : goal.returns-clause-locked_out_passes
unfolding code_at first_words schedule rounds compress hash_after digest_bytes sha1 state_after state_after_action results_after results_after_action made_by_event made_while_running made_by_datagram made_by_ruling made_by_proposal propose propose_alone propose_among on_ask accept count_grant on_grant raise count_deny on_deny on_floor on_message tick
returns-clause-locked_out_passes c = refl

pub returns-clause-seen : goal.returns-clause-seen
unfolding code_at first_words schedule rounds compress hash_after digest_bytes sha1 state_after state_after_action results_after results_after_action made_by_event made_while_running made_by_datagram made_by_ruling made_by_proposal propose propose_alone propose_among on_ask accept count_grant on_grant raise count_deny on_deny on_floor on_message tick
returns-clause-seen c = refl

pub returns-clause-seen_alone : goal.returns-clause-seen_alone
unfolding code_at first_words schedule rounds compress hash_after digest_bytes sha1 state_after state_after_action results_after results_after_action made_by_event made_while_running made_by_datagram made_by_ruling made_by_proposal propose propose_alone propose_among on_ask accept count_grant on_grant raise count_deny on_deny on_floor on_message tick
returns-clause-seen_alone c = refl

pub returns-clause-left : goal.returns-clause-left
unfolding code_at first_words schedule rounds compress hash_after digest_bytes sha1 state_after state_after_action results_after results_after_action made_by_event made_while_running made_by_datagram made_by_ruling made_by_proposal propose propose_alone propose_among on_ask accept count_grant on_grant raise count_deny on_deny on_floor on_message tick
returns-clause-left c = refl

pub returns-clause-left_unseen : goal.returns-clause-left_unseen
unfolding code_at first_words schedule rounds compress hash_after digest_bytes sha1 state_after state_after_action results_after results_after_action made_by_event made_while_running made_by_datagram made_by_ruling made_by_proposal propose propose_alone propose_among on_ask accept count_grant on_grant raise count_deny on_deny on_floor on_message tick
returns-clause-left_unseen c = refl

pub returns-clause-left_with_fewer_rows : goal.returns-clause-left_with_fewer_rows
unfolding code_at first_words schedule rounds compress hash_after digest_bytes sha1 state_after state_after_action results_after results_after_action made_by_event made_while_running made_by_datagram made_by_ruling made_by_proposal propose propose_alone propose_among on_ask accept count_grant on_grant raise count_deny on_deny on_floor on_message tick
returns-clause-left_with_fewer_rows c = refl

pub returns-clause-floors : goal.returns-clause-floors
unfolding code_at first_words schedule rounds compress hash_after digest_bytes sha1 state_after state_after_action results_after results_after_action made_by_event made_while_running made_by_datagram made_by_ruling made_by_proposal propose propose_alone propose_among on_ask accept count_grant on_grant raise count_deny on_deny on_floor on_message tick
returns-clause-floors c = refl

pub returns-clause-unlocked : goal.returns-clause-unlocked
unfolding code_at first_words schedule rounds compress hash_after digest_bytes sha1 state_after state_after_action results_after results_after_action made_by_event made_while_running made_by_datagram made_by_ruling made_by_proposal propose propose_alone propose_among on_ask accept count_grant on_grant raise count_deny on_deny on_floor on_message tick
returns-clause-unlocked c = refl

pub returns-clause-unlocked_without_a_row : goal.returns-clause-unlocked_without_a_row
unfolding code_at first_words schedule rounds compress hash_after digest_bytes sha1 state_after state_after_action results_after results_after_action made_by_event made_while_running made_by_datagram made_by_ruling made_by_proposal propose propose_alone propose_among on_ask accept count_grant on_grant raise count_deny on_deny on_floor on_message tick
returns-clause-unlocked_without_a_row c = refl

pub returns-clause-raised : goal.returns-clause-raised
unfolding code_at first_words schedule rounds compress hash_after digest_bytes sha1 state_after state_after_action results_after results_after_action made_by_event made_while_running made_by_datagram made_by_ruling made_by_proposal propose propose_alone propose_among on_ask accept count_grant on_grant raise count_deny on_deny on_floor on_message tick
returns-clause-raised c = refl

pub returns-clause-raised_lower : goal.returns-clause-raised_lower
unfolding code_at first_words schedule rounds compress hash_after digest_bytes sha1 state_after state_after_action results_after results_after_action made_by_event made_while_running made_by_datagram made_by_ruling made_by_proposal propose propose_alone propose_among on_ask accept count_grant on_grant raise count_deny on_deny on_floor on_message tick
returns-clause-raised_lower c = refl

pub returns-clause-raised_without_a_row : goal.returns-clause-raised_without_a_row
unfolding code_at first_words schedule rounds compress hash_after digest_bytes sha1 state_after state_after_action results_after results_after_action made_by_event made_while_running made_by_datagram made_by_ruling made_by_proposal propose propose_alone propose_among on_ask accept count_grant on_grant raise count_deny on_deny on_floor on_message tick
returns-clause-raised_without_a_row c = refl

pub returns-clause-opens : goal.returns-clause-opens
unfolding code_at first_words schedule rounds compress hash_after digest_bytes sha1 state_after state_after_action results_after results_after_action made_by_event made_while_running made_by_datagram made_by_ruling made_by_proposal propose propose_alone propose_among on_ask accept count_grant on_grant raise count_deny on_deny on_floor on_message tick
returns-clause-opens c = refl

pub returns-clause-no_row : goal.returns-clause-no_row
unfolding code_at first_words schedule rounds compress hash_after digest_bytes sha1 state_after state_after_action results_after results_after_action made_by_event made_while_running made_by_datagram made_by_ruling made_by_proposal propose propose_alone propose_among on_ask accept count_grant on_grant raise count_deny on_deny on_floor on_message tick
returns-clause-no_row c = refl

pub returns-clause-equal_tokens : goal.returns-clause-equal_tokens
unfolding code_at first_words schedule rounds compress hash_after digest_bytes sha1 state_after state_after_action results_after results_after_action made_by_event made_while_running made_by_datagram made_by_ruling made_by_proposal propose propose_alone propose_among on_ask accept count_grant on_grant raise count_deny on_deny on_floor on_message tick
returns-clause-equal_tokens c = refl

pub returns-clause-too_few_seats : goal.returns-clause-too_few_seats
unfolding code_at first_words schedule rounds compress hash_after digest_bytes sha1 state_after state_after_action results_after results_after_action made_by_event made_while_running made_by_datagram made_by_ruling made_by_proposal propose propose_alone propose_among on_ask accept count_grant on_grant raise count_deny on_deny on_floor on_message tick
returns-clause-too_few_seats c = refl

pub returns-clause-one_process : goal.returns-clause-one_process
unfolding code_at first_words schedule rounds compress hash_after digest_bytes sha1 state_after state_after_action results_after results_after_action made_by_event made_while_running made_by_datagram made_by_ruling made_by_proposal propose propose_alone propose_among on_ask accept count_grant on_grant raise count_deny on_deny on_floor on_message tick
returns-clause-one_process c = refl

pub returns-clause-last_boot_opens : goal.returns-clause-last_boot_opens
unfolding code_at first_words schedule rounds compress hash_after digest_bytes sha1 state_after state_after_action results_after results_after_action made_by_event made_while_running made_by_datagram made_by_ruling made_by_proposal propose propose_alone propose_among on_ask accept count_grant on_grant raise count_deny on_deny on_floor on_message tick
returns-clause-last_boot_opens c = refl

pub returns-clause-fails_raised : goal.returns-clause-fails_raised
unfolding code_at first_words schedule rounds compress hash_after digest_bytes sha1 state_after state_after_action results_after results_after_action made_by_event made_while_running made_by_datagram made_by_ruling made_by_proposal propose propose_alone propose_among on_ask accept count_grant on_grant raise count_deny on_deny on_floor on_message tick
returns-clause-fails_raised c = refl

pub returns-clause-fails_early : goal.returns-clause-fails_early
unfolding code_at first_words schedule rounds compress hash_after digest_bytes sha1 state_after state_after_action results_after results_after_action made_by_event made_while_running made_by_datagram made_by_ruling made_by_proposal propose propose_alone propose_among on_ask accept count_grant on_grant raise count_deny on_deny on_floor on_message tick
returns-clause-fails_early c = refl

pub returns-clause-nobody : goal.returns-clause-nobody
unfolding code_at first_words schedule rounds compress hash_after digest_bytes sha1 state_after state_after_action results_after results_after_action made_by_event made_while_running made_by_datagram made_by_ruling made_by_proposal propose propose_alone propose_among on_ask accept count_grant on_grant raise count_deny on_deny on_floor on_message tick
returns-clause-nobody c = refl

pub returns-clause-nothing_to_offer : goal.returns-clause-nothing_to_offer
unfolding code_at first_words schedule rounds compress hash_after digest_bytes sha1 state_after state_after_action results_after results_after_action made_by_event made_while_running made_by_datagram made_by_ruling made_by_proposal propose propose_alone propose_among on_ask accept count_grant on_grant raise count_deny on_deny on_floor on_message tick
returns-clause-nothing_to_offer c = refl

pub returns-clause-no_member : goal.returns-clause-no_member
unfolding code_at first_words schedule rounds compress hash_after digest_bytes sha1 state_after state_after_action results_after results_after_action made_by_event made_while_running made_by_datagram made_by_ruling made_by_proposal propose propose_alone propose_among on_ask accept count_grant on_grant raise count_deny on_deny on_floor on_message tick
returns-clause-no_member c = refl

pub returns-clause-kept : goal.returns-clause-kept
unfolding code_at first_words schedule rounds compress hash_after digest_bytes sha1 state_after state_after_action results_after results_after_action made_by_event made_while_running made_by_datagram made_by_ruling made_by_proposal propose propose_alone propose_among on_ask accept count_grant on_grant raise count_deny on_deny on_floor on_message tick
returns-clause-kept c = refl

pub returns-clause-kept_pass : goal.returns-clause-kept_pass
unfolding code_at first_words schedule rounds compress hash_after digest_bytes sha1 state_after state_after_action results_after results_after_action made_by_event made_while_running made_by_datagram made_by_ruling made_by_proposal propose propose_alone propose_among on_ask accept count_grant on_grant raise count_deny on_deny on_floor on_message tick
returns-clause-kept_pass c = refl

pub returns-clause-dropped : goal.returns-clause-dropped
unfolding code_at first_words schedule rounds compress hash_after digest_bytes sha1 state_after state_after_action results_after results_after_action made_by_event made_while_running made_by_datagram made_by_ruling made_by_proposal propose propose_alone propose_among on_ask accept count_grant on_grant raise count_deny on_deny on_floor on_message tick
returns-clause-dropped c = refl

pub returns-clause-dropped_pass : goal.returns-clause-dropped_pass
unfolding code_at first_words schedule rounds compress hash_after digest_bytes sha1 state_after state_after_action results_after results_after_action made_by_event made_while_running made_by_datagram made_by_ruling made_by_proposal propose propose_alone propose_among on_ask accept count_grant on_grant raise count_deny on_deny on_floor on_message tick
returns-clause-dropped_pass c = refl

pub returns-clause-stopped : goal.returns-clause-stopped
unfolding code_at first_words schedule rounds compress hash_after digest_bytes sha1 state_after state_after_action results_after results_after_action made_by_event made_while_running made_by_datagram made_by_ruling made_by_proposal propose propose_alone propose_among on_ask accept count_grant on_grant raise count_deny on_deny on_floor on_message tick
returns-clause-stopped c = refl

pub returns-clause-enrols : goal.returns-clause-enrols
unfolding code_at first_words schedule rounds compress hash_after digest_bytes sha1 state_after state_after_action results_after results_after_action made_by_event made_while_running made_by_datagram made_by_ruling made_by_proposal propose propose_alone propose_among on_ask accept count_grant on_grant raise count_deny on_deny on_floor on_message tick
returns-clause-enrols c = refl

pub returns-clause-enrols_more : goal.returns-clause-enrols_more
unfolding code_at first_words schedule rounds compress hash_after digest_bytes sha1 state_after state_after_action results_after results_after_action made_by_event made_while_running made_by_datagram made_by_ruling made_by_proposal propose propose_alone propose_among on_ask accept count_grant on_grant raise count_deny on_deny on_floor on_message tick
returns-clause-enrols_more c = refl

pub returns-clause-enrols_again : goal.returns-clause-enrols_again
unfolding code_at first_words schedule rounds compress hash_after digest_bytes sha1 state_after state_after_action results_after results_after_action made_by_event made_while_running made_by_datagram made_by_ruling made_by_proposal propose propose_alone propose_among on_ask accept count_grant on_grant raise count_deny on_deny on_floor on_message tick
returns-clause-enrols_again c = refl

pub returns-clause-enrols_unknown : goal.returns-clause-enrols_unknown
unfolding code_at first_words schedule rounds compress hash_after digest_bytes sha1 state_after state_after_action results_after results_after_action made_by_event made_while_running made_by_datagram made_by_ruling made_by_proposal propose propose_alone propose_among on_ask accept count_grant on_grant raise count_deny on_deny on_floor on_message tick
returns-clause-enrols_unknown c = refl

pub returns-clause-opens_gate : goal.returns-clause-opens_gate
unfolding code_at first_words schedule rounds compress hash_after digest_bytes sha1 state_after state_after_action results_after results_after_action made_by_event made_while_running made_by_datagram made_by_ruling made_by_proposal propose propose_alone propose_among on_ask accept count_grant on_grant raise count_deny on_deny on_floor on_message tick
returns-clause-opens_gate c = refl

pub returns-clause-opens_gate_as_a_command_does : goal.returns-clause-opens_gate_as_a_command_does
unfolding code_at first_words schedule rounds compress hash_after digest_bytes sha1 state_after state_after_action results_after results_after_action made_by_event made_while_running made_by_datagram made_by_ruling made_by_proposal propose propose_alone propose_among on_ask accept count_grant on_grant raise count_deny on_deny on_floor on_message tick
returns-clause-opens_gate_as_a_command_does c = refl

pub returns-clause-opens_an_open_gate : goal.returns-clause-opens_an_open_gate
unfolding code_at first_words schedule rounds compress hash_after digest_bytes sha1 state_after state_after_action results_after results_after_action made_by_event made_while_running made_by_datagram made_by_ruling made_by_proposal propose propose_alone propose_among on_ask accept count_grant on_grant raise count_deny on_deny on_floor on_message tick
returns-clause-opens_an_open_gate c = refl

pub returns-clause-opens_gate_of_another : goal.returns-clause-opens_gate_of_another
unfolding code_at first_words schedule rounds compress hash_after digest_bytes sha1 state_after state_after_action results_after results_after_action made_by_event made_while_running made_by_datagram made_by_ruling made_by_proposal propose propose_alone propose_among on_ask accept count_grant on_grant raise count_deny on_deny on_floor on_message tick
returns-clause-opens_gate_of_another c = refl

pub returns-clause-opens_gate_and_takes : goal.returns-clause-opens_gate_and_takes
unfolding code_at first_words schedule rounds compress hash_after digest_bytes sha1 state_after state_after_action results_after results_after_action made_by_event made_while_running made_by_datagram made_by_ruling made_by_proposal propose propose_alone propose_among on_ask accept count_grant on_grant raise count_deny on_deny on_floor on_message tick
returns-clause-opens_gate_and_takes c = refl

pub returns-clause-opens_gate_and_offers : goal.returns-clause-opens_gate_and_offers
unfolding code_at first_words schedule rounds compress hash_after digest_bytes sha1 state_after state_after_action results_after results_after_action made_by_event made_while_running made_by_datagram made_by_ruling made_by_proposal propose propose_alone propose_among on_ask accept count_grant on_grant raise count_deny on_deny on_floor on_message tick
returns-clause-opens_gate_and_offers c = refl

pub returns-clause-floor_after_opens_gate : goal.returns-clause-floor_after_opens_gate
unfolding code_at first_words schedule rounds compress hash_after digest_bytes sha1 state_after state_after_action results_after results_after_action made_by_event made_while_running made_by_datagram made_by_ruling made_by_proposal propose propose_alone propose_among on_ask accept count_grant on_grant raise count_deny on_deny on_floor on_message tick
returns-clause-floor_after_opens_gate c = refl

pub returns-clause-opens_gate_without_a_seat : goal.returns-clause-opens_gate_without_a_seat
unfolding code_at first_words schedule rounds compress hash_after digest_bytes sha1 state_after state_after_action results_after results_after_action made_by_event made_while_running made_by_datagram made_by_ruling made_by_proposal propose propose_alone propose_among on_ask accept count_grant on_grant raise count_deny on_deny on_floor on_message tick
returns-clause-opens_gate_without_a_seat c = refl

pub returns-clause-opens_gate_without_a_process : goal.returns-clause-opens_gate_without_a_process
unfolding code_at first_words schedule rounds compress hash_after digest_bytes sha1 state_after state_after_action results_after results_after_action made_by_event made_while_running made_by_datagram made_by_ruling made_by_proposal propose propose_alone propose_among on_ask accept count_grant on_grant raise count_deny on_deny on_floor on_message tick
returns-clause-opens_gate_without_a_process c = refl

pub returns-clause-opens_no_gate_of_a_stopped_machine : goal.returns-clause-opens_no_gate_of_a_stopped_machine
unfolding code_at first_words schedule rounds compress hash_after digest_bytes sha1 state_after state_after_action results_after results_after_action made_by_event made_while_running made_by_datagram made_by_ruling made_by_proposal propose propose_alone propose_among on_ask accept count_grant on_grant raise count_deny on_deny on_floor on_message tick
returns-clause-opens_no_gate_of_a_stopped_machine c = refl

pub returns-clause-lost : goal.returns-clause-lost
unfolding code_at first_words schedule rounds compress hash_after digest_bytes sha1 state_after state_after_action results_after results_after_action made_by_event made_while_running made_by_datagram made_by_ruling made_by_proposal propose propose_alone propose_among on_ask accept count_grant on_grant raise count_deny on_deny on_floor on_message tick
returns-clause-lost c = refl

pub returns-clause-lost_acts_not : goal.returns-clause-lost_acts_not
unfolding code_at first_words schedule rounds compress hash_after digest_bytes sha1 state_after state_after_action results_after results_after_action made_by_event made_while_running made_by_datagram made_by_ruling made_by_proposal propose propose_alone propose_among on_ask accept count_grant on_grant raise count_deny on_deny on_floor on_message tick
returns-clause-lost_acts_not c = refl

pub returns-clause-least : goal.returns-clause-least
unfolding code_at first_words schedule rounds compress hash_after digest_bytes sha1 state_after state_after_action results_after results_after_action made_by_event made_while_running made_by_datagram made_by_ruling made_by_proposal propose propose_alone propose_among on_ask accept count_grant on_grant raise count_deny on_deny on_floor on_message tick
returns-clause-least c = refl

pub returns-clause-remade : goal.returns-clause-remade
unfolding code_at first_words schedule rounds compress hash_after digest_bytes sha1 state_after state_after_action results_after results_after_action made_by_event made_while_running made_by_datagram made_by_ruling made_by_proposal propose propose_alone propose_among on_ask accept count_grant on_grant raise count_deny on_deny on_floor on_message tick
returns-clause-remade c = refl

pub returns-clause-remade_has_its_store : goal.returns-clause-remade_has_its_store
unfolding code_at first_words schedule rounds compress hash_after digest_bytes sha1 state_after state_after_action results_after results_after_action made_by_event made_while_running made_by_datagram made_by_ruling made_by_proposal propose propose_alone propose_among on_ask accept count_grant on_grant raise count_deny on_deny on_floor on_message tick
returns-clause-remade_has_its_store c = refl

pub returns-clause-remade_too_low : goal.returns-clause-remade_too_low
unfolding code_at first_words schedule rounds compress hash_after digest_bytes sha1 state_after state_after_action results_after results_after_action made_by_event made_while_running made_by_datagram made_by_ruling made_by_proposal propose propose_alone propose_among on_ask accept count_grant on_grant raise count_deny on_deny on_floor on_message tick
returns-clause-remade_too_low c = refl

pub returns-clause-remade_without : goal.returns-clause-remade_without
unfolding code_at first_words schedule rounds compress hash_after digest_bytes sha1 state_after state_after_action results_after results_after_action made_by_event made_while_running made_by_datagram made_by_ruling made_by_proposal propose propose_alone propose_among on_ask accept count_grant on_grant raise count_deny on_deny on_floor on_message tick
returns-clause-remade_without c = refl

pub returns-clause-remade_unknown : goal.returns-clause-remade_unknown
unfolding code_at first_words schedule rounds compress hash_after digest_bytes sha1 state_after state_after_action results_after results_after_action made_by_event made_while_running made_by_datagram made_by_ruling made_by_proposal propose propose_alone propose_among on_ask accept count_grant on_grant raise count_deny on_deny on_floor on_message tick
returns-clause-remade_unknown c = refl

pub returns-clause-remade_twice : goal.returns-clause-remade_twice
unfolding code_at first_words schedule rounds compress hash_after digest_bytes sha1 state_after state_after_action results_after results_after_action made_by_event made_while_running made_by_datagram made_by_ruling made_by_proposal propose propose_alone propose_among on_ask accept count_grant on_grant raise count_deny on_deny on_floor on_message tick
returns-clause-remade_twice c = refl

pub returns-clause-remade_in_a_used_boot : goal.returns-clause-remade_in_a_used_boot
unfolding code_at first_words schedule rounds compress hash_after digest_bytes sha1 state_after state_after_action results_after results_after_action made_by_event made_while_running made_by_datagram made_by_ruling made_by_proposal propose propose_alone propose_among on_ask accept count_grant on_grant raise count_deny on_deny on_floor on_message tick
returns-clause-remade_in_a_used_boot c = refl

pub returns-clause-remade_past_the_last_boot : goal.returns-clause-remade_past_the_last_boot
unfolding code_at first_words schedule rounds compress hash_after digest_bytes sha1 state_after state_after_action results_after results_after_action made_by_event made_while_running made_by_datagram made_by_ruling made_by_proposal propose propose_alone propose_among on_ask accept count_grant on_grant raise count_deny on_deny on_floor on_message tick
returns-clause-remade_past_the_last_boot c = refl

pub returns-clause-remade_without_a_majority : goal.returns-clause-remade_without_a_majority
unfolding code_at first_words schedule rounds compress hash_after digest_bytes sha1 state_after state_after_action results_after results_after_action made_by_event made_while_running made_by_datagram made_by_ruling made_by_proposal propose propose_alone propose_among on_ask accept count_grant on_grant raise count_deny on_deny on_floor on_message tick
returns-clause-remade_without_a_majority c = refl

pub returns-clause-remade_unlost : goal.returns-clause-remade_unlost
unfolding code_at first_words schedule rounds compress hash_after digest_bytes sha1 state_after state_after_action results_after results_after_action made_by_event made_while_running made_by_datagram made_by_ruling made_by_proposal propose propose_alone propose_among on_ask accept count_grant on_grant raise count_deny on_deny on_floor on_message tick
returns-clause-remade_unlost c = refl

pub returns-clause-failures : goal.returns-clause-failures
unfolding code_at first_words schedule rounds compress hash_after digest_bytes sha1 state_after state_after_action results_after results_after_action made_by_event made_while_running made_by_datagram made_by_ruling made_by_proposal propose propose_alone propose_among on_ask accept count_grant on_grant raise count_deny on_deny on_floor on_message tick
returns-clause-failures c = refl

pub returns-clause-failures_of_another : goal.returns-clause-failures_of_another
unfolding code_at first_words schedule rounds compress hash_after digest_bytes sha1 state_after state_after_action results_after results_after_action made_by_event made_while_running made_by_datagram made_by_ruling made_by_proposal propose propose_alone propose_among on_ask accept count_grant on_grant raise count_deny on_deny on_floor on_message tick
returns-clause-failures_of_another c = refl

pub returns-clause-failures_elsewhere : goal.returns-clause-failures_elsewhere
unfolding code_at first_words schedule rounds compress hash_after digest_bytes sha1 state_after state_after_action results_after results_after_action made_by_event made_while_running made_by_datagram made_by_ruling made_by_proposal propose propose_alone propose_among on_ask accept count_grant on_grant raise count_deny on_deny on_floor on_message tick
returns-clause-failures_elsewhere c = refl

pub returns-clause-passed : goal.returns-clause-passed
unfolding code_at first_words schedule rounds compress hash_after digest_bytes sha1 state_after state_after_action results_after results_after_action made_by_event made_while_running made_by_datagram made_by_ruling made_by_proposal propose propose_alone propose_among on_ask accept count_grant on_grant raise count_deny on_deny on_floor on_message tick
returns-clause-passed c = refl

pub returns-clause-passed_in_a_stop : goal.returns-clause-passed_in_a_stop
unfolding code_at first_words schedule rounds compress hash_after digest_bytes sha1 state_after state_after_action results_after results_after_action made_by_event made_while_running made_by_datagram made_by_ruling made_by_proposal propose propose_alone propose_among on_ask accept count_grant on_grant raise count_deny on_deny on_floor on_message tick
returns-clause-passed_in_a_stop c = refl

pub returns-clause-not_passed_in_a_stop : goal.returns-clause-not_passed_in_a_stop
unfolding code_at first_words schedule rounds compress hash_after digest_bytes sha1 state_after state_after_action results_after results_after_action made_by_event made_while_running made_by_datagram made_by_ruling made_by_proposal propose propose_alone propose_among on_ask accept count_grant on_grant raise count_deny on_deny on_floor on_message tick
returns-clause-not_passed_in_a_stop c = refl

pub returns-clause-unlocking : goal.returns-clause-unlocking
unfolding code_at first_words schedule rounds compress hash_after digest_bytes sha1 state_after state_after_action results_after results_after_action made_by_event made_while_running made_by_datagram made_by_ruling made_by_proposal propose propose_alone propose_among on_ask accept count_grant on_grant raise count_deny on_deny on_floor on_message tick
returns-clause-unlocking c = refl

pub returns-clause-unlocking_of_another : goal.returns-clause-unlocking_of_another
unfolding code_at first_words schedule rounds compress hash_after digest_bytes sha1 state_after state_after_action results_after results_after_action made_by_event made_while_running made_by_datagram made_by_ruling made_by_proposal propose propose_alone propose_among on_ask accept count_grant on_grant raise count_deny on_deny on_floor on_message tick
returns-clause-unlocking_of_another c = refl

pub returns-clause-unlocking_without_a_row : goal.returns-clause-unlocking_without_a_row
unfolding code_at first_words schedule rounds compress hash_after digest_bytes sha1 state_after state_after_action results_after results_after_action made_by_event made_while_running made_by_datagram made_by_ruling made_by_proposal propose propose_alone propose_among on_ask accept count_grant on_grant raise count_deny on_deny on_floor on_message tick
returns-clause-unlocking_without_a_row c = refl

pub returns-clause-unlocking_of_a_served_store : goal.returns-clause-unlocking_of_a_served_store
unfolding code_at first_words schedule rounds compress hash_after digest_bytes sha1 state_after state_after_action results_after results_after_action made_by_event made_while_running made_by_datagram made_by_ruling made_by_proposal propose propose_alone propose_among on_ask accept count_grant on_grant raise count_deny on_deny on_floor on_message tick
returns-clause-unlocking_of_a_served_store c = refl

pub returns-clause-unlocking_of_a_process : goal.returns-clause-unlocking_of_a_process
unfolding code_at first_words schedule rounds compress hash_after digest_bytes sha1 state_after state_after_action results_after results_after_action made_by_event made_while_running made_by_datagram made_by_ruling made_by_proposal propose propose_alone propose_among on_ask accept count_grant on_grant raise count_deny on_deny on_floor on_message tick
returns-clause-unlocking_of_a_process c = refl

pub returns-clause-unlocking_of_another_at_a_process : goal.returns-clause-unlocking_of_another_at_a_process
unfolding code_at first_words schedule rounds compress hash_after digest_bytes sha1 state_after state_after_action results_after results_after_action made_by_event made_while_running made_by_datagram made_by_ruling made_by_proposal propose propose_alone propose_among on_ask accept count_grant on_grant raise count_deny on_deny on_floor on_message tick
returns-clause-unlocking_of_another_at_a_process c = refl

pub returns-clause-unlocking_without_a_seat : goal.returns-clause-unlocking_without_a_seat
unfolding code_at first_words schedule rounds compress hash_after digest_bytes sha1 state_after state_after_action results_after results_after_action made_by_event made_while_running made_by_datagram made_by_ruling made_by_proposal propose propose_alone propose_among on_ask accept count_grant on_grant raise count_deny on_deny on_floor on_message tick
returns-clause-unlocking_without_a_seat c = refl

pub returns-clause-unlocking_without_a_process : goal.returns-clause-unlocking_without_a_process
unfolding code_at first_words schedule rounds compress hash_after digest_bytes sha1 state_after state_after_action results_after results_after_action made_by_event made_while_running made_by_datagram made_by_ruling made_by_proposal propose propose_alone propose_among on_ask accept count_grant on_grant raise count_deny on_deny on_floor on_message tick
returns-clause-unlocking_without_a_process c = refl

pub returns-clause-results_of_a_lost_store : goal.returns-clause-results_of_a_lost_store
unfolding code_at first_words schedule rounds compress hash_after digest_bytes sha1 state_after state_after_action results_after results_after_action made_by_event made_while_running made_by_datagram made_by_ruling made_by_proposal propose propose_alone propose_among on_ask accept count_grant on_grant raise count_deny on_deny on_floor on_message tick
returns-clause-results_of_a_lost_store c = refl

pub returns-clause-results_of_a_replacement : goal.returns-clause-results_of_a_replacement
unfolding code_at first_words schedule rounds compress hash_after digest_bytes sha1 state_after state_after_action results_after results_after_action made_by_event made_while_running made_by_datagram made_by_ruling made_by_proposal propose propose_alone propose_among on_ask accept count_grant on_grant raise count_deny on_deny on_floor on_message tick
returns-clause-results_of_a_replacement c = refl

pub returns-clause-results_of_no_member : goal.returns-clause-results_of_no_member
unfolding code_at first_words schedule rounds compress hash_after digest_bytes sha1 state_after state_after_action results_after results_after_action made_by_event made_while_running made_by_datagram made_by_ruling made_by_proposal propose propose_alone propose_among on_ask accept count_grant on_grant raise count_deny on_deny on_floor on_message tick
returns-clause-results_of_no_member c = refl
