-- Each script is computed, the hash with it.
use Rattle.std.proofs.Common.{refl}
use Rattle.admit_core.specs.Fit.{code_at}
use Rattle.sha1.specs.Sha1.{first_words, schedule, rounds, compress, hash_after, digest_bytes, sha1}
use Rattle.vote_core.specs.Voting.{propose, propose_alone, propose_among, on_ask, accept, count_grant, on_grant, raise, count_deny, on_deny, on_floor, on_message, tick}
use Rattle.oath_node.specs.Machine.{made_by_proposal, made_by_ruling, made_by_datagram, made_while_running, made_by_event}
use Rattle.cluster_sim.specs.SingleNode.{reference_answers}
use Rattle.cluster_sim.specs.World.{world_with_made, world_after_turn, world_after_act, world_after_restart, world_after_loss, world_after_anew, world_after_event, world_after_events}
use Rattle.cluster_sim.proofs.laws.losses_are_worked.Goals as goal

pub returns-clause-made_anew : goal.returns-clause-made_anew
unfolding code_at first_words schedule rounds compress hash_after digest_bytes sha1 world_after_events world_after_event world_after_act world_after_turn world_with_made world_after_restart world_after_loss world_after_anew made_by_event made_while_running made_by_datagram made_by_ruling made_by_proposal propose propose_alone propose_among on_ask accept count_grant on_grant raise count_deny on_deny on_floor on_message tick reference_answers
returns-clause-made_anew c = refl

pub returns-clause-boot_anew : goal.returns-clause-boot_anew
unfolding code_at first_words schedule rounds compress hash_after digest_bytes sha1 world_after_events world_after_event world_after_act world_after_turn world_with_made world_after_restart world_after_loss world_after_anew made_by_event made_while_running made_by_datagram made_by_ruling made_by_proposal propose propose_alone propose_among on_ask accept count_grant on_grant raise count_deny on_deny on_floor on_message tick reference_answers
returns-clause-boot_anew c = refl

pub returns-clause-at_the_last_boot : goal.returns-clause-at_the_last_boot
unfolding code_at first_words schedule rounds compress hash_after digest_bytes sha1 world_after_events world_after_event world_after_act world_after_turn world_with_made world_after_restart world_after_loss world_after_anew made_by_event made_while_running made_by_datagram made_by_ruling made_by_proposal propose propose_alone propose_among on_ask accept count_grant on_grant raise count_deny on_deny on_floor on_message tick reference_answers
returns-clause-at_the_last_boot c = refl

pub returns-clause-too_low : goal.returns-clause-too_low
unfolding code_at first_words schedule rounds compress hash_after digest_bytes sha1 world_after_events world_after_event world_after_act world_after_turn world_with_made world_after_restart world_after_loss world_after_anew made_by_event made_while_running made_by_datagram made_by_ruling made_by_proposal propose propose_alone propose_among on_ask accept count_grant on_grant raise count_deny on_deny on_floor on_message tick reference_answers
returns-clause-too_low c = refl

pub returns-clause-no_floors : goal.returns-clause-no_floors
unfolding code_at first_words schedule rounds compress hash_after digest_bytes sha1 world_after_events world_after_event world_after_act world_after_turn world_with_made world_after_restart world_after_loss world_after_anew made_by_event made_while_running made_by_datagram made_by_ruling made_by_proposal propose propose_alone propose_among on_ask accept count_grant on_grant raise count_deny on_deny on_floor on_message tick reference_answers
returns-clause-no_floors c = refl

pub returns-clause-at_a_used_boot : goal.returns-clause-at_a_used_boot
unfolding code_at first_words schedule rounds compress hash_after digest_bytes sha1 world_after_events world_after_event world_after_act world_after_turn world_with_made world_after_restart world_after_loss world_after_anew made_by_event made_while_running made_by_datagram made_by_ruling made_by_proposal propose propose_alone propose_among on_ask accept count_grant on_grant raise count_deny on_deny on_floor on_message tick reference_answers
returns-clause-at_a_used_boot c = refl

pub returns-clause-past_the_last_boot : goal.returns-clause-past_the_last_boot
unfolding code_at first_words schedule rounds compress hash_after digest_bytes sha1 world_after_events world_after_event world_after_act world_after_turn world_with_made world_after_restart world_after_loss world_after_anew made_by_event made_while_running made_by_datagram made_by_ruling made_by_proposal propose propose_alone propose_among on_ask accept count_grant on_grant raise count_deny on_deny on_floor on_message tick reference_answers
returns-clause-past_the_last_boot c = refl

pub returns-clause-not_lost : goal.returns-clause-not_lost
unfolding code_at first_words schedule rounds compress hash_after digest_bytes sha1 world_after_events world_after_event world_after_act world_after_turn world_with_made world_after_restart world_after_loss world_after_anew made_by_event made_while_running made_by_datagram made_by_ruling made_by_proposal propose propose_alone propose_among on_ask accept count_grant on_grant raise count_deny on_deny on_floor on_message tick reference_answers
returns-clause-not_lost c = refl

pub returns-clause-there : goal.returns-clause-there
unfolding code_at first_words schedule rounds compress hash_after digest_bytes sha1 world_after_events world_after_event world_after_act world_after_turn world_with_made world_after_restart world_after_loss world_after_anew made_by_event made_while_running made_by_datagram made_by_ruling made_by_proposal propose propose_alone propose_among on_ask accept count_grant on_grant raise count_deny on_deny on_floor on_message tick reference_answers
returns-clause-there c = refl

pub returns-clause-no_member : goal.returns-clause-no_member
unfolding code_at first_words schedule rounds compress hash_after digest_bytes sha1 world_after_events world_after_event world_after_act world_after_turn world_with_made world_after_restart world_after_loss world_after_anew made_by_event made_while_running made_by_datagram made_by_ruling made_by_proposal propose propose_alone propose_among on_ask accept count_grant on_grant raise count_deny on_deny on_floor on_message tick reference_answers
returns-clause-no_member c = refl

pub returns-clause-two_of_three : goal.returns-clause-two_of_three
unfolding code_at first_words schedule rounds compress hash_after digest_bytes sha1 world_after_events world_after_event world_after_act world_after_turn world_with_made world_after_restart world_after_loss world_after_anew made_by_event made_while_running made_by_datagram made_by_ruling made_by_proposal propose propose_alone propose_among on_ask accept count_grant on_grant raise count_deny on_deny on_floor on_message tick reference_answers
returns-clause-two_of_three c = refl

pub returns-clause-one_of_two : goal.returns-clause-one_of_two
unfolding code_at first_words schedule rounds compress hash_after digest_bytes sha1 world_after_events world_after_event world_after_act world_after_turn world_with_made world_after_restart world_after_loss world_after_anew made_by_event made_while_running made_by_datagram made_by_ruling made_by_proposal propose propose_alone propose_among on_ask accept count_grant on_grant raise count_deny on_deny on_floor on_message tick reference_answers
returns-clause-one_of_two c = refl

pub returns-clause-without_a_store : goal.returns-clause-without_a_store
unfolding code_at first_words schedule rounds compress hash_after digest_bytes sha1 world_after_events world_after_event world_after_act world_after_turn world_with_made world_after_restart world_after_loss world_after_anew made_by_event made_while_running made_by_datagram made_by_ruling made_by_proposal propose propose_alone propose_among on_ask accept count_grant on_grant raise count_deny on_deny on_floor on_message tick reference_answers
returns-clause-without_a_store c = refl

pub returns-clause-alone : goal.returns-clause-alone
unfolding code_at first_words schedule rounds compress hash_after digest_bytes sha1 world_after_events world_after_event world_after_act world_after_turn world_with_made world_after_restart world_after_loss world_after_anew made_by_event made_while_running made_by_datagram made_by_ruling made_by_proposal propose propose_alone propose_among on_ask accept count_grant on_grant raise count_deny on_deny on_floor on_message tick reference_answers
returns-clause-alone c = refl

pub returns-clause-alone_as_the_server : goal.returns-clause-alone_as_the_server
unfolding code_at first_words schedule rounds compress hash_after digest_bytes sha1 world_after_events world_after_event world_after_act world_after_turn world_with_made world_after_restart world_after_loss world_after_anew made_by_event made_while_running made_by_datagram made_by_ruling made_by_proposal propose propose_alone propose_among on_ask accept count_grant on_grant raise count_deny on_deny on_floor on_message tick reference_answers
returns-clause-alone_as_the_server c = refl

pub returns-clause-answers : goal.returns-clause-answers
unfolding code_at first_words schedule rounds compress hash_after digest_bytes sha1 world_after_events world_after_event world_after_act world_after_turn world_with_made world_after_restart world_after_loss world_after_anew made_by_event made_while_running made_by_datagram made_by_ruling made_by_proposal propose propose_alone propose_among on_ask accept count_grant on_grant raise count_deny on_deny on_floor on_message tick reference_answers
returns-clause-answers c = refl

pub returns-clause-gates : goal.returns-clause-gates
unfolding code_at first_words schedule rounds compress hash_after digest_bytes sha1 world_after_events world_after_event world_after_act world_after_turn world_with_made world_after_restart world_after_loss world_after_anew made_by_event made_while_running made_by_datagram made_by_ruling made_by_proposal propose propose_alone propose_among on_ask accept count_grant on_grant raise count_deny on_deny on_floor on_message tick reference_answers
returns-clause-gates c = refl

pub returns-clause-results : goal.returns-clause-results
unfolding code_at first_words schedule rounds compress hash_after digest_bytes sha1 world_after_events world_after_event world_after_act world_after_turn world_with_made world_after_restart world_after_loss world_after_anew made_by_event made_while_running made_by_datagram made_by_ruling made_by_proposal propose propose_alone propose_among on_ask accept count_grant on_grant raise count_deny on_deny on_floor on_message tick reference_answers
returns-clause-results c = refl

pub returns-clause-results_anew : goal.returns-clause-results_anew
unfolding code_at first_words schedule rounds compress hash_after digest_bytes sha1 world_after_events world_after_event world_after_act world_after_turn world_with_made world_after_restart world_after_loss world_after_anew made_by_event made_while_running made_by_datagram made_by_ruling made_by_proposal propose propose_alone propose_among on_ask accept count_grant on_grant raise count_deny on_deny on_floor on_message tick reference_answers
returns-clause-results_anew c = refl

pub returns-clause-drift : goal.returns-clause-drift
unfolding code_at first_words schedule rounds compress hash_after digest_bytes sha1 world_after_events world_after_event world_after_act world_after_turn world_with_made world_after_restart world_after_loss world_after_anew made_by_event made_while_running made_by_datagram made_by_ruling made_by_proposal propose propose_alone propose_among on_ask accept count_grant on_grant raise count_deny on_deny on_floor on_message tick reference_answers
returns-clause-drift c = refl

pub returns-clause-drift_anew : goal.returns-clause-drift_anew
unfolding code_at first_words schedule rounds compress hash_after digest_bytes sha1 world_after_events world_after_event world_after_act world_after_turn world_with_made world_after_restart world_after_loss world_after_anew made_by_event made_while_running made_by_datagram made_by_ruling made_by_proposal propose propose_alone propose_among on_ask accept count_grant on_grant raise count_deny on_deny on_floor on_message tick reference_answers
returns-clause-drift_anew c = refl

pub returns-clause-other_drift : goal.returns-clause-other_drift
unfolding code_at first_words schedule rounds compress hash_after digest_bytes sha1 world_after_events world_after_event world_after_act world_after_turn world_with_made world_after_restart world_after_loss world_after_anew made_by_event made_while_running made_by_datagram made_by_ruling made_by_proposal propose propose_alone propose_among on_ask accept count_grant on_grant raise count_deny on_deny on_floor on_message tick reference_answers
returns-clause-other_drift c = refl
