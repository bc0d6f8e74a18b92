-- Each script is computed, the hash with it.
use Rattle.std.proofs.Common.{refl}
use Rattle.admit_core.specs.Fit.{code_at}
use Rattle.sha1.specs.Sha1.{first_words, schedule, rounds, compress, hash_after, digest_bytes, sha1}
use Rattle.vote_core.specs.Voting.{propose, propose_alone, propose_among, on_ask, accept, count_grant, on_grant, raise, count_deny, on_deny, on_floor, on_message, tick}
use Rattle.oath_node.specs.Machine.{made_by_proposal, made_by_ruling, made_by_datagram, made_while_running, made_by_event}
use Rattle.cluster_sim.specs.World.{world_with_made, world_after_turn, world_after_act, world_after_restart, world_after_event, world_after_events}
use Rattle.cluster_sim.proofs.laws.scripts_are_worked.Goals as goal

pub returns-clause-two_submissions : goal.returns-clause-two_submissions
unfolding code_at first_words schedule rounds compress hash_after digest_bytes sha1 world_after_events world_after_event world_after_act world_after_turn world_with_made world_after_restart made_by_event made_while_running made_by_datagram made_by_ruling made_by_proposal propose propose_alone propose_among on_ask accept count_grant on_grant raise count_deny on_deny on_floor on_message tick
returns-clause-two_submissions c = refl

pub returns-clause-split : goal.returns-clause-split
unfolding code_at first_words schedule rounds compress hash_after digest_bytes sha1 world_after_events world_after_event world_after_act world_after_turn world_with_made world_after_restart made_by_event made_while_running made_by_datagram made_by_ruling made_by_proposal propose propose_alone propose_among on_ask accept count_grant on_grant raise count_deny on_deny on_floor on_message tick
returns-clause-split c = refl

pub returns-clause-stop_kept : goal.returns-clause-stop_kept
unfolding code_at first_words schedule rounds compress hash_after digest_bytes sha1 world_after_events world_after_event world_after_act world_after_turn world_with_made world_after_restart made_by_event made_while_running made_by_datagram made_by_ruling made_by_proposal propose propose_alone propose_among on_ask accept count_grant on_grant raise count_deny on_deny on_floor on_message tick
returns-clause-stop_kept c = refl

pub returns-clause-stop_lost : goal.returns-clause-stop_lost
unfolding code_at first_words schedule rounds compress hash_after digest_bytes sha1 world_after_events world_after_event world_after_act world_after_turn world_with_made world_after_restart made_by_event made_while_running made_by_datagram made_by_ruling made_by_proposal propose propose_alone propose_among on_ask accept count_grant on_grant raise count_deny on_deny on_floor on_message tick
returns-clause-stop_lost c = refl

pub returns-clause-old_grants : goal.returns-clause-old_grants
unfolding code_at first_words schedule rounds compress hash_after digest_bytes sha1 world_after_events world_after_event world_after_act world_after_turn world_with_made world_after_restart made_by_event made_while_running made_by_datagram made_by_ruling made_by_proposal propose propose_alone propose_among on_ask accept count_grant on_grant raise count_deny on_deny on_floor on_message tick
returns-clause-old_grants c = refl

pub returns-clause-timeout : goal.returns-clause-timeout
unfolding code_at first_words schedule rounds compress hash_after digest_bytes sha1 world_after_events world_after_event world_after_act world_after_turn world_with_made world_after_restart made_by_event made_while_running made_by_datagram made_by_ruling made_by_proposal propose propose_alone propose_among on_ask accept count_grant on_grant raise count_deny on_deny on_floor on_message tick
returns-clause-timeout c = refl

pub returns-clause-elsewhere : goal.returns-clause-elsewhere
unfolding code_at first_words schedule rounds compress hash_after digest_bytes sha1 world_after_events world_after_event world_after_act world_after_turn world_with_made world_after_restart made_by_event made_while_running made_by_datagram made_by_ruling made_by_proposal propose propose_alone propose_among on_ask accept count_grant on_grant raise count_deny on_deny on_floor on_message tick
returns-clause-elsewhere c = refl

pub returns-clause-one_voter_twice : goal.returns-clause-one_voter_twice
unfolding code_at first_words schedule rounds compress hash_after digest_bytes sha1 world_after_events world_after_event world_after_act world_after_turn world_with_made world_after_restart made_by_event made_while_running made_by_datagram made_by_ruling made_by_proposal propose propose_alone propose_among on_ask accept count_grant on_grant raise count_deny on_deny on_floor on_message tick
returns-clause-one_voter_twice c = refl

pub returns-clause-span_against_one : goal.returns-clause-span_against_one
unfolding code_at first_words schedule rounds compress hash_after digest_bytes sha1 world_after_events world_after_event world_after_act world_after_turn world_with_made world_after_restart made_by_event made_while_running made_by_datagram made_by_ruling made_by_proposal propose propose_alone propose_among on_ask accept count_grant on_grant raise count_deny on_deny on_floor on_message tick
returns-clause-span_against_one c = refl

pub returns-clause-nothing_happens : goal.returns-clause-nothing_happens
unfolding code_at first_words schedule rounds compress hash_after digest_bytes sha1 world_after_events world_after_event world_after_act world_after_turn world_with_made world_after_restart made_by_event made_while_running made_by_datagram made_by_ruling made_by_proposal propose propose_alone propose_among on_ask accept count_grant on_grant raise count_deny on_deny on_floor on_message tick
returns-clause-nothing_happens c = refl

pub returns-clause-fresh_token : goal.returns-clause-fresh_token
unfolding code_at first_words schedule rounds compress hash_after digest_bytes sha1 world_after_events world_after_event world_after_act world_after_turn world_with_made world_after_restart made_by_event made_while_running made_by_datagram made_by_ruling made_by_proposal propose propose_alone propose_among on_ask accept count_grant on_grant raise count_deny on_deny on_floor on_message tick
returns-clause-fresh_token c = refl

pub returns-clause-resynchronization : goal.returns-clause-resynchronization
unfolding code_at first_words schedule rounds compress hash_after digest_bytes sha1 world_after_events world_after_event world_after_act world_after_turn world_with_made world_after_restart made_by_event made_while_running made_by_datagram made_by_ruling made_by_proposal propose propose_alone propose_among on_ask accept count_grant on_grant raise count_deny on_deny on_floor on_message tick
returns-clause-resynchronization c = refl

pub returns-clause-gate_survives_restart : goal.returns-clause-gate_survives_restart
unfolding code_at first_words schedule rounds compress hash_after digest_bytes sha1 world_after_events world_after_event world_after_act world_after_turn world_with_made world_after_restart made_by_event made_while_running made_by_datagram made_by_ruling made_by_proposal propose propose_alone propose_among on_ask accept count_grant on_grant raise count_deny on_deny on_floor on_message tick
returns-clause-gate_survives_restart c = refl

pub returns-clause-password_column : goal.returns-clause-password_column
unfolding code_at first_words schedule rounds compress hash_after digest_bytes sha1 world_after_events world_after_event world_after_act world_after_turn world_with_made world_after_restart made_by_event made_while_running made_by_datagram made_by_ruling made_by_proposal propose propose_alone propose_among on_ask accept count_grant on_grant raise count_deny on_deny on_floor on_message tick
returns-clause-password_column c = refl

pub returns-clause-exhausted : goal.returns-clause-exhausted
unfolding code_at first_words schedule rounds compress hash_after digest_bytes sha1 world_after_events world_after_event world_after_act world_after_turn world_with_made world_after_restart made_by_event made_while_running made_by_datagram made_by_ruling made_by_proposal propose propose_alone propose_among on_ask accept count_grant on_grant raise count_deny on_deny on_floor on_message tick
returns-clause-exhausted c = refl

pub returns-clause-refusal_again : goal.returns-clause-refusal_again
unfolding code_at first_words schedule rounds compress hash_after digest_bytes sha1 world_after_events world_after_event world_after_act world_after_turn world_with_made world_after_restart made_by_event made_while_running made_by_datagram made_by_ruling made_by_proposal propose propose_alone propose_among on_ask accept count_grant on_grant raise count_deny on_deny on_floor on_message tick
returns-clause-refusal_again c = refl
