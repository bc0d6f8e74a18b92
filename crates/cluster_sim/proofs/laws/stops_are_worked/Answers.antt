-- Each script is computed, the hash with it.
use Rattle.std.proofs.Common.{refl}
use Rattle.admit_core.specs.Fit.{code_at}
use Rattle.sha1.specs.Sha1.{first_words, schedule, rounds, compress, hash_after, digest_bytes, sha1}
use Rattle.vote_core.specs.Voting.{propose, propose_alone, propose_among, on_ask, accept, count_grant, on_grant, raise, count_deny, on_deny, on_floor, on_message, tick}
use Rattle.oath_node.specs.Machine.{made_by_proposal, made_by_ruling, made_by_datagram, made_while_running, made_by_event}
use Rattle.cluster_sim.specs.World.{world_with_made, world_after_turn, world_after_act, world_after_restart, world_after_event, world_after_events}
use Rattle.cluster_sim.proofs.laws.stops_are_worked.Goals as goal

pub returns-clause-before_accepting : goal.returns-clause-before_accepting
unfolding code_at first_words schedule rounds compress hash_after digest_bytes sha1 world_after_events world_after_event world_after_act world_after_turn world_with_made world_after_restart made_by_event made_while_running made_by_datagram made_by_ruling made_by_proposal propose propose_alone propose_among on_ask accept count_grant on_grant raise count_deny on_deny on_floor on_message tick
returns-clause-before_accepting c = refl

pub returns-clause-of_nothing : goal.returns-clause-of_nothing
unfolding code_at first_words schedule rounds compress hash_after digest_bytes sha1 world_after_events world_after_event world_after_act world_after_turn world_with_made world_after_restart made_by_event made_while_running made_by_datagram made_by_ruling made_by_proposal propose propose_alone propose_among on_ask accept count_grant on_grant raise count_deny on_deny on_floor on_message tick
returns-clause-of_nothing c = refl

pub returns-clause-in_noise : goal.returns-clause-in_noise
unfolding code_at first_words schedule rounds compress hash_after digest_bytes sha1 world_after_events world_after_event world_after_act world_after_turn world_with_made world_after_restart made_by_event made_while_running made_by_datagram made_by_ruling made_by_proposal propose propose_alone propose_among on_ask accept count_grant on_grant raise count_deny on_deny on_floor on_message tick
returns-clause-in_noise c = refl

pub returns-clause-in_a_tick : goal.returns-clause-in_a_tick
unfolding code_at first_words schedule rounds compress hash_after digest_bytes sha1 world_after_events world_after_event world_after_act world_after_turn world_with_made world_after_restart made_by_event made_while_running made_by_datagram made_by_ruling made_by_proposal propose propose_alone propose_among on_ask accept count_grant on_grant raise count_deny on_deny on_floor on_message tick
returns-clause-in_a_tick c = refl

pub returns-clause-in_a_line_kept : goal.returns-clause-in_a_line_kept
unfolding code_at first_words schedule rounds compress hash_after digest_bytes sha1 world_after_events world_after_event world_after_act world_after_turn world_with_made world_after_restart made_by_event made_while_running made_by_datagram made_by_ruling made_by_proposal propose propose_alone propose_among on_ask accept count_grant on_grant raise count_deny on_deny on_floor on_message tick
returns-clause-in_a_line_kept c = refl

pub returns-clause-in_a_line_lost : goal.returns-clause-in_a_line_lost
unfolding code_at first_words schedule rounds compress hash_after digest_bytes sha1 world_after_events world_after_event world_after_act world_after_turn world_with_made world_after_restart made_by_event made_while_running made_by_datagram made_by_ruling made_by_proposal propose propose_alone propose_among on_ask accept count_grant on_grant raise count_deny on_deny on_floor on_message tick
returns-clause-in_a_line_lost c = refl
