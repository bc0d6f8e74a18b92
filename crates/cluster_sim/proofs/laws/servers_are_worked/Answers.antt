-- The lines are computed, the hash with them.
use Rattle.std.proofs.Common.{refl}
use Rattle.std.specs.Fmt.{digits}
use Rattle.admit_core.specs.Fit.{code_at}
use Rattle.sha1.specs.Sha1.{first_words, schedule, rounds, compress, hash_after, digest_bytes, sha1}
use Rattle.vote_core.specs.Voting.{propose, propose_among, on_ask, accept, count_grant, on_grant, on_message}
use Rattle.oath_node.specs.Machine.{made_by_proposal, made_by_ruling, made_by_datagram, made_while_running, made_by_event}
use Rattle.cluster_sim.specs.World.{world_with_made, world_after_turn, world_after_act, world_after_event, world_after_events}
use Rattle.cluster_sim.proofs.laws.servers_are_worked.Goals as goal

pub returns-clause-answers : goal.returns-clause-answers
unfolding code_at first_words schedule rounds compress hash_after digest_bytes sha1 digits
returns-clause-answers c = refl

pub returns-clause-results : goal.returns-clause-results
unfolding code_at first_words schedule rounds compress hash_after digest_bytes sha1 digits
returns-clause-results c = refl

pub returns-clause-drifts : goal.returns-clause-drifts
unfolding code_at first_words schedule rounds compress hash_after digest_bytes sha1 digits
returns-clause-drifts c = refl

pub returns-clause-stands_for : goal.returns-clause-stands_for
unfolding code_at first_words schedule rounds compress hash_after digest_bytes sha1 digits world_after_events world_after_event world_after_act world_after_turn world_with_made made_by_event made_while_running made_by_datagram made_by_ruling made_by_proposal propose propose_among on_ask accept count_grant on_grant on_message
returns-clause-stands_for c = refl
