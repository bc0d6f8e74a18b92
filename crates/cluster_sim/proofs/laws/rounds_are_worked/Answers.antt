-- The rounds are computed, the hash with them.
use Rattle.std.proofs.Common.{◌≡◌, true, [], ◌∷◌, refl, sym, ◌∙◌, arith}
use Rattle.admit_core.specs.Fit.{code_at}
use Rattle.sha1.specs.Sha1.{first_words, schedule, rounds, compress, hash_after, digest_bytes, sha1}
use Rattle.vote_core.specs.Schedule.{is_member}
use Rattle.vote_core.specs.Voting.{propose, propose_alone, propose_among, on_ask, accept, count_grant, on_grant, raise, count_deny, on_deny, on_floor, on_message, tick}
use Rattle.oath_node.specs.Machine.{made_by_proposal, made_by_ruling, made_by_datagram, made_while_running, made_by_event}
use Rattle.cluster_sim.specs.Examples.{config, three}
use Rattle.cluster_sim.specs.Rounds.{next_at}
use Rattle.cluster_sim.specs.World.{opening_world, world_with_made, world_after_turn, world_after_act, world_after_restart, world_after_event, world_after_events}
use Rattle.cluster_sim.proofs.Turns.{at_live}
use Rattle.cluster_sim.proofs.laws.rounds_are_worked.Goals as goal

pub returns-clause-two : goal.returns-clause-two
unfolding code_at first_words schedule rounds compress hash_after digest_bytes sha1 world_after_events world_after_event world_after_act world_after_turn world_with_made world_after_restart made_by_event made_while_running made_by_datagram made_by_ruling made_by_proposal propose propose_alone propose_among on_ask accept count_grant on_grant raise count_deny on_deny on_floor on_message tick
returns-clause-two c = refl

pub returns-clause-three : goal.returns-clause-three
unfolding code_at first_words schedule rounds compress hash_after digest_bytes sha1 world_after_events world_after_event world_after_act world_after_turn world_with_made world_after_restart made_by_event made_while_running made_by_datagram made_by_ruling made_by_proposal propose propose_alone propose_among on_ask accept count_grant on_grant raise count_deny on_deny on_floor on_message tick
returns-clause-three c = refl

pub returns-clause-after_loss : goal.returns-clause-after_loss
unfolding code_at first_words schedule rounds compress hash_after digest_bytes sha1 world_after_events world_after_event world_after_act world_after_turn world_with_made world_after_restart made_by_event made_while_running made_by_datagram made_by_ruling made_by_proposal propose propose_alone propose_among on_ask accept count_grant on_grant raise count_deny on_deny on_floor on_message tick
returns-clause-after_loss c = refl

pub returns-clause-after_sweep : goal.returns-clause-after_sweep
unfolding code_at first_words schedule rounds compress hash_after digest_bytes sha1 world_after_events world_after_event world_after_act world_after_turn world_with_made world_after_restart made_by_event made_while_running made_by_datagram made_by_ruling made_by_proposal propose propose_alone propose_among on_ask accept count_grant on_grant raise count_deny on_deny on_floor on_message tick
returns-clause-after_sweep c = refl

pub returns-clause-no_majority : goal.returns-clause-no_majority
unfolding code_at first_words schedule rounds compress hash_after digest_bytes sha1 world_after_events world_after_event world_after_act world_after_turn world_with_made world_after_restart made_by_event made_while_running made_by_datagram made_by_ruling made_by_proposal propose propose_alone propose_among on_ask accept count_grant on_grant raise count_deny on_deny on_floor on_message tick
returns-clause-no_majority c = refl

pub returns-clause-waits_already : goal.returns-clause-waits_already
unfolding code_at first_words schedule rounds compress hash_after digest_bytes sha1 world_after_events world_after_event world_after_act world_after_turn world_with_made world_after_restart made_by_event made_while_running made_by_datagram made_by_ruling made_by_proposal propose propose_alone propose_among on_ask accept count_grant on_grant raise count_deny on_deny on_floor on_message tick
returns-clause-waits_already c = refl

pub returns-clause-not_level : goal.returns-clause-not_level
unfolding code_at first_words schedule rounds compress hash_after digest_bytes sha1 world_after_events world_after_event world_after_act world_after_turn world_with_made world_after_restart made_by_event made_while_running made_by_datagram made_by_ruling made_by_proposal propose propose_alone propose_among on_ask accept count_grant on_grant raise count_deny on_deny on_floor on_message tick
returns-clause-not_level c = refl

pub returns-clause-settled : goal.returns-clause-settled
returns-clause-settled c = record {
  ascending = (omega arith, tt);
  majority = omega arith;
  up = λ i at. at_live (λ j. (is_member 3 j ≡ true) × (true ≡ true)) (1 ∷ 2 ∷ []) i ((refl, refl), ((refl, refl), tt)) at;
  none = λ i at. refl;
  level = λ i j t p q lt. at_live (λ k. next_at (opening_world config three) k t ≡ next_at (opening_world config three) 1 t) (1 ∷ 2 ∷ []) i (refl, (refl, tt)) p
      ∙ sym (at_live (λ k. next_at (opening_world config three) k t ≡ next_at (opening_world config three) 1 t) (1 ∷ 2 ∷ []) j (refl, (refl, tt)) q);
}

pub returns-clause-drifted : goal.returns-clause-drifted
unfolding code_at first_words schedule rounds compress hash_after digest_bytes sha1 world_after_events world_after_event world_after_act world_after_turn world_with_made world_after_restart made_by_event made_while_running made_by_datagram made_by_ruling made_by_proposal propose propose_alone propose_among on_ask accept count_grant on_grant raise count_deny on_deny on_floor on_message tick
returns-clause-drifted c = refl
