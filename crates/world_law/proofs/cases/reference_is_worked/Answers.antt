-- Each history is computed, the hash with it.
use Rattle.std.proofs.Common.{◌≡◌, ◌⊎◌, [], ◌∷◌, ⊎_elim, inl, inr, refl, ap, arith}
use Rattle.cluster_sim.specs.World.{Answer}
use Rattle.world_law.specs.Examples.{first_ok}
use Rattle.world_law.specs.SingleNode.{IsPartOf}
use Rattle.admit_core.specs.Fit.{code_at}
use Rattle.sha1.specs.Sha1.{first_words, schedule, rounds, compress, hash_after, digest_bytes, sha1}
use Rattle.vote_core.specs.Voting.{propose, propose_alone, propose_among, tick}
use Rattle.oath_node.specs.Machine.{made_by_proposal, made_by_ruling, made_by_datagram, made_while_running, made_by_event}
use Rattle.world_law.specs.SingleNode.{answers_to_actions}
use Rattle.book_law.specs.Lives.{state_after, state_after_action}
use Rattle.world_law.proofs.cases.reference_is_worked.Goals as goal

pub returns-clause-once : goal.returns-clause-once
unfolding code_at first_words schedule rounds compress hash_after digest_bytes sha1 state_after state_after_action made_by_event made_while_running made_by_datagram made_by_ruling made_by_proposal propose propose_alone propose_among tick answers_to_actions
returns-clause-once c = refl

pub returns-clause-twice : goal.returns-clause-twice
unfolding code_at first_words schedule rounds compress hash_after digest_bytes sha1 state_after state_after_action made_by_event made_while_running made_by_datagram made_by_ruling made_by_proposal propose propose_alone propose_among tick answers_to_actions
returns-clause-twice c = refl

pub returns-clause-forgotten : goal.returns-clause-forgotten
unfolding code_at first_words schedule rounds compress hash_after digest_bytes sha1 state_after state_after_action made_by_event made_while_running made_by_datagram made_by_ruling made_by_proposal propose propose_alone propose_among tick answers_to_actions
returns-clause-forgotten c = refl

pub returns-clause-kept : goal.returns-clause-kept
unfolding code_at first_words schedule rounds compress hash_after digest_bytes sha1 state_after state_after_action made_by_event made_while_running made_by_datagram made_by_ruling made_by_proposal propose propose_alone propose_among tick answers_to_actions
returns-clause-kept c = refl

pub returns-clause-lost : goal.returns-clause-lost
unfolding code_at first_words schedule rounds compress hash_after digest_bytes sha1 state_after state_after_action made_by_event made_while_running made_by_datagram made_by_ruling made_by_proposal propose propose_alone propose_among tick answers_to_actions
returns-clause-lost c = refl

pub returns-clause-nobody : goal.returns-clause-nobody
unfolding code_at first_words schedule rounds compress hash_after digest_bytes sha1 state_after state_after_action made_by_event made_while_running made_by_datagram made_by_ruling made_by_proposal propose propose_alone propose_among tick answers_to_actions
returns-clause-nobody c = refl

pub returns-clause-strangers : goal.returns-clause-strangers
unfolding code_at first_words schedule rounds compress hash_after digest_bytes sha1 state_after state_after_action made_by_event made_while_running made_by_datagram made_by_ruling made_by_proposal propose propose_alone propose_among tick answers_to_actions
returns-clause-strangers c = refl

pub returns-clause-loss : goal.returns-clause-loss
unfolding code_at first_words schedule rounds compress hash_after digest_bytes sha1 state_after state_after_action made_by_event made_while_running made_by_datagram made_by_ruling made_by_proposal propose propose_alone propose_among tick answers_to_actions
returns-clause-loss c = refl

pub returns-clause-loss_elsewhere : goal.returns-clause-loss_elsewhere
unfolding code_at first_words schedule rounds compress hash_after digest_bytes sha1 state_after state_after_action made_by_event made_while_running made_by_datagram made_by_ruling made_by_proposal propose propose_alone propose_among tick answers_to_actions
returns-clause-loss_elsewhere c = refl

pub returns-clause-store_there : goal.returns-clause-store_there
unfolding code_at first_words schedule rounds compress hash_after digest_bytes sha1 state_after state_after_action made_by_event made_while_running made_by_datagram made_by_ruling made_by_proposal propose propose_alone propose_among tick answers_to_actions
returns-clause-store_there c = refl

pub returns-clause-part : goal.returns-clause-part
returns-clause-part c = inr (inl (refl, tt))

-- these are in turn
in_turn : (a b : Answer) → (b ≡ a → ⊥) → IsPartOf (b ∷ a ∷ []) (a ∷ b ∷ []) → ⊥
in_turn a b apart h =
    ⊎_elim (λ (p : (b ≡ a) × IsPartOf (a ∷ []) (b ∷ [])). apart p.0) (λ (q : ((b ≡ b) × IsPartOf (a ∷ []) []) ⊎ IsPartOf (b ∷ a ∷ []) []). ⊎_elim (λ (r : (b ≡ b) × IsPartOf (a ∷ []) []). r.1) (λ (r : IsPartOf (b ∷ a ∷ []) []). r) q) h

pub returns-clause-order : goal.returns-clause-order
returns-clause-order c h =
    in_turn first_ok (record first_ok { event = 3 }) (λ same. let event : 3 ≡ 2 = ap (λ (told : Answer). told.event) same in omega (arith, event)) h

once_only : (a : Answer) → IsPartOf (a ∷ a ∷ []) (a ∷ []) → ⊥
once_only a h = ⊎_elim (λ (p : (a ≡ a) × IsPartOf (a ∷ []) []). p.1) (λ (q : IsPartOf (a ∷ a ∷ []) []). q) h

pub returns-clause-number : goal.returns-clause-number
returns-clause-number c h = once_only first_ok h
