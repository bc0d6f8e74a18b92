-- Each script is computed, the hash with it.
use Rattle.std.proofs.Common.{◌≡◌, ◌<◌, ◌≤◌, ℕ, zero, suc, [], ◌∷◌, Some, refl, arith, subst}
use Rattle.std.specs.List.{slice_get}
use Rattle.std.proofs.lemmas.Option.{none-some, same_Some}
use Rattle.vote_core.specs.Calls.{IsOther}
use Rattle.vote_core.specs.Safety.{IsDeliverable, IsOfEarlierBoot}
use Rattle.vote_core.specs.Schedule.{Envelope}
use Rattle.vote_core.specs.declared.message.Message.TheVariants.{Floor}
use Rattle.admit_core.specs.Fit.{code_at}
use Rattle.sha1.specs.Sha1.{first_words, schedule, rounds, compress, hash_after, digest_bytes, sha1}
use Rattle.vote_core.specs.Voting.{propose, propose_alone, propose_among, on_ask, accept, count_grant, on_grant, raise, count_deny, on_deny, on_floor, on_message, tick}
use Rattle.oath_node.specs.Machine.{made_by_proposal, made_by_ruling, made_by_datagram, made_while_running, made_by_event}
use Rattle.cluster_sim.specs.LossExamples.{from_before, old_floor, old_grant}
use Rattle.cluster_sim.specs.World.{world_with_made, world_after_turn, world_after_act, world_after_restart, world_after_loss, world_after_anew, world_after_event, world_after_events}
use Rattle.cluster_sim.proofs.laws.starts_are_worked.Goals as goal

pub returns-clause-grant_of_before : goal.returns-clause-grant_of_before
unfolding code_at first_words schedule rounds compress hash_after digest_bytes sha1 world_after_events world_after_event world_after_act world_after_turn world_with_made world_after_restart world_after_loss world_after_anew made_by_event made_while_running made_by_datagram made_by_ruling made_by_proposal propose propose_alone propose_among on_ask accept count_grant on_grant raise count_deny on_deny on_floor on_message tick
returns-clause-grant_of_before c = refl

pub returns-clause-grant_at_its_boot : goal.returns-clause-grant_at_its_boot
unfolding code_at first_words schedule rounds compress hash_after digest_bytes sha1 world_after_events world_after_event world_after_act world_after_turn world_with_made world_after_restart world_after_loss world_after_anew made_by_event made_while_running made_by_datagram made_by_ruling made_by_proposal propose propose_alone propose_among on_ask accept count_grant on_grant raise count_deny on_deny on_floor on_message tick
returns-clause-grant_at_its_boot c = refl

pub returns-clause-floor_of_before : goal.returns-clause-floor_of_before
unfolding code_at first_words schedule rounds compress hash_after digest_bytes sha1 world_after_events world_after_event world_after_act world_after_turn world_with_made world_after_restart world_after_loss world_after_anew made_by_event made_while_running made_by_datagram made_by_ruling made_by_proposal propose propose_alone propose_among on_ask accept count_grant on_grant raise count_deny on_deny on_floor on_message tick
returns-clause-floor_of_before c = refl

-- what holds of the one envelope holds of each
of_one : (P : Envelope → Type 0) (one : Envelope) → P one → (i : ℕ) (envelope : Envelope) → slice_get (one ∷ []) i ≡ Some envelope → P envelope
of_one P one h zero envelope at = subst P (same_Some one envelope at) h
of_one P one h (suc i) envelope at = absurd (none-some envelope at)

-- it comes from another member
from_second : IsOther (record { me = 1; n = 3 }) 2
from_second = record { first = omega arith; last = omega arith; other = λ e. absurd (omega (arith, e)) }

pub returns-clause-first : goal.returns-clause-first
returns-clause-first c = λ i envelope at. absurd (none-some envelope at)

pub returns-clause-later_boot : goal.returns-clause-later_boot
returns-clause-later_boot c =
    of_one (λ envelope. IsDeliverable 3 1 envelope × IsOfEarlierBoot (λ node. 2) envelope.message) old_grant
    (record { first = omega arith; last = omega arith; other = from_second; fits = (omega arith, record { ordered = omega arith; short = omega arith }, refl) }, omega arith)

pub returns-clause-same_boot : goal.returns-clause-same_boot
returns-clause-same_boot c h = let early : 1 < 1 = (h 0 old_grant refl).1 in absurd (omega (arith, early))

pub returns-clause-to_no_member : goal.returns-clause-to_no_member
returns-clause-to_no_member c h = let last : 4 ≤ 3 = (h 0 (record old_floor { receiver = 4 }) refl).0.last in absurd (omega (arith, last))

pub returns-clause-of_no_token : goal.returns-clause-of_no_token
returns-clause-of_no_token c h = let known : 1 < 1 = (h 0 (from_before (Floor 1 1)) refl).0.fits in absurd (omega (arith, known))

pub returns-clause-floor_at_any_boot : goal.returns-clause-floor_at_any_boot
returns-clause-floor_at_any_boot c =
    of_one (λ envelope. IsDeliverable 3 1 envelope × IsOfEarlierBoot (λ node. 1) envelope.message) old_floor
    (record { first = omega arith; last = omega arith; other = from_second; fits = omega arith }, tt)
