-- Each condition is asked where it fails.
use Rattle.std.proofs.Common.{◌≡◌, ◌<◌, ℕ, zero, suc, List, [], ◌∷◌, length, Some, refl, ap, arith}
use Rattle.std.specs.Prelude.{slice_get, slice_index}
use Rattle.std.proofs.lemmas.Option.{none-some}
use Rattle.admit_core.specs.Fit.{code_at}
use Rattle.sha1.specs.Sha1.{first_words, schedule, rounds, compress, hash_after, digest_bytes, sha1}
use Rattle.vote_core.specs.Schedule.{last_boot}
use Rattle.vote_core.specs.Voting.{propose, propose_alone, propose_among, on_ask, accept, count_grant, on_grant, raise, count_deny, on_deny, on_floor, on_message, tick}
use Rattle.oath_node.specs.Machine.{made_by_proposal, made_by_ruling, made_by_datagram, made_while_running, made_by_event}
use Rattle.book_law.specs.Lives.{AreGenuine, Output, Process, Sealed, Terms, ToClient, ToPeer, WasOffered, floor_of, state_after, state_after_action, store_at}
use Rattle.world_law.specs.Examples.{ask, grant, three_nodes}
use Rattle.world_law.specs.Steady.{AreSent, sealed_by}
use Rattle.world_law.proofs.cases.steady_histories_can_be_broken.Goals as goal

-- the number of rows of a process's store
abbrev rows_in : Process → ℕ
rows_in process = length (store_at process).names

pub returns-clause-no_row : goal.returns-clause-no_row
unfolding state_after state_after_action
returns-clause-no_row c h = let rows : 0 ≡ 1 = ap (λ process. rows_in process) (h.stores 1 refl) in omega (arith, rows)

pub returns-clause-another_floor : goal.returns-clause-another_floor
unfolding state_after state_after_action
returns-clause-another_floor c h = let floor : 4 ≡ 0 = ap (λ process. floor_of (store_at process) 0) (h.stores 1 refl) in omega (arith, floor)

pub returns-clause-second_member_without_a_row : goal.returns-clause-second_member_without_a_row
unfolding state_after state_after_action
returns-clause-second_member_without_a_row c h = let rows : 0 ≡ 1 = ap (λ process. rows_in process) (h.stores 2 refl) in omega (arith, rows)

pub returns-clause-rows_in_another_order : goal.returns-clause-rows_in_another_order
unfolding state_after state_after_action
returns-clause-rows_in_another_order c h = let token : 1 ≡ 0 = ap (λ process. slice_index (store_at process).names 0) (h.stores 1 refl) in omega (arith, token)

pub returns-clause-more_than_rows : goal.returns-clause-more_than_rows
returns-clause-more_than_rows c h = h.only.1.0

pub returns-clause-other_terms : goal.returns-clause-other_terms
returns-clause-other_terms c h = let size : 1 ≡ 0 = ap (λ (terms : Terms). length terms.key) h.0 in omega (arith, size)

pub returns-clause-enrols : goal.returns-clause-enrols
returns-clause-enrols c h = h.0

pub returns-clause-unlocks : goal.returns-clause-unlocks
returns-clause-unlocks c h = h.0

pub returns-clause-opens_gate : goal.returns-clause-opens_gate
returns-clause-opens_gate c h = h.0

pub returns-clause-raises : goal.returns-clause-raises
returns-clause-raises c h = h.0

pub returns-clause-second_action : goal.returns-clause-second_action
returns-clause-second_action c h = h.1.0

pub returns-clause-replaced_without_its_row : goal.returns-clause-replaced_without_its_row
returns-clause-replaced_without_its_row c h = let rows : 0 ≡ 1 = ap (λ (given : List ℕ). length given) h.0.0 in omega (arith, rows)

pub returns-clause-replaced_at_the_last_boot : goal.returns-clause-replaced_at_the_last_boot
returns-clause-replaced_at_the_last_boot c h = let low : last_boot < last_boot = h.0.1 in omega (arith, low)

-- ---- envelopes that were not offered

-- the sender of an output; an answer has no sender
abbrev sender_of : Output → ℕ
sender_of (ToPeer sealed) = sealed.envelope.sender
sender_of (ToClient told) = 0

none : {A : Type 0} (x : A) (place : ℕ) → slice_get [] place ≡ Some x → ⊥
none x place e = absurd cc

only : {A : Type 0} (x y : A) (place : ℕ) → slice_get (x ∷ []) place ≡ Some y → x ≡ y
only x y zero e = cc
only x y (suc place) e = absurd cc

nothing_offered : (sealed : Sealed) → WasOffered [] sealed → ⊥
nothing_offered sealed was = none (ToPeer sealed) was.place was.is_there

pub returns-clause-forged : goal.returns-clause-forged
unfolding AreSent state_after state_after_action
returns-clause-forged c h = nothing_offered (sealed_by three_nodes grant) (h.sent.1.0 refl)

pub returns-clause-forged_in_a_stop : goal.returns-clause-forged_in_a_stop
unfolding AreSent state_after state_after_action
returns-clause-forged_in_a_stop c h = nothing_offered (sealed_by three_nodes grant) (h.sent.1.0 refl)

pub returns-clause-floor_from_nobody : goal.returns-clause-floor_from_nobody
unfolding AreSent state_after state_after_action
returns-clause-floor_from_nobody c h = nothing_offered _ (h.sent.1.0 refl)

pub returns-clause-history_with_it : goal.returns-clause-history_with_it
unfolding AreGenuine state_after state_after_action
returns-clause-history_with_it c = record {
  starts = λ i envelope at. absurd (none-some envelope at);
  genuine = (tt, (tt, (tt, (tt, ((λ own vote low. absurd vote), tt)))));
}

-- the Ask alone was offered
ask_alone : WasOffered (ToPeer (sealed_by three_nodes ask) ∷ []) (sealed_by three_nodes grant) → ⊥
ask_alone was =
    let same : ToPeer (sealed_by three_nodes ask) ≡ ToPeer (sealed_by three_nodes grant) = only (ToPeer (sealed_by three_nodes ask)) (ToPeer (sealed_by three_nodes grant)) was.place was.is_there in
    let senders : 1 ≡ 2 = ap sender_of same in
    omega (arith, senders)

pub returns-clause-not_offered_yet : goal.returns-clause-not_offered_yet
unfolding AreSent code_at first_words schedule rounds compress hash_after digest_bytes sha1 state_after state_after_action made_by_event made_while_running made_by_datagram made_by_ruling made_by_proposal propose propose_alone propose_among on_ask accept count_grant on_grant raise count_deny on_deny on_floor on_message tick
returns-clause-not_offered_yet c h = ask_alone (h.sent.1.1.1.1.1.0 refl)

pub returns-clause-of_the_boot : goal.returns-clause-of_the_boot
returns-clause-of_the_boot c h = let earlier : 1 < 1 = (h.starts 0 grant refl).1 in omega (arith, earlier)
