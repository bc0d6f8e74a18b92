-- The histories are computed, the hash with them.
use Rattle.std.proofs.Common.{◌≡◌, ℕ, zero, suc, ◌≤◌, ◌⊎◌, inl, inr, List, length, take, Some, None, refl, sym, ap, ◌∙◌, subst, arith}
use Rattle.std.specs.Prelude.{ℤ, codes}
use Rattle.std.specs.List.{slice_get}
use Rattle.std.proofs.lemmas.Option.{none-some, same_Some}
use Rattle.token_file.specs.Credential.{Credential}
use Rattle.otp_core.specs.Acceptance.{Acceptance}
use Rattle.otp_core.specs.Submission.{Check}
use Rattle.admit_core.specs.Throttle.{Result}
use Rattle.admit_core.specs.Fit.{code_at}
use Rattle.sha1.specs.Sha1.{first_words, schedule, rounds, compress, hash_after, digest_bytes, sha1}
use Rattle.vote_core.specs.Voting.{propose, propose_alone, propose_among, on_ask, accept, count_grant, on_grant, raise, count_deny, on_deny, on_floor, on_message, tick}
use Rattle.oath_node.specs.Machine.{made_by_proposal, made_by_ruling, made_by_datagram, made_while_running, made_by_event}
use Rattle.vote_core.specs.Cases.{accepted}
use Rattle.client_lines.specs.Request.{Request}
use Rattle.client_lines.proofs.RequestLemmas.{request_of_line}
use Rattle.book_law.specs.Examples.{alone, maple_accepted, maple_first, silver, silver_alone}
use Rattle.book_law.specs.Justified.{IsGroundUnder, drift_in}
use Rattle.book_law.specs.Lives.{floor_in, state_after, state_after_action}
use Rattle.book_law.specs.Results.{results_after, results_after_action, results_in}
use Rattle.book_law.proofs.laws.grounds_are_worked.Goals as goal

pub returns-clause-drift : goal.returns-clause-drift
returns-clause-drift c = refl

pub returns-clause-drift_of_another : goal.returns-clause-drift_of_another
returns-clause-drift_of_another c = refl

pub returns-clause-drift_without_a_row : goal.returns-clause-drift_without_a_row
returns-clause-drift_without_a_row c = refl

pub returns-clause-drift_before : goal.returns-clause-drift_before
unfolding code_at first_words schedule rounds compress hash_after digest_bytes sha1 state_after state_after_action results_after results_after_action made_by_event made_while_running made_by_datagram made_by_ruling made_by_proposal propose propose_alone propose_among on_ask accept count_grant on_grant raise count_deny on_deny on_floor on_message tick
returns-clause-drift_before c = refl

pub returns-clause-offer : goal.returns-clause-offer
returns-clause-offer c h = h

pub returns-clause-no_action : goal.returns-clause-no_action
returns-clause-no_action c h = h

pub returns-clause-node : goal.returns-clause-node
unfolding code_at first_words schedule rounds compress hash_after digest_bytes sha1 state_after state_after_action results_after results_after_action made_by_event made_while_running made_by_datagram made_by_ruling made_by_proposal propose propose_alone propose_among on_ask accept count_grant on_grant raise count_deny on_deny on_floor on_message tick
returns-clause-node c h = let node : 1 ≡ 2 = h.0 in omega (arith, node)

-- no number has a seat of token 1
no_seat : (number : ℕ) → slice_get silver_alone.seats number ≡ Some 1 → ⊥
no_seat zero e = let same : 0 ≡ 1 = same_Some 0 1 e in omega (arith, same)
no_seat (suc number) e = none-some 1 e

pub returns-clause-token : goal.returns-clause-token
unfolding code_at first_words schedule rounds compress hash_after digest_bytes sha1 state_after state_after_action results_after results_after_action made_by_event made_while_running made_by_datagram made_by_ruling made_by_proposal propose propose_alone propose_among on_ask accept count_grant on_grant raise count_deny on_deny on_floor on_message tick
returns-clause-token c h = no_seat h.1.number h.1.seat

-- silver's number is 1, and the line is for maple
second : (number : ℕ) → slice_get maple_first.seats number ≡ Some 0 → number ≡ 1
second zero e = let same : 1 ≡ 0 = same_Some 1 0 e in absurd (omega (arith, same))
second (suc zero) e = refl
second (suc (suc number)) e = absurd (none-some 0 e)

abbrev text : List ℕ
text = codes "CHECK 2 maple 755224 -"

abbrev request : Request
request = record { nonce = codes "2"; user = codes "maple"; submission = Check (codes "755224"); password = None }

no_ground : (moment next : ℕ) (drift : ℤ) (results : List Result) (pass : Acceptance) → pass.token ≡ 0 → IsGroundUnder maple_first moment text next drift results pass → ⊥
no_ground moment next drift results pass is h =
    let number : h.number ≡ 1 = second h.number (h.seat ∙ ap (λ token. Some token) is) in
    let user : silver ≡ h.ground.credential =
    same_Some silver h.ground.credential (subst (λ k. slice_get maple_first.config.book k ≡ Some h.ground.credential) number h.ground.is_token) in
    let read = request_of_line text h.ground.request h.ground.grammar in
    let asked : h.ground.request ≡ request = same_Some h.ground.request request (sym read ∙ refl) in
    let names : codes "silver" ≡ codes "maple" = ap (λ (c : Credential). c.name) user ∙ h.ground.user ∙ ap (λ (r : Request). r.user) asked in
    let sizes : 6 ≡ 5 = ap (λ (name : List ℕ). length name) names in
    omega (arith, sizes)

pub returns-clause-user : goal.returns-clause-user
unfolding code_at first_words schedule rounds compress hash_after digest_bytes sha1 state_after state_after_action results_after results_after_action made_by_event made_while_running made_by_datagram made_by_ruling made_by_proposal propose propose_alone propose_among on_ask accept count_grant on_grant raise count_deny on_deny on_floor on_message tick
returns-clause-user c h =
    no_ground 100 (floor_in alone maple_accepted 1 0 3) (drift_in alone maple_accepted 1 0 3) (results_in alone (take 3 maple_accepted) 1 0) (accepted 3 3 1 0 0 0) refl h.1

pub returns-clause-lost : goal.returns-clause-lost
returns-clause-lost c h = h

pub returns-clause-tick : goal.returns-clause-tick
unfolding code_at first_words schedule rounds compress hash_after digest_bytes sha1 state_after state_after_action results_after results_after_action made_by_event made_while_running made_by_datagram made_by_ruling made_by_proposal propose propose_alone propose_among on_ask accept count_grant on_grant raise count_deny on_deny on_floor on_message tick
returns-clause-tick c h = h

pub returns-clause-nobody : goal.returns-clause-nobody
unfolding code_at first_words schedule rounds compress hash_after digest_bytes sha1 state_after state_after_action results_after results_after_action made_by_event made_while_running made_by_datagram made_by_ruling made_by_proposal propose propose_alone propose_among on_ask accept count_grant on_grant raise count_deny on_deny on_floor on_message tick
returns-clause-nobody c h = h

pub returns-clause-node_in_a_stop : goal.returns-clause-node_in_a_stop
unfolding code_at first_words schedule rounds compress hash_after digest_bytes sha1 state_after state_after_action results_after results_after_action made_by_event made_while_running made_by_datagram made_by_ruling made_by_proposal propose propose_alone propose_among on_ask accept count_grant on_grant raise count_deny on_deny on_floor on_message tick
returns-clause-node_in_a_stop c h = let node : 1 ≡ 2 = h.0 in omega (arith, node)

pub returns-clause-closed : goal.returns-clause-closed
unfolding code_at first_words schedule rounds compress hash_after digest_bytes sha1 state_after state_after_action results_after results_after_action made_by_event made_while_running made_by_datagram made_by_ruling made_by_proposal propose propose_alone propose_among on_ask accept count_grant on_grant raise count_deny on_deny on_floor on_message tick
returns-clause-closed c h =
    let is_open : (1 ≡ 0) ⊎ (105 ≤ 104) = h.1.ground.entitled.is_open in
    elim is_open [ inl x ↦ omega (arith, x) | inr x ↦ omega (arith, x) ]

pub returns-clause-each : goal.returns-clause-each
returns-clause-each c = λ setting history passes i pass h at. h i pass at

pub returns-clause-first_unjustified : goal.returns-clause-first_unjustified
returns-clause-first_unjustified c h = h 0 (accepted 3 3 1 0 0 0) refl

pub returns-clause-second_unjustified : goal.returns-clause-second_unjustified
returns-clause-second_unjustified c h = h 1 (accepted 3 3 1 0 0 0) refl
