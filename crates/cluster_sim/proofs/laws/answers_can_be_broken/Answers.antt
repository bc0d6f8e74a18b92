-- The replies and the acceptances are computed, and differ.
use Rattle.std.proofs.Common.{◌≡◌, ℕ, zero, suc, ◌<◌, ◌≤◌, true, false, List, [], ◌∷◌, Some, None, refl, arith, ap, sym, ◌∙◌, subst}
use Rattle.std.specs.Prelude.{codes, slice_get, slice_index}
use Rattle.std.specs.Fmt.{digits}
use Rattle.otp_core.specs.Acceptance.{Acceptance}
use Rattle.otp_core.specs.Submission.{Check}
use Rattle.client_lines.specs.Field.{IsNonce}
use Rattle.client_lines.specs.Request.{Request}
use Rattle.client_lines.specs.declared.answer.Outcome.TheVariants.{Accepted}
use Rattle.client_lines.proofs.RequestLemmas.{line_of_request, request_of_line}
use Rattle.cluster_sim.specs.Answered.{BelongsToPass, HasAnswer, IsAskedIn, IsOk, IsPassOf, IsSaidIn, IsTextOf, TellTruth, ok_bytes}
use Rattle.cluster_sim.specs.Examples.{acceptance, delivery, eight_ticks, first_at_1, first_pass, fresh_token, line_at, nothing_happens, old_grants, second_factor_elsewhere, stop_in_a_line, told_outcome}
use Rattle.cluster_sim.specs.LossExamples.{after_loss}
use Rattle.cluster_sim.specs.World.{Anew, Restart, Answer, WorldEvent}
use Rattle.cluster_sim.proofs.OkLemmas.{text_nonce}
use Rattle.cluster_sim.proofs.laws.answers_can_be_broken.Goals as goal

-- ---- lists

none : {A : Type 0} (x : A) (k : ℕ) → slice_get [] k ≡ Some x → ⊥
none x k e = absurd cc

only : {A : Type 0} (x y : A) (k : ℕ) → slice_get (x ∷ []) k ≡ Some y → x ≡ y
only x y zero e = cc
only x y (suc k) e = absurd cc

same_some : {A : Type 0} (x y : A) → Some x ≡ Some y → x ≡ y
same_some x y e = cc

-- ---- the line that was asked

-- an OK of client 7 at node 1
abbrev ok : ℕ → ℕ → ℕ → List ℕ → ℕ → Answer
ok event node client nonce hi = told_outcome event node client nonce (Accepted hi)

abbrev request : Request
request = record { nonce = codes "a"; user = codes "silver"; submission = Check (codes "755224"); password = None }

asked_at : (node client : ℕ) (line nonce : List ℕ) (pass : Acceptance) → first_pass ≡ pass
    → IsAskedIn node client line nonce (slice_get second_factor_elsewhere pass.began)
    → (1 ≡ node) × (7 ≡ client) × IsTextOf line nonce (codes "CHECK a silver 755224 -")
asked_at node client line nonce pass same asked =
    subst (λ (p : Acceptance). IsAskedIn node client line nonce (slice_get second_factor_elsewhere p.began)) (sym same) asked

asked_nonce : (line nonce : List ℕ) → IsTextOf line nonce (codes "CHECK a silver 755224 -") → nonce ≡ codes "a"
asked_nonce line nonce h =
    let read = request_of_line (codes "CHECK a silver 755224 -") h.request h.grammar in
    h.nonce_is ∙ ap (λ (r : Request). r.nonce) (same_some h.request request (sym read ∙ refl))

nonce_a : IsNonce (codes "a")
nonce_a =
    let line = codes "CHECK a silver 755224 -" in
    text_nonce line (codes "a") line (record { request = request; grammar = line_of_request line request refl; nonce_is = refl; line_is = refl })

-- two OKs with other nonces, or other factors
other_nonce : ok_bytes (codes "c") 0 ≡ ok_bytes (codes "a") 0 → ⊥
other_nonce e = let there : 99 ≡ 97 = ap (λ (bytes : List ℕ). slice_index bytes 3) e in omega (arith, there)

other_factor : ok_bytes (codes "a") 1 ≡ ok_bytes (codes "a") 0 → ⊥
unfolding digits
other_factor e = let there : 49 ≡ 48 = ap (λ (bytes : List ℕ). slice_index bytes 5) e in omega (arith, there)

-- ---- an OK, and the one acceptance that there is

abbrev Truly : Answer → Type 0
Truly told = BelongsToPass second_factor_elsewhere (first_pass ∷ []) told

abbrev Names : Answer → ℕ → Type 0
Names told hi = IsPassOf second_factor_elsewhere (first_pass ∷ []) told (codes "a") hi

pub returns-clause-no_pass : goal.returns-clause-no_pass
returns-clause-no_pass c h = let b = h 0 (ok 2 1 7 (codes "a") 0) refl refl in none b.belongs.pass b.belongs.place b.belongs.is_pass

pub returns-clause-node : goal.returns-clause-node
returns-clause-node c h =
    let b : Truly (ok 2 3 7 (codes "a") 0) = h 0 (ok 2 3 7 (codes "a") 0) refl refl in
    let node : 1 ≡ 3 = ap (λ (p : Acceptance). p.node) (only first_pass b.belongs.pass b.belongs.place b.belongs.is_pass) ∙ b.belongs.node in
    omega (arith, node)

pub returns-clause-client : goal.returns-clause-client
returns-clause-client c h =
    let b : Truly (ok 2 1 9 (codes "a") 0) = h 0 (ok 2 1 9 (codes "a") 0) refl refl in
    let asked = asked_at 1 9 b.belongs.line b.nonce b.belongs.pass (only first_pass b.belongs.pass b.belongs.place b.belongs.is_pass) b.belongs.asked in
    omega (arith, asked.1)

pub returns-clause-nonce : goal.returns-clause-nonce
returns-clause-nonce c h =
    let b : Truly (ok 2 1 7 (codes "c") 0) = h 0 (ok 2 1 7 (codes "c") 0) refl refl in
    let same = only first_pass b.belongs.pass b.belongs.place b.belongs.is_pass in
    let asked = asked_at 1 7 b.belongs.line b.nonce b.belongs.pass same b.belongs.asked in
    other_nonce (b.bytes ∙ ap (λ (h : ℕ). ok_bytes b.nonce h) (sym b.belongs.last) ∙ ap (λ (p : Acceptance). ok_bytes b.nonce p.hi) (sym same) ∙ ap (λ (n : List ℕ). ok_bytes n 0) (asked_nonce b.belongs.line b.nonce asked.2))

pub returns-clause-factor : goal.returns-clause-factor
returns-clause-factor c h =
    let b : Truly (ok 2 1 7 (codes "a") 1) = h 0 (ok 2 1 7 (codes "a") 1) refl refl in
    let same = only first_pass b.belongs.pass b.belongs.place b.belongs.is_pass in
    let asked = asked_at 1 7 b.belongs.line b.nonce b.belongs.pass same b.belongs.asked in
    other_factor (b.bytes ∙ ap (λ (h : ℕ). ok_bytes b.nonce h) (sym b.belongs.last) ∙ ap (λ (p : Acceptance). ok_bytes b.nonce p.hi) (sym same) ∙ ap (λ (n : List ℕ). ok_bytes n 0) (asked_nonce b.belongs.line b.nonce asked.2))

pub returns-clause-early : goal.returns-clause-early
returns-clause-early c h =
    let b : Truly (ok 1 1 7 (codes "a") 0) = h 0 (ok 1 1 7 (codes "a") 0) refl refl in
    let ended : 2 ≤ 1 = subst (λ (p : Acceptance). p.ended ≤ 1) (sym (only first_pass b.belongs.pass b.belongs.place b.belongs.is_pass)) b.belongs.ended in
    omega (arith, ended)

-- event 3 is a line of client 8 at node 2
pub returns-clause-again : goal.returns-clause-again
returns-clause-again c h =
    let b : Truly (ok 3 1 7 (codes "a") 0) = h 0 (ok 3 1 7 (codes "a") 0) refl refl in
    let late : b.belongs.pass.ended < 3 = subst (λ (p : Acceptance). p.ended < 3) (only first_pass b.belongs.pass b.belongs.place b.belongs.is_pass) (omega arith) in
    let said : (2 ≡ 1) × (8 ≡ 7) × _ = b.belongs.again late in
    omega (arith, said.0)

-- ---- one acceptance and one reply alone

-- it is the acceptance to which the reply belongs
abbrev Belongs : List WorldEvent → Acceptance → Answer → Type 0
Belongs events pass told = BelongsToPass events (pass ∷ []) told

belongs : (events : List WorldEvent) (pass : Acceptance) (told : Answer) → TellTruth events (pass ∷ []) (told ∷ []) → IsOk told.bytes → Belongs events pass told
belongs events pass told h is_ok = h 0 told refl is_ok

same_pass : (events : List WorldEvent) (pass : Acceptance) (told : Answer) (b : Belongs events pass told) → pass ≡ b.belongs.pass
same_pass events pass told b = only pass b.belongs.pass b.belongs.place b.belongs.is_pass

-- the event in which it began is a line of the client there
asked_in : (events : List WorldEvent) (pass : Acceptance) (told : Answer) (b : Belongs events pass told)
    → IsAskedIn told.node told.client b.belongs.line b.nonce (slice_get events pass.began)
asked_in events pass told b =
    subst (λ (p : Acceptance). IsAskedIn told.node told.client b.belongs.line b.nonce (slice_get events p.began)) (sym (same_pass events pass told b)) b.belongs.asked

-- a later reply is to the same line
said_in : (events : List WorldEvent) (pass : Acceptance) (told : Answer) (b : Belongs events pass told) → pass.ended < told.event
    → IsSaidIn told.node told.client b.belongs.line (slice_get events told.event)
said_in events pass told b late = b.belongs.again (subst (λ (p : Acceptance). p.ended < told.event) (same_pass events pass told b) late)

pub returns-clause-pass_elsewhere : goal.returns-clause-pass_elsewhere
returns-clause-pass_elsewhere c h =
    let b = belongs second_factor_elsewhere (acceptance 0 2 2 0 0) (ok 2 1 7 (codes "a") 0) h refl in
    let node : 2 ≡ 1 = ap (λ (p : Acceptance). p.node) (same_pass second_factor_elsewhere (acceptance 0 2 2 0 0) (ok 2 1 7 (codes "a") 0) b) ∙ b.belongs.node in
    omega (arith, node)

pub returns-clause-asked_elsewhere : goal.returns-clause-asked_elsewhere
returns-clause-asked_elsewhere c h =
    let b = belongs second_factor_elsewhere (acceptance 0 2 2 0 0) (ok 2 2 7 (codes "a") 0) h refl in
    let asked : (1 ≡ 2) × (7 ≡ 7) × _ = asked_in second_factor_elsewhere (acceptance 0 2 2 0 0) (ok 2 2 7 (codes "a") 0) b in
    omega (arith, asked.0)

pub returns-clause-delivery : goal.returns-clause-delivery
returns-clause-delivery c h =
    let b = belongs second_factor_elsewhere (acceptance 1 2 1 0 0) (ok 2 1 7 (codes "a") 0) h refl in
    asked_in second_factor_elsewhere (acceptance 1 2 1 0 0) (ok 2 1 7 (codes "a") 0) b

pub returns-clause-tick : goal.returns-clause-tick
returns-clause-tick c h =
    let b = belongs eight_ticks (acceptance 1 1 1 0 0) (ok 1 1 7 (codes "a") 0) h refl in
    asked_in eight_ticks (acceptance 1 1 1 0 0) (ok 1 1 7 (codes "a") 0) b

pub returns-clause-noise : goal.returns-clause-noise
returns-clause-noise c h =
    let b = belongs nothing_happens (acceptance 2 2 2 0 0) (ok 2 2 7 (codes "a") 0) h refl in
    asked_in nothing_happens (acceptance 2 2 2 0 0) (ok 2 2 7 (codes "a") 0) b

pub returns-clause-no_event : goal.returns-clause-no_event
returns-clause-no_event c h =
    let b = belongs second_factor_elsewhere (acceptance 9 9 1 0 0) (ok 9 1 7 (codes "a") 0) h refl in
    asked_in second_factor_elsewhere (acceptance 9 9 1 0 0) (ok 9 1 7 (codes "a") 0) b

pub returns-clause-kept_stop_of_another : goal.returns-clause-kept_stop_of_another
returns-clause-kept_stop_of_another c h =
    let b = belongs (stop_in_a_line true) (acceptance 0 0 1 0 0) (ok 0 1 8 (codes "a") 0) h refl in
    let asked : (1 ≡ 1) × (7 ≡ 8) × _ = asked_in (stop_in_a_line true) (acceptance 0 0 1 0 0) (ok 0 1 8 (codes "a") 0) b in
    omega (arith, asked.1)

pub returns-clause-lost_stop : goal.returns-clause-lost_stop
returns-clause-lost_stop c h =
    let b = belongs (stop_in_a_line false) (acceptance 0 0 1 0 0) (ok 0 1 7 (codes "a") 0) h refl in
    asked_in (stop_in_a_line false) (acceptance 0 0 1 0 0) (ok 0 1 7 (codes "a") 0) b

pub returns-clause-restart : goal.returns-clause-restart
returns-clause-restart c h =
    let b = belongs old_grants (acceptance 2 2 1 0 0) (ok 2 1 7 (codes "a") 0) h refl in
    asked_in old_grants (acceptance 2 2 1 0 0) (ok 2 1 7 (codes "a") 0) b

pub returns-clause-store_lost : goal.returns-clause-store_lost
returns-clause-store_lost c h =
    let b = belongs (after_loss (Restart 0)) (acceptance 3 3 2 0 0) (ok 3 2 7 (codes "a") 0) h refl in
    asked_in (after_loss (Restart 0)) (acceptance 3 3 2 0 0) (ok 3 2 7 (codes "a") 0) b

pub returns-clause-store_anew : goal.returns-clause-store_anew
returns-clause-store_anew c h =
    let b = belongs (after_loss (Anew 2 2 (1 ∷ []))) (acceptance 4 4 2 0 0) (ok 4 2 7 (codes "a") 0) h refl in
    asked_in (after_loss (Anew 2 2 (1 ∷ []))) (acceptance 4 4 2 0 0) (ok 4 2 7 (codes "a") 0) b

-- event 1 is another line of the client
pub returns-clause-again_another_line : goal.returns-clause-again_another_line
returns-clause-again_another_line c h =
    let b = belongs fresh_token (acceptance 0 0 1 0 0) (ok 1 1 7 (codes "1") 0) h refl in
    let said : (1 ≡ 1) × (7 ≡ 7) × (codes "CHECK 2 silver 755224 -" ≡ b.belongs.line) = said_in fresh_token (acceptance 0 0 1 0 0) (ok 1 1 7 (codes "1") 0) b (omega arith) in
    let asked : (1 ≡ 1) × (7 ≡ 7) × IsTextOf b.belongs.line b.nonce (codes "CHECK 1 silver 755224 -") = asked_in fresh_token (acceptance 0 0 1 0 0) (ok 1 1 7 (codes "1") 0) b in
    let lines : codes "CHECK 1 silver 755224 -" ≡ codes "CHECK 2 silver 755224 -" = asked.2.line_is ∙ sym said.2 in
    let there : 49 ≡ 50 = ap (λ (bytes : List ℕ). slice_index bytes 6) lines in
    omega (arith, there)

-- the line comes again at node 2
abbrev comes_elsewhere : List WorldEvent
comes_elsewhere = first_at_1 ∷ delivery 2 0 ∷ delivery 1 2 ∷ line_at 2 7 1000 (codes "CHECK a silver 755224 -") ∷ []

pub returns-clause-again_elsewhere : goal.returns-clause-again_elsewhere
returns-clause-again_elsewhere c h =
    let b = belongs comes_elsewhere first_pass (ok 3 1 7 (codes "a") 0) h refl in
    let said : (2 ≡ 1) × (7 ≡ 7) × _ = said_in comes_elsewhere first_pass (ok 3 1 7 (codes "a") 0) b (omega arith) in
    omega (arith, said.0)

pub returns-clause-again_by_another : goal.returns-clause-again_by_another
returns-clause-again_by_another c h =
    let b = belongs fresh_token (acceptance 0 0 1 0 0) (ok 3 1 7 (codes "1") 0) h refl in
    let said : (1 ≡ 1) × (8 ≡ 7) × _ = said_in fresh_token (acceptance 0 0 1 0 0) (ok 3 1 7 (codes "1") 0) b (omega arith) in
    omega (arith, said.1)

pub returns-clause-again_by_no_line : goal.returns-clause-again_by_no_line
returns-clause-again_by_no_line c h =
    let b = belongs second_factor_elsewhere first_pass (ok 4 1 7 (codes "a") 0) h refl in
    said_in second_factor_elsewhere first_pass (ok 4 1 7 (codes "a") 0) b (omega arith)

pub returns-clause-names_no_pass : goal.returns-clause-names_no_pass
returns-clause-names_no_pass c h =
    let b = h 0 (ok 2 1 7 (codes "a") 0) (codes "a") 0 refl nonce_a (omega arith) refl in
    none b.pass b.place b.is_pass

pub returns-clause-names_node : goal.returns-clause-names_node
returns-clause-names_node c h =
    let b : Names (ok 2 3 7 (codes "a") 0) 0 = h 0 (ok 2 3 7 (codes "a") 0) (codes "a") 0 refl nonce_a (omega arith) refl in
    let node : 1 ≡ 3 = ap (λ (p : Acceptance). p.node) (only first_pass b.pass b.place b.is_pass) ∙ b.node in
    omega (arith, node)

pub returns-clause-names_client : goal.returns-clause-names_client
returns-clause-names_client c h =
    let b : Names (ok 2 1 9 (codes "a") 0) 0 = h 0 (ok 2 1 9 (codes "a") 0) (codes "a") 0 refl nonce_a (omega arith) refl in
    let asked = asked_at 1 9 b.line (codes "a") b.pass (only first_pass b.pass b.place b.is_pass) b.asked in
    omega (arith, asked.1)

pub returns-clause-names_factor : goal.returns-clause-names_factor
returns-clause-names_factor c h =
    let b : Names (ok 2 1 7 (codes "a") 1) 1 = h 0 (ok 2 1 7 (codes "a") 1) (codes "a") 1 refl nonce_a (omega arith) refl in
    let last : 0 ≡ 1 = ap (λ (p : Acceptance). p.hi) (only first_pass b.pass b.place b.is_pass) ∙ b.last in
    omega (arith, last)

pub returns-clause-names_early : goal.returns-clause-names_early
returns-clause-names_early c h =
    let b : Names (ok 1 1 7 (codes "a") 0) 0 = h 0 (ok 1 1 7 (codes "a") 0) (codes "a") 0 refl nonce_a (omega arith) refl in
    let ended : 2 ≤ 1 = subst (λ (p : Acceptance). p.ended ≤ 1) (sym (only first_pass b.pass b.place b.is_pass)) b.ended in
    omega (arith, ended)

pub returns-clause-names_again : goal.returns-clause-names_again
returns-clause-names_again c h =
    let b : Names (ok 3 1 7 (codes "a") 0) 0 = h 0 (ok 3 1 7 (codes "a") 0) (codes "a") 0 refl nonce_a (omega arith) refl in
    let late : b.pass.ended < 3 = subst (λ (p : Acceptance). p.ended < 3) (only first_pass b.pass b.place b.is_pass) (omega arith) in
    let said : (2 ≡ 1) × (8 ≡ 7) × _ = b.again late in
    omega (arith, said.0)

-- ---- the OK of that acceptance

pub returns-clause-missing : goal.returns-clause-missing
returns-clause-missing c h =
    let a : HasAnswer second_factor_elsewhere [] first_pass = h 0 first_pass refl in
    none a.answer a.place a.is_told

pub returns-clause-from_node : goal.returns-clause-from_node
returns-clause-from_node c h =
    let told = ok 2 2 7 (codes "a") 0 in
    let a : HasAnswer second_factor_elsewhere (told ∷ []) first_pass = h 0 first_pass refl in
    let node : 2 ≡ 1 = ap (λ (t : Answer). t.node) (only told a.answer a.place a.is_told) ∙ a.node in
    omega (arith, node)

pub returns-clause-in_event : goal.returns-clause-in_event
returns-clause-in_event c h =
    let told = ok 3 1 7 (codes "a") 0 in
    let a : HasAnswer second_factor_elsewhere (told ∷ []) first_pass = h 0 first_pass refl in
    let event : 3 ≡ 2 = ap (λ (t : Answer). t.event) (only told a.answer a.place a.is_told) ∙ a.event in
    omega (arith, event)

pub returns-clause-to_client : goal.returns-clause-to_client
returns-clause-to_client c h =
    let told = ok 2 1 9 (codes "a") 0 in
    let a : HasAnswer second_factor_elsewhere (told ∷ []) first_pass = h 0 first_pass refl in
    let asked = asked_at 1 a.answer.client a.line a.nonce first_pass refl a.asked in
    let client : 9 ≡ 7 = ap (λ (t : Answer). t.client) (only told a.answer a.place a.is_told) ∙ sym asked.1 in
    omega (arith, client)

pub returns-clause-with_nonce : goal.returns-clause-with_nonce
returns-clause-with_nonce c h =
    let told = ok 2 1 7 (codes "c") 0 in
    let a : HasAnswer second_factor_elsewhere (told ∷ []) first_pass = h 0 first_pass refl in
    let asked = asked_at 1 a.answer.client a.line a.nonce first_pass refl a.asked in
    other_nonce (ap (λ (t : Answer). t.bytes) (only told a.answer a.place a.is_told) ∙ a.bytes ∙ ap (λ (n : List ℕ). ok_bytes n 0) (asked_nonce a.line a.nonce asked.2))

pub returns-clause-with_factor : goal.returns-clause-with_factor
returns-clause-with_factor c h =
    let told = ok 2 1 7 (codes "a") 1 in
    let a : HasAnswer second_factor_elsewhere (told ∷ []) first_pass = h 0 first_pass refl in
    let asked = asked_at 1 a.answer.client a.line a.nonce first_pass refl a.asked in
    other_factor (ap (λ (t : Answer). t.bytes) (only told a.answer a.place a.is_told) ∙ a.bytes ∙ ap (λ (n : List ℕ). ok_bytes n 0) (asked_nonce a.line a.nonce asked.2))

-- ---- an acceptance that ended in no event that accepts

pub returns-clause-ended_nowhere : goal.returns-clause-ended_nowhere
returns-clause-ended_nowhere c h = h 0 (acceptance 9 9 1 0 0) refl

pub returns-clause-ended_in_lost_stop : goal.returns-clause-ended_in_lost_stop
returns-clause-ended_in_lost_stop c h = h 0 (acceptance 0 0 1 0 0) refl

pub returns-clause-ended_in_restart : goal.returns-clause-ended_in_restart
returns-clause-ended_in_restart c h = h 0 (acceptance 2 2 1 0 0) refl

pub returns-clause-ended_in_loss : goal.returns-clause-ended_in_loss
returns-clause-ended_in_loss c h = h 0 (acceptance 3 3 2 0 0) refl

pub returns-clause-ended_in_anew : goal.returns-clause-ended_in_anew
returns-clause-ended_in_anew c h = h 0 (acceptance 4 4 2 0 0) refl
