-- The history is computed, the hash with it, and has one acceptance.
use Rattle.std.proofs.Common.{◌≡◌, ℕ, zero, suc, ◌≤◌, ◌<◌, List, [], ◌∷◌, length, take, Some, None, refl, sym, ap, ◌∙◌, subst, arith}
use Rattle.std.specs.Prelude.{codes, slice_index}
use Rattle.std.specs.Fmt.{digits}
use Rattle.std.specs.List.{slice_get}
use Rattle.std.proofs.lemmas.Option.{none-some, same_Some}
use Rattle.otp_core.specs.Acceptance.{Acceptance}
use Rattle.otp_core.specs.Submission.{Check}
use Rattle.admit_core.specs.Fit.{code_at}
use Rattle.sha1.specs.Sha1.{first_words, schedule, rounds, compress, hash_after, digest_bytes, sha1}
use Rattle.vote_core.specs.Voting.{propose, propose_alone, propose_among, on_ask, accept, count_grant, on_grant, raise, count_deny, on_deny, on_floor, on_message, tick}
use Rattle.oath_node.specs.Machine.{made_by_proposal, made_by_ruling, made_by_datagram, made_while_running, made_by_event}
use Rattle.client_lines.specs.Request.{Request}
use Rattle.client_lines.proofs.RequestLemmas.{line_of_request, request_of_line}
use Rattle.cluster_sim.specs.Answered.{IsTextOf, ok_bytes}
use Rattle.cluster_sim.specs.World.{Answer}
use Rattle.book_law.specs.Examples.{alone, answers_silver, has_silver, silver_ok, silver_pass, silver_text}
use Rattle.book_law.specs.Lives.{accepted_in, state_after, state_after_action}
use Rattle.book_law.specs.Promises.{BelongsToAcceptance, IsAskedInAction}
use Rattle.book_law.proofs.laws.answers_can_be_broken.Goals as goal

-- ---- the line

abbrev request : Request
request = record { nonce = codes "1"; user = codes "silver"; submission = Check (codes "755224"); password = None }

is_text : IsTextOf silver_text (codes "1") silver_text
is_text = record { request = request; grammar = line_of_request silver_text request refl; nonce_is = refl; line_is = refl }

asked_nonce : (line nonce : List ℕ) → IsTextOf line nonce silver_text → nonce ≡ codes "1"
asked_nonce line nonce h =
    let read = request_of_line silver_text h.request h.grammar in
    h.nonce_is ∙ ap (λ (r : Request). r.nonce) (same_Some h.request request (sym read ∙ refl))

other_nonce : IsTextOf silver_text (codes "2") silver_text → ⊥
other_nonce h =
    let there : 50 ≡ 49 = ap (λ (nonce : List ℕ). slice_index nonce 0) (asked_nonce silver_text (codes "2") h) in
    omega (arith, there)

pub returns-clause-asked : goal.returns-clause-asked
returns-clause-asked c = (refl, refl, is_text)

pub returns-clause-asked_at_another_node : goal.returns-clause-asked_at_another_node
returns-clause-asked_at_another_node c h = let node : 1 ≡ 2 = h.0 in omega (arith, node)

pub returns-clause-asked_by_another_client : goal.returns-clause-asked_by_another_client
returns-clause-asked_by_another_client c h = let client : 7 ≡ 8 = h.1 in omega (arith, client)

pub returns-clause-asked_with_another_nonce : goal.returns-clause-asked_with_another_nonce
returns-clause-asked_with_another_nonce c h = other_nonce h.2

pub returns-clause-asked_by_nobody : goal.returns-clause-asked_by_nobody
returns-clause-asked_by_nobody c h = h

pub returns-clause-asked_in_a_stop : goal.returns-clause-asked_in_a_stop
returns-clause-asked_in_a_stop c = (refl, refl, is_text)

pub returns-clause-stop_at_another_node : goal.returns-clause-stop_at_another_node
returns-clause-stop_at_another_node c h = let node : 1 ≡ 2 = h.0 in omega (arith, node)

pub returns-clause-stop_of_another_client : goal.returns-clause-stop_of_another_client
returns-clause-stop_of_another_client c h = let client : 7 ≡ 8 = h.1 in omega (arith, client)

pub returns-clause-stop_with_another_nonce : goal.returns-clause-stop_with_another_nonce
returns-clause-stop_with_another_nonce c h = other_nonce h.2

pub returns-clause-stop_that_lost_it : goal.returns-clause-stop_that_lost_it
returns-clause-stop_that_lost_it c h = h

pub returns-clause-said : goal.returns-clause-said
returns-clause-said c = (refl, refl, refl)

pub returns-clause-said_at_another_node : goal.returns-clause-said_at_another_node
returns-clause-said_at_another_node c h = let node : 1 ≡ 2 = h.0 in omega (arith, node)

pub returns-clause-said_by_another_client : goal.returns-clause-said_by_another_client
returns-clause-said_by_another_client c h = let client : 7 ≡ 8 = h.1 in omega (arith, client)

pub returns-clause-said_with_another_text : goal.returns-clause-said_with_another_text
returns-clause-said_with_another_text c h = let number : 23 ≡ 0 = ap (λ (text : List ℕ). length text) h.2 in omega (arith, number)

pub returns-clause-said_in_a_stop : goal.returns-clause-said_in_a_stop
returns-clause-said_in_a_stop c h = h

-- ---- the acceptance

accepted_once : accepted_in alone answers_silver ≡ silver_pass ∷ []
unfolding code_at first_words schedule rounds compress hash_after digest_bytes sha1 state_after state_after_action made_by_event made_while_running made_by_datagram made_by_ruling made_by_proposal propose propose_alone propose_among on_ask accept count_grant on_grant raise count_deny on_deny on_floor on_message tick
accepted_once = refl

accepted_nowhere : accepted_in alone has_silver ≡ []
unfolding code_at first_words schedule rounds compress hash_after digest_bytes sha1 state_after state_after_action made_by_event made_while_running made_by_datagram made_by_ruling made_by_proposal propose propose_alone propose_among on_ask accept count_grant on_grant raise count_deny on_deny on_floor on_message tick
accepted_nowhere = refl

only : (pass : Acceptance) (place : ℕ) → slice_get (silver_pass ∷ []) place ≡ Some pass → silver_pass ≡ pass
only pass zero e = same_Some silver_pass pass e
only pass (suc place) e = absurd (none-some pass e)

-- it is the one that there is
is_first : (told : Answer) (b : BelongsToAcceptance alone answers_silver told) → silver_pass ≡ b.pass
is_first told b = only b.pass b.place (subst (λ passes. slice_get passes b.place ≡ Some b.pass) accepted_once b.is_pass)

asked_at : (node client : ℕ) (line nonce : List ℕ) (pass : Acceptance) → silver_pass ≡ pass
    → IsAskedInAction node client line nonce (slice_get answers_silver pass.began)
    → (1 ≡ node) × (7 ≡ client) × IsTextOf line nonce silver_text
asked_at node client line nonce pass same asked =
    subst (λ (p : Acceptance). IsAskedInAction node client line nonce (slice_get answers_silver p.began)) (sym same) asked

other_factor : ok_bytes (codes "1") 1 ≡ ok_bytes (codes "1") 0 → ⊥
unfolding digits
other_factor e = let there : 49 ≡ 48 = ap (λ (bytes : List ℕ). slice_index bytes 5) e in omega (arith, there)

-- client 8 sent no line
unasked : BelongsToAcceptance alone answers_silver (record silver_ok { client = 8 }) → ⊥
unasked h =
    let same = is_first (record silver_ok { client = 8 }) h in
    let asked = asked_at 1 8 h.line h.nonce h.pass same h.asked in
    omega (arith, asked.1)

pub returns-clause-belongs : goal.returns-clause-belongs
returns-clause-belongs c = record {
  place = 0;
  pass = silver_pass;
  is_pass = ap (λ passes. slice_get passes 0) accepted_once;
  node = refl;
  ended = omega arith;
  line = silver_text;
  nonce = codes "1";
  asked = (refl, refl, is_text);
  bytes = refl;
  again = λ (late : 2 < 2). absurd (omega (arith, late));
}

pub returns-clause-belongs_to_none : goal.returns-clause-belongs_to_none
returns-clause-belongs_to_none c h =
    none-some h.pass (subst (λ passes. slice_get passes h.place ≡ Some h.pass) accepted_nowhere h.is_pass)

pub returns-clause-belongs_to_a_later_one : goal.returns-clause-belongs_to_a_later_one
returns-clause-belongs_to_a_later_one c h =
    let same = is_first (record silver_ok { event = 1 }) h in
    let ended : 2 ≤ 1 = subst (λ (p : Acceptance). p.ended ≤ 1) (sym same) h.ended in
    omega (arith, ended)

pub returns-clause-told_by_another_node : goal.returns-clause-told_by_another_node
returns-clause-told_by_another_node c h =
    let same = is_first (record silver_ok { node = 2 }) h in
    let node : 1 ≡ 2 = ap (λ (p : Acceptance). p.node) same ∙ h.node in
    omega (arith, node)

pub returns-clause-told_to_another_client : goal.returns-clause-told_to_another_client
returns-clause-told_to_another_client c h = unasked h

pub returns-clause-told_another_factor : goal.returns-clause-told_another_factor
returns-clause-told_another_factor c h =
    let told = record silver_ok { bytes = ok_bytes (codes "1") 1 } in
    let same = is_first told h in
    let asked = asked_at 1 7 h.line h.nonce h.pass same h.asked in
    other_factor (h.bytes ∙ ap (λ (p : Acceptance). ok_bytes h.nonce p.hi) (sym same) ∙ ap (λ (nonce : List ℕ). ok_bytes nonce 0) (asked_nonce h.line h.nonce asked.2))

pub returns-clause-told_again_unasked : goal.returns-clause-told_again_unasked
returns-clause-told_again_unasked c h =
    let same = is_first (record silver_ok { event = 3 }) h in
    let late : h.pass.ended < 3 = subst (λ (p : Acceptance). p.ended < 3) same (omega arith) in
    h.again late

pub returns-clause-each : goal.returns-clause-each
returns-clause-each c = λ setting history answers i answer h at ok. h i answer at ok

pub returns-clause-first_untrue : goal.returns-clause-first_untrue
returns-clause-first_untrue c h = unasked (h 0 (record silver_ok { client = 8 }) refl refl)

pub returns-clause-second_untrue : goal.returns-clause-second_untrue
returns-clause-second_untrue c h = unasked (h 1 (record silver_ok { client = 8 }) refl refl)

-- ---- a reply

pub returns-clause-reply_of_none : goal.returns-clause-reply_of_none
returns-clause-reply_of_none c h =
    none-some h.belongs.pass (subst (λ passes. slice_get passes h.belongs.place ≡ Some h.belongs.pass) accepted_nowhere h.belongs.is_pass)

pub returns-clause-reply_of_another_node : goal.returns-clause-reply_of_another_node
returns-clause-reply_of_another_node c h =
    let node : 1 ≡ 2 = ap (λ (p : Acceptance). p.node) (is_first h.answer h.belongs) ∙ h.belongs.node ∙ h.node_is in
    omega (arith, node)

pub returns-clause-reply_to_another_client : goal.returns-clause-reply_to_another_client
returns-clause-reply_to_another_client c h =
    let b = h.belongs in
    let asked = asked_at h.answer.node h.answer.client b.line b.nonce b.pass (is_first h.answer b) b.asked in
    let client : 7 ≡ 8 = asked.1 ∙ h.client_is in
    omega (arith, client)

pub returns-clause-reply_of_nothing : goal.returns-clause-reply_of_nothing
returns-clause-reply_of_nothing c h =
    let number : 1 ≡ 0 = ap (λ (bytes : List ℕ). length (take 1 bytes)) (sym h.belongs.bytes ∙ h.bytes_are) in
    omega (arith, number)
