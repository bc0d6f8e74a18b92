-- Each history is computed, the hash with it.
use Rattle.std.proofs.Common.{◌++◌, ◌≡◌, ℕ, zero, suc, ◌⊎◌, inl, ⊎_elim, List, [], ◌∷◌, Some, None, refl, sym, ap, ◌∙◌, subst, arith}
use Rattle.std.specs.Prelude.{codes, slice_index, take}
use Rattle.std.specs.Fmt.{digits}
use Rattle.std.specs.List.{slice_get}
use Rattle.std.proofs.lemmas.Option.{none-some, same_Some}
use Rattle.admit_core.specs.Fit.{code_at}
use Rattle.otp_core.specs.Submission.{Check}
use Rattle.sha1.specs.Sha1.{first_words, schedule, rounds, compress, hash_after, digest_bytes, sha1}
use Rattle.vote_core.specs.Voting.{propose, propose_alone, propose_among, tick}
use Rattle.oath_node.specs.Machine.{NodeState, made_by_proposal, made_by_ruling, made_by_datagram, made_while_running, made_by_event}
use Rattle.client_lines.specs.Request.{Request}
use Rattle.client_lines.proofs.RequestLemmas.{line_of_request, request_of_line}
use Rattle.cluster_sim.specs.Answered.{IsTextOf, ok_bytes}
use Rattle.cluster_sim.specs.World.{Answer}
use Rattle.book_law.specs.Answered.{EndsProcess, HasYetToOffer, IsLost, IsOfferedOrEnds, IsToldAmong}
use Rattle.book_law.specs.Examples.{alone, among_strangers, answers_silver, silver_ok, silver_pass, silver_text}
use Rattle.book_law.specs.Lives.{Action, Output, Process, Stops, Store, Terms, ToClient, Down, Up, answered_in, state_after, state_after_action, state_of}
use Rattle.book_law.proofs.laws.answers_are_worked.Goals as goal

-- nothing waits there
abbrev HasNothing : Process → Type 0
HasNothing (Down store) = Unit {0}
HasNothing (Up terms below state []) = Unit {0}
HasNothing (Up terms below state (output ∷ waiting)) = ⊥

none_in : (told : Answer) (terms : Terms) (below : Store) (state : NodeState) (waiting : List Output) (place : ℕ) → HasNothing (Up terms below state waiting) → slice_get waiting place ≡ Some (ToClient told) → ⊥
none_in told terms below state [] place none at = none-some (ToClient told) at
none_in told terms below state (output ∷ waiting) place none at = none

nothing_waits : (told : Answer) (process : Process) → HasNothing process → HasYetToOffer told process → ⊥
nothing_waits told process none h = none_in told h.terms h.below h.state h.waiting h.place (subst (λ (s : Process). HasNothing s) h.is_up none) h.is_there

-- ---- a process takes a line, and answers

ends_never : (node event : ℕ) → EndsProcess node (slice_get answers_silver event) → ⊥
ends_never node zero h = h
ends_never node (suc zero) h = h
ends_never node (suc (suc zero)) h = h
ends_never node (suc (suc (suc zero))) h = h
ends_never node (suc (suc (suc (suc k)))) h = h

has_offered : HasNothing ((state_of alone answers_silver).processes 1)
unfolding code_at first_words schedule rounds compress hash_after digest_bytes sha1 state_after state_after_action made_by_event made_while_running made_by_datagram made_by_ruling made_by_proposal propose propose_alone propose_among tick
has_offered = tt

no_second : HasNothing ((state_of alone answers_silver).processes 2)
unfolding code_at first_words schedule rounds compress hash_after digest_bytes sha1 state_after state_after_action made_by_event made_while_running made_by_datagram made_by_ruling made_by_proposal propose propose_alone propose_among tick
no_second = tt

are_answers : answered_in alone answers_silver ≡ silver_ok ∷ []
unfolding code_at first_words schedule rounds compress hash_after digest_bytes sha1 state_after state_after_action made_by_event made_while_running made_by_datagram made_by_ruling made_by_proposal propose propose_alone propose_among tick
are_answers = refl

only : (told : Answer) (place : ℕ) → slice_get (silver_ok ∷ []) place ≡ Some told → told ≡ silver_ok
only told zero e = sym (same_Some silver_ok told e)
only told (suc place) e = absurd (none-some told e)

-- an answer that was offered, is lost or waits is the OK
is_first : (told : Answer) → HasNothing ((state_of alone answers_silver).processes told.node) → IsOfferedOrEnds alone answers_silver told → told ≡ silver_ok
is_first told none h =
    ⊎_elim
    (λ (p : IsToldAmong told (answered_in alone answers_silver)). only told p.place (subst (λ ts. slice_get ts p.place ≡ Some told) are_answers p.is_there))
    (λ (p : IsLost alone answers_silver told ⊎ HasYetToOffer told ((state_of alone answers_silver).processes told.node)).
    ⊎_elim
    (λ (q : IsLost alone answers_silver told). absurd (ends_never told.node q.event q.ends))
    (λ (q : HasYetToOffer told ((state_of alone answers_silver).processes told.node)). absurd (nothing_waits told ((state_of alone answers_silver).processes told.node) none q))
    p)
    h

pub returns-clause-waits : goal.returns-clause-waits
unfolding code_at first_words schedule rounds compress hash_after digest_bytes sha1 state_after state_after_action made_by_event made_while_running made_by_datagram made_by_ruling made_by_proposal propose propose_alone propose_among tick
returns-clause-waits c = record { terms = _; below = _; state = _; waiting = _; is_up = refl; place = 0; is_there = refl }

pub returns-clause-waits_no_more : goal.returns-clause-waits_no_more
returns-clause-waits_no_more c h = nothing_waits silver_ok ((state_of alone answers_silver).processes 1) has_offered h

pub returns-clause-lost : goal.returns-clause-lost
unfolding code_at first_words schedule rounds compress hash_after digest_bytes sha1 state_after state_after_action made_by_event made_while_running made_by_datagram made_by_ruling made_by_proposal propose propose_alone propose_among tick
returns-clause-lost c = record { event = 3; ends = refl; yet = record { terms = _; below = _; state = _; waiting = _; is_up = refl; place = 0; is_there = refl } }

pub returns-clause-not_lost : goal.returns-clause-not_lost
returns-clause-not_lost c h = ends_never 1 h.event h.ends

-- the process ends after its answer
abbrev ends_after : List Action
ends_after = answers_silver ++ Stops 1 ∷ []

ends_last : (node event : ℕ) → EndsProcess node (slice_get ends_after event) → event ≡ 4
ends_last node zero h = absurd h
ends_last node (suc zero) h = absurd h
ends_last node (suc (suc zero)) h = absurd h
ends_last node (suc (suc (suc zero))) h = absurd h
ends_last node (suc (suc (suc (suc zero)))) h = refl
ends_last node (suc (suc (suc (suc (suc k))))) h = absurd h

pub returns-clause-not_lost_once_offered : goal.returns-clause-not_lost_once_offered
returns-clause-not_lost_once_offered c h =
    let last = ends_last 1 h.event h.ends in
    nothing_waits silver_ok ((state_of alone answers_silver).processes 1) has_offered
    (subst (λ event. HasYetToOffer silver_ok ((state_of alone (take event ends_after)).processes 1)) last h.yet)

pub returns-clause-of_another : goal.returns-clause-of_another
returns-clause-of_another c h =
    let same = is_first (record silver_ok { client = 8 }) has_offered h in
    let client : 8 ≡ 7 = ap (λ (told : Answer). told.client) same in
    omega (arith, client)

pub returns-clause-stop : goal.returns-clause-stop
returns-clause-stop c = refl

pub returns-clause-stop_in_a_step : goal.returns-clause-stop_in_a_step
returns-clause-stop_in_a_step c = refl

pub returns-clause-stop_elsewhere : goal.returns-clause-stop_elsewhere
returns-clause-stop_elsewhere c h = let node : 2 ≡ 1 = h in omega (arith, node)

pub returns-clause-stop_in_a_step_elsewhere : goal.returns-clause-stop_in_a_step_elsewhere
returns-clause-stop_in_a_step_elsewhere c h = let node : 2 ≡ 1 = h in omega (arith, node)

pub returns-clause-opening : goal.returns-clause-opening
returns-clause-opening c h = h

pub returns-clause-opened_gate : goal.returns-clause-opened_gate
returns-clause-opened_gate c h = h

pub returns-clause-of_a_stop : goal.returns-clause-of_a_stop
returns-clause-of_a_stop c = tt

pub returns-clause-of_a_lost_stop : goal.returns-clause-of_a_lost_stop
returns-clause-of_a_lost_stop c h = h

pub returns-clause-of_an_offer : goal.returns-clause-of_an_offer
returns-clause-of_an_offer c h = h

-- what the line says
request : Request
request = record { nonce = codes "1"; user = codes "silver"; submission = Check (codes "755224"); password = None }

pub returns-clause-answered : goal.returns-clause-answered
unfolding request
returns-clause-answered c = record {
  answer = silver_ok;
  event = refl;
  node = refl;
  line = silver_text;
  nonce = codes "1";
  asked = (refl, refl, record { request = request; grammar = line_of_request silver_text request refl; nonce_is = refl; line_is = refl });
  bytes = refl;
  becomes = inl (record { place = 0; is_there = ap (λ ts. slice_get ts 0) are_answers });
}

pub returns-clause-in_another_action : goal.returns-clause-in_another_action
returns-clause-in_another_action c h =
    let none = subst (λ node. HasNothing ((state_of alone answers_silver).processes node)) (sym h.node) has_offered in
    let same = is_first h.answer none h.becomes in
    let event : 2 ≡ 3 = sym (ap (λ (told : Answer). told.event) same) ∙ h.event in
    omega (arith, event)

pub returns-clause-at_another_node : goal.returns-clause-at_another_node
returns-clause-at_another_node c h =
    let none = subst (λ node. HasNothing ((state_of alone answers_silver).processes node)) (sym h.node) no_second in
    let same = is_first h.answer none h.becomes in
    let node : 1 ≡ 2 = sym (ap (λ (told : Answer). told.node) same) ∙ h.node in
    omega (arith, node)

pub returns-clause-loss : goal.returns-clause-loss
returns-clause-loss c = refl

pub returns-clause-loss_elsewhere : goal.returns-clause-loss_elsewhere
returns-clause-loss_elsewhere c h = let node : 2 ≡ 1 = h in omega (arith, node)

pub returns-clause-making : goal.returns-clause-making
returns-clause-making c h = h

-- ---- other actions, lines and factors

-- the process of node 2 would end in the last of the actions
ends_fourth : (node event : ℕ) → EndsProcess node (slice_get among_strangers event) → event ≡ 4
ends_fourth node zero h = absurd h
ends_fourth node (suc zero) h = absurd h
ends_fourth node (suc (suc zero)) h = absurd h
ends_fourth node (suc (suc (suc zero))) h = absurd h
ends_fourth node (suc (suc (suc (suc zero)))) h = refl
ends_fourth node (suc (suc (suc (suc (suc k))))) h = absurd h

-- but there is none
none_before : HasNothing ((state_of alone (take 4 among_strangers)).processes 2)
unfolding code_at first_words schedule rounds compress hash_after digest_bytes sha1 state_after state_after_action made_by_event made_while_running made_by_datagram made_by_ruling made_by_proposal propose propose_alone propose_among tick
none_before = tt

none_after : HasNothing ((state_of alone among_strangers).processes 2)
unfolding code_at first_words schedule rounds compress hash_after digest_bytes sha1 state_after state_after_action made_by_event made_while_running made_by_datagram made_by_ruling made_by_proposal propose propose_alone propose_among tick
none_after = tt

none_offered : answered_in alone among_strangers ≡ []
unfolding code_at first_words schedule rounds compress hash_after digest_bytes sha1 state_after state_after_action made_by_event made_while_running made_by_datagram made_by_ruling made_by_proposal propose propose_alone propose_among tick
none_offered = refl

-- no answer of node 2 was offered, is lost or waits
none_of_second : (told : Answer) → told.node ≡ 2 → IsOfferedOrEnds alone among_strangers told → ⊥
none_of_second told node h =
    ⊎_elim
    (λ (p : IsToldAmong told (answered_in alone among_strangers)). none-some told (subst (λ ts. slice_get ts p.place ≡ Some told) none_offered p.is_there))
    (λ (p : IsLost alone among_strangers told ⊎ HasYetToOffer told ((state_of alone among_strangers).processes told.node)).
    ⊎_elim
    (λ (q : IsLost alone among_strangers told).
    let yet = subst (λ event. HasYetToOffer told ((state_of alone (take event among_strangers)).processes told.node)) (ends_fourth told.node q.event q.ends) q.yet in
    nothing_waits told ((state_of alone (take 4 among_strangers)).processes told.node) (subst (λ node. HasNothing ((state_of alone (take 4 among_strangers)).processes node)) (sym node) none_before) yet)
    (λ (q : HasYetToOffer told ((state_of alone among_strangers).processes told.node)).
    nothing_waits told ((state_of alone among_strangers).processes told.node) (subst (λ node. HasNothing ((state_of alone among_strangers).processes node)) (sym node) none_after) q)
    p)
    h

pub returns-clause-by_another_node : goal.returns-clause-by_another_node
returns-clause-by_another_node c h = none_of_second h.answer h.node h.becomes

pub returns-clause-without_a_line : goal.returns-clause-without_a_line
returns-clause-without_a_line c h = h.asked

asked_nonce : (line nonce : List ℕ) → IsTextOf line nonce silver_text → nonce ≡ codes "1"
unfolding request
asked_nonce line nonce h =
    let read = request_of_line silver_text h.request h.grammar in
    h.nonce_is ∙ ap (λ (r : Request). r.nonce) (same_Some h.request request (sym read ∙ refl))

other_factor : ok_bytes (codes "1") 0 ≡ ok_bytes (codes "1") 1 → ⊥
unfolding digits
other_factor e = let there : 48 ≡ 49 = ap (λ (bytes : List ℕ). slice_index bytes 5) e in omega (arith, there)

pub returns-clause-with_another_factor : goal.returns-clause-with_another_factor
returns-clause-with_another_factor c h =
    let none = subst (λ node. HasNothing ((state_of alone answers_silver).processes node)) (sym h.node) has_offered in
    let same = is_first h.answer none h.becomes in
    let nonce = asked_nonce h.line h.nonce h.asked.2 in
    other_factor (sym (ap (λ (told : Answer). told.bytes) same) ∙ h.bytes ∙ ap (λ (nonce : List ℕ). ok_bytes nonce 1) nonce)

-- ---- each acceptance of a list

pub returns-clause-first_unanswered : goal.returns-clause-first_unanswered
returns-clause-first_unanswered c h = h 0 (record silver_pass { ended = 3 }) refl

pub returns-clause-second_unanswered : goal.returns-clause-second_unanswered
returns-clause-second_unanswered c h = h 1 (record silver_pass { ended = 3 }) refl

pub returns-clause-each : goal.returns-clause-each
returns-clause-each c = λ setting history passes i pass h at. h i pass at
