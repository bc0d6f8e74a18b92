-- Acts and events differ in their kinds, or in the numbers in them. The three runs at the end are computed, with their
-- hashes.
use Rattle.std.proofs.Common.{◌++◌, None, ◌≡◌, ℕ, zero, suc, ◌⊎◌, ⊎_elim, Bool, true, false, List, [], ◌∷◌, length, Some, refl, ap, sym, subst, ◌∙◌, arith}
use Rattle.std.specs.List.{slice_get}
use Rattle.std.specs.Prelude.{codes}
use Rattle.std.proofs.lemmas.Option.{none-some, same_Some}
use Rattle.admit_core.specs.Fit.{code_at}
use Rattle.sha1.specs.Sha1.{first_words, schedule, rounds, compress, hash_after, digest_bytes, sha1}
use Rattle.otp_core.specs.Acceptance.{Acceptance}
use Rattle.vote_core.specs.Voting.{propose, propose_alone, propose_among, on_ask, accept, count_grant, on_grant, raise, count_deny, on_deny, on_floor, on_message, tick}
use Rattle.oath_node.specs.Machine.{made_by_proposal, made_by_ruling, made_by_datagram, made_while_running, made_by_event}
use Rattle.cluster_sim.specs.Examples.{acceptance, told_bad_line}
use Rattle.cluster_sim.specs.World.{Act, Answer, Says, Deliver, Ticks, Noise, WorldEvent, Happens, Cut, Restart, Lost, Anew, acting_node, passes_of, world_with_made, world_after_turn, world_after_act, world_after_restart, world_after_event, world_after_events}
use Rattle.oath_node.specs.Machine.{Tick}
use Rattle.world_law.specs.Examples.{comes, forged_grant_comes, grant, right_line, three_nodes, three_rows, three_terms}
use Rattle.book_law.specs.Lives.{Enrols, Opens, Stops, Takes, accepted_in, state_after, state_after_action}
use Rattle.world_law.specs.Steady.{setting_of, start_of}
use Rattle.world_law.specs.Worlds.{HasAct, HasEvent, IsActOf, IsEventOf, nothing}
use Rattle.world_law.proofs.cases.runs_can_be_broken.Goals as goal

-- ---- acts

abbrev kind_of_act : Act → ℕ
kind_of_act (Says node client moment line) = 0
kind_of_act (Deliver node k) = 1
kind_of_act (Ticks node) = 2
kind_of_act (Noise node from read) = 3

pub returns-clause-tick_for_a_line : goal.returns-clause-tick_for_a_line
returns-clause-tick_for_a_line c h = let kind : 2 ≡ 0 = ap (λ act. kind_of_act act) h in omega (arith, kind)

pub returns-clause-tick_at_another_node : goal.returns-clause-tick_at_another_node
returns-clause-tick_at_another_node c h = let node : 2 ≡ 1 = ap (λ act. acting_node act) h in omega (arith, node)

pub returns-clause-tick_for_a_datagram : goal.returns-clause-tick_for_a_datagram
returns-clause-tick_for_a_datagram c h =
    ⊎_elim
    (λ (p : (k : ℕ) × (Ticks 1 ≡ Deliver 1 k)). let kind : 2 ≡ 1 = ap (λ act. kind_of_act act) p.1 in omega (arith, kind))
    (λ (q : Ticks 1 ≡ Noise 1 2 None). let kind : 2 ≡ 3 = ap (λ act. kind_of_act act) q in omega (arith, kind))
    h

-- ---- events

abbrev kind_of : WorldEvent → ℕ
kind_of (Happens act) = 0
kind_of (Cut kept act) = 1
kind_of (Restart node) = 2
kind_of (Lost node) = 3
kind_of (Anew node boot floors) = 4

-- the node of an event, or the boot of a replacement store
abbrev number_in : WorldEvent → ℕ
number_in (Happens act) = acting_node act
number_in (Cut kept act) = acting_node act
number_in (Restart node) = node
number_in (Lost node) = node
number_in (Anew node boot floors) = boot

pub returns-clause-nothing_for_an_act : goal.returns-clause-nothing_for_an_act
returns-clause-nothing_for_an_act c h = let kind : 2 ≡ 0 = ap (λ event. kind_of event) h.event_is in omega (arith, kind)

pub returns-clause-act_of_another_input : goal.returns-clause-act_of_another_input
returns-clause-act_of_another_input c h =
    let node : 2 ≡ 1 = ap (λ event. number_in event) h.event_is ∙ ap (λ act. acting_node act) h.is_act in
    omega (arith, node)

no_loss : (Lost 1 ≡ nothing) ⊎ (Lost 1 ≡ Restart 1) → ⊥
no_loss h =
    ⊎_elim
    (λ (p : Lost 1 ≡ nothing). let kind : 3 ≡ 2 = ap (λ event. kind_of event) p in omega (arith, kind))
    (λ (q : Lost 1 ≡ Restart 1). let kind : 3 ≡ 2 = ap (λ event. kind_of event) q in omega (arith, kind))
    h

pub returns-clause-opening_is_a_loss : goal.returns-clause-opening_is_a_loss
returns-clause-opening_is_a_loss c h = no_loss h

pub returns-clause-failed_opening_is_a_loss : goal.returns-clause-failed_opening_is_a_loss
returns-clause-failed_opening_is_a_loss c h = no_loss h

is_something : Restart 1 ≡ nothing → ⊥
is_something e = let node : 1 ≡ 0 = ap (λ event. number_in event) e in omega (arith, node)

pub returns-clause-input_is_a_restart : goal.returns-clause-input_is_a_restart
returns-clause-input_is_a_restart c h =
    ⊎_elim
    (λ (p : Restart 1 ≡ nothing). is_something p)
    (λ (q : HasAct 1 Tick (λ act. Happens act) (Restart 1)). let kind : 2 ≡ 0 = ap (λ event. kind_of event) q.event_is in omega (arith, kind))
    h

pub returns-clause-offer_is_a_restart : goal.returns-clause-offer_is_a_restart
returns-clause-offer_is_a_restart c h = is_something h

pub returns-clause-stop_is_a_restart : goal.returns-clause-stop_is_a_restart
returns-clause-stop_is_a_restart c h = is_something h

pub returns-clause-stop_that_lost_it_is_a_cut : goal.returns-clause-stop_that_lost_it_is_a_cut
returns-clause-stop_that_lost_it_is_a_cut c h = let kind : 1 ≡ 2 = ap (λ event. kind_of event) h in omega (arith, kind)

pub returns-clause-stop_in_a_step_is_an_act : goal.returns-clause-stop_in_a_step_is_an_act
returns-clause-stop_in_a_step_is_an_act c h =
    ⊎_elim
    (λ (p : Happens (Ticks 1) ≡ nothing). let kind : 0 ≡ 2 = ap (λ event. kind_of event) p in omega (arith, kind))
    (λ (q : HasAct 1 Tick (λ act. Cut true act) (Happens (Ticks 1))). let kind : 0 ≡ 1 = ap (λ event. kind_of event) q.event_is in omega (arith, kind))
    h

pub returns-clause-loss_is_a_restart : goal.returns-clause-loss_is_a_restart
returns-clause-loss_is_a_restart c h =
    ⊎_elim
    (λ (p : Restart 1 ≡ nothing). is_something p)
    (λ (q : Restart 1 ≡ Lost 1). let kind : 2 ≡ 3 = ap (λ event. kind_of event) q in omega (arith, kind))
    h

pub returns-clause-store_anew_at_its_own_boot : goal.returns-clause-store_anew_at_its_own_boot
returns-clause-store_anew_at_its_own_boot c h =
    ⊎_elim
    (λ (p : Anew 1 2 [] ≡ nothing). let kind : 4 ≡ 2 = ap (λ event. kind_of event) p in omega (arith, kind))
    (λ (q : Anew 1 2 [] ≡ Anew 1 3 []). let boot : 2 ≡ 3 = ap (λ event. number_in event) q in omega (arith, boot))
    h

pub returns-clause-enrolment_is_a_restart : goal.returns-clause-enrolment_is_a_restart
returns-clause-enrolment_is_a_restart c h = is_something h

pub returns-clause-unlocking_is_nothing : goal.returns-clause-unlocking_is_nothing
returns-clause-unlocking_is_nothing c h = h

pub returns-clause-opened_gate_is_nothing : goal.returns-clause-opened_gate_is_nothing
returns-clause-opened_gate_is_nothing c h = h

pub returns-clause-raise_is_nothing : goal.returns-clause-raise_is_nothing
returns-clause-raise_is_nothing c h = h

-- ---- the events of a history

stops_only : HasEvent (Stops 1) 0 (Restart 1 ∷ []) → ⊥
stops_only h = is_something (same_Some (Restart 1) h.event h.is_there ∙ h.is_event)

pub returns-clause-no_event : goal.returns-clause-no_event
returns-clause-no_event c h = none-some h.event h.is_there

pub returns-clause-another_event : goal.returns-clause-another_event
returns-clause-another_event c h = stops_only h

pub returns-clause-run_with_an_event_more : goal.returns-clause-run_with_an_event_more
returns-clause-run_with_an_event_more c h = let number : 1 ≡ 0 = h.number in omega (arith, number)

pub returns-clause-run_with_another_event : goal.returns-clause-run_with_another_event
returns-clause-run_with_another_event c h = stops_only (h.each 0 (Stops 1) refl)

pub returns-clause-run_with_another_first_event : goal.returns-clause-run_with_another_first_event
returns-clause-run_with_another_first_event c h =
    let first = h.each 0 (Stops 1) refl in
    is_something (same_Some (Restart 1) first.event first.is_there ∙ first.is_event)

pub returns-clause-run_with_another_second_event : goal.returns-clause-run_with_another_second_event
returns-clause-run_with_another_second_event c h =
    let second = h.each 1 (Stops 1) refl in
    is_something (same_Some (Restart 1) second.event second.is_there ∙ second.is_event)

-- ---- what a history leaves, and what its run does

pub returns-clause-run_with_another_floor : goal.returns-clause-run_with_another_floor
unfolding code_at first_words schedule rounds compress hash_after digest_bytes sha1 state_after state_after_action world_after_events world_after_event world_after_act world_after_turn world_with_made world_after_restart made_by_event made_while_running made_by_datagram made_by_ruling made_by_proposal propose propose_alone propose_among on_ask accept count_grant on_grant raise count_deny on_deny on_floor on_message tick
returns-clause-run_with_another_floor c h = let floor : 1 ≡ 2 = h.floors 1 0 5 refl (omega arith) in omega (arith, floor)

pub returns-clause-run_without_the_answer : goal.returns-clause-run_without_the_answer
unfolding state_after state_after_action world_after_events world_after_event world_after_act world_after_turn world_with_made world_after_restart made_by_event made_while_running made_by_datagram made_by_ruling made_by_proposal propose propose_alone propose_among on_ask accept count_grant on_grant raise count_deny on_deny on_floor on_message tick
returns-clause-run_without_the_answer c h =
    let among = h.answered 0 (told_bad_line 3 1 7) refl in
    none-some (told_bad_line 3 1 7) among.is_there

-- the run tells one answer
told_one : (told : Answer) (place : ℕ) → slice_get (told_bad_line 2 1 7 ∷ []) place ≡ Some told → told.event ≡ 2
told_one told zero e = sym (ap (λ (answer : Answer). answer.event) (same_Some (told_bad_line 2 1 7) told e))
told_one told (suc place) e = absurd (none-some told e)

pub returns-clause-run_without_the_second_answer : goal.returns-clause-run_without_the_second_answer
unfolding state_after state_after_action world_after_events world_after_event world_after_act world_after_turn world_with_made world_after_restart made_by_event made_while_running made_by_datagram made_by_ruling made_by_proposal propose propose_alone propose_among on_ask accept count_grant on_grant raise count_deny on_deny on_floor on_message tick
returns-clause-run_without_the_second_answer c h =
    let among = h.answered 1 (told_bad_line 5 1 7) refl in
    let event : 5 ≡ 2 = told_one (told_bad_line 5 1 7) among.place among.is_there in
    omega (arith, event)

-- ---- a Grant that was never sent

-- the store holds the acceptance
forged_grant_counts : accepted_in (setting_of three_nodes) (three_rows ++ forged_grant_comes) ≡ acceptance 4 5 1 0 0 ∷ []
unfolding code_at first_words schedule rounds compress hash_after digest_bytes sha1 state_after state_after_action made_by_event made_while_running made_by_datagram made_by_ruling made_by_proposal propose propose_alone propose_among on_ask accept count_grant on_grant raise count_deny on_deny on_floor on_message tick
forged_grant_counts = refl

-- what the opening and the line can be in a run
abbrev opened : Bool → WorldEvent
opened true = Restart 1
opened false = nothing

abbrev said_there : Bool → WorldEvent
said_there true = Happens (Says 1 7 100 (codes "CHECK 1 silver 755224 -"))
said_there false = nothing

is_opened : (event : WorldEvent) → IsEventOf (Opens 1 three_terms) event → (b : Bool) × (event ≡ opened b)
is_opened event h =
    ⊎_elim (λ (p : event ≡ nothing). (false, p)) (λ (q : event ≡ Restart 1). (true, q)) h

is_said : (event : WorldEvent) → IsEventOf (Takes 1 right_line) event → (b : Bool) × (event ≡ said_there b)
is_said event h =
    ⊎_elim
    (λ (p : event ≡ nothing). (false, p))
    (λ (q : HasAct 1 right_line (λ act. Happens act) event). (true, q.event_is ∙ ap (λ act. Happens act) q.is_act))
    h

-- a run of the three nodes accepts nothing
abbrev AcceptsNone : List WorldEvent → Type 0
AcceptsNone events = passes_of three_nodes.config (start_of three_nodes) events ≡ []

-- neither does one of these and of a third event, whichever that is
abbrev NoneWith : Bool → Bool → WorldEvent → Type 0
NoneWith a b last = AcceptsNone (nothing ∷ nothing ∷ nothing ∷ opened a ∷ said_there b ∷ last ∷ [])

none_by_nothing : (a b : Bool) → NoneWith a b nothing
unfolding code_at first_words schedule rounds compress hash_after digest_bytes sha1 world_after_events world_after_event world_after_act world_after_turn world_with_made world_after_restart made_by_event made_while_running made_by_datagram made_by_ruling made_by_proposal propose propose_alone propose_among on_ask accept count_grant on_grant raise count_deny on_deny on_floor on_message tick
none_by_nothing true true = refl
none_by_nothing true false = refl
none_by_nothing false true = refl
none_by_nothing false false = refl

-- only the two Asks were sent, and node 1 receives neither
none_by_delivery : (a b : Bool) (k : ℕ) → NoneWith a b (Happens (Deliver 1 k))
unfolding code_at first_words schedule rounds compress hash_after digest_bytes sha1 world_after_events world_after_event world_after_act world_after_turn world_with_made world_after_restart made_by_event made_while_running made_by_datagram made_by_ruling made_by_proposal propose propose_alone propose_among on_ask accept count_grant on_grant raise count_deny on_deny on_floor on_message tick
none_by_delivery true true zero = refl
none_by_delivery true true (suc zero) = refl
none_by_delivery true true (suc (suc k)) = refl
none_by_delivery true false k = refl
none_by_delivery false true zero = refl
none_by_delivery false true (suc zero) = refl
none_by_delivery false true (suc (suc k)) = refl
none_by_delivery false false k = refl

none_by_noise : (a b : Bool) → NoneWith a b (Happens (Noise 1 2 (Some grant)))
unfolding code_at first_words schedule rounds compress hash_after digest_bytes sha1 world_after_events world_after_event world_after_act world_after_turn world_with_made world_after_restart made_by_event made_while_running made_by_datagram made_by_ruling made_by_proposal propose propose_alone propose_among on_ask accept count_grant on_grant raise count_deny on_deny on_floor on_message tick
none_by_noise true true = refl
none_by_noise true false = refl
none_by_noise false true = refl
none_by_noise false false = refl

none_by_act : (a b : Bool) (act : Act) → IsActOf 1 (comes grant) act → NoneWith a b (Happens act)
none_by_act a b act h =
    ⊎_elim
    (λ (p : (k : ℕ) × (act ≡ Deliver 1 k)). subst (λ did. NoneWith a b (Happens did)) (sym p.1) (none_by_delivery a b p.0))
    (λ (q : act ≡ Noise 1 2 (Some grant)). subst (λ did. NoneWith a b (Happens did)) (sym q) (none_by_noise a b))
    h

none_by_event : (a b : Bool) (event : WorldEvent) → IsEventOf (Takes 1 (comes grant)) event → NoneWith a b event
none_by_event a b event h =
    ⊎_elim
    (λ (p : event ≡ nothing). subst (λ last. NoneWith a b last) (sym p) (none_by_nothing a b))
    (λ (q : HasAct 1 (comes grant) (λ act. Happens act) event). subst (λ last. NoneWith a b last) (sym q.event_is) (none_by_act a b q.act q.is_act))
    h

-- a list is its first elements and the rest
first_event : (events : List WorldEvent) (x : WorldEvent) → slice_get events 0 ≡ Some x → (rest : List WorldEvent) × (events ≡ x ∷ rest)
first_event [] x at = absurd (none-some x at)
first_event (y ∷ rest) x at = (rest, ap (λ z. z ∷ rest) (same_Some y x at))

no_more : (events : List WorldEvent) → length events ≡ 0 → events ≡ []
no_more [] n = refl
no_more (x ∷ events) n = let more : suc (length events) ≡ 0 = n in absurd (omega (arith, more))

is_nothing : (node : ℕ) (event : WorldEvent) → IsEventOf (Enrols node 0 0) event → event ≡ nothing
is_nothing node event h = h

-- six events are those at their places
six_events : (events : List WorldEvent) (x y z : WorldEvent) → length events ≡ 6 → slice_get events 0 ≡ Some nothing → slice_get events 1 ≡ Some nothing → slice_get events 2 ≡ Some nothing
    → slice_get events 3 ≡ Some x → slice_get events 4 ≡ Some y → slice_get events 5 ≡ Some z → events ≡ nothing ∷ nothing ∷ nothing ∷ x ∷ y ∷ z ∷ []
six_events events x y z n at_0 at_1 at_2 at_3 at_4 at_5 =
    let a = first_event events nothing at_0 in
    let b = first_event a.0 nothing (sym (ap (λ l. slice_get l 1) a.1) ∙ at_1) in
    let to_b : events ≡ nothing ∷ nothing ∷ b.0 = a.1 ∙ ap (λ l. nothing ∷ l) b.1 in
    let c = first_event b.0 nothing (sym (ap (λ l. slice_get l 2) to_b) ∙ at_2) in
    let to_c : events ≡ nothing ∷ nothing ∷ nothing ∷ c.0 = to_b ∙ ap (λ l. nothing ∷ nothing ∷ l) c.1 in
    let d = first_event c.0 x (sym (ap (λ l. slice_get l 3) to_c) ∙ at_3) in
    let to_d : events ≡ nothing ∷ nothing ∷ nothing ∷ x ∷ d.0 = to_c ∙ ap (λ l. nothing ∷ nothing ∷ nothing ∷ l) d.1 in
    let e = first_event d.0 y (sym (ap (λ l. slice_get l 4) to_d) ∙ at_4) in
    let to_e : events ≡ nothing ∷ nothing ∷ nothing ∷ x ∷ y ∷ e.0 = to_d ∙ ap (λ l. nothing ∷ nothing ∷ nothing ∷ x ∷ l) e.1 in
    let f = first_event e.0 z (sym (ap (λ l. slice_get l 5) to_e) ∙ at_5) in
    let to_f : events ≡ nothing ∷ nothing ∷ nothing ∷ x ∷ y ∷ z ∷ f.0 = to_e ∙ ap (λ l. nothing ∷ nothing ∷ nothing ∷ x ∷ y ∷ l) f.1 in
    let number : suc (suc (suc (suc (suc (suc (length f.0)))))) ≡ 6 = sym (ap (λ (l : List WorldEvent). length l) to_f) ∙ n in
    to_f ∙ ap (λ l. nothing ∷ nothing ∷ nothing ∷ x ∷ y ∷ z ∷ l) (no_more f.0 (omega (arith, number)))

pub returns-clause-explained_by_no_run : goal.returns-clause-explained_by_no_run
returns-clause-explained_by_no_run c h =
    let run = h.is_run in
    let row_1 = run.each 0 (Enrols 1 0 0) refl in
    let row_2 = run.each 1 (Enrols 2 0 0) refl in
    let row_3 = run.each 2 (Enrols 3 0 0) refl in
    let first = run.each 3 (Opens 1 three_terms) refl in
    let second = run.each 4 (Takes 1 right_line) refl in
    let third = run.each 5 (Takes 1 (comes grant)) refl in
    let a = is_opened first.event first.is_event in
    let b = is_said second.event second.is_event in
    let at_first : slice_get h.events 3 ≡ Some (opened a.0) = first.is_there ∙ ap (λ e. Some e) a.1 in
    let at_second : slice_get h.events 4 ≡ Some (said_there b.0) = second.is_there ∙ ap (λ e. Some e) b.1 in
    let same = six_events h.events (opened a.0) (said_there b.0) third.event run.number (row_1.is_there ∙ ap (λ e. Some e) (is_nothing 1 row_1.event row_1.is_event))
    (row_2.is_there ∙ ap (λ e. Some e) (is_nothing 2 row_2.event row_2.is_event)) (row_3.is_there ∙ ap (λ e. Some e) (is_nothing 3 row_3.event row_3.is_event)) at_first at_second third.is_there in
    let none : AcceptsNone h.events = subst (λ events. AcceptsNone events) (sym same) (none_by_event a.0 b.0 third.event third.is_event) in
    let number : 1 ≡ 0 = ap (λ (passes : List Acceptance). length passes) (sym forged_grant_counts ∙ run.accepted ∙ none) in
    omega (arith, number)

pub returns-clause-each : goal.returns-clause-each
returns-clause-each c = λ cluster before actions events place action h at. h.each place action at
