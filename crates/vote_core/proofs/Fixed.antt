-- A schedule over a book that stays as it is is one of rosters.
use Rattle.std.proofs.Common.{◌≡◌, ℕ, suc, Bool, true, false, cond, List, [], ◌∷◌, ◌++◌, Option, Some, None, refl, sym, ap, ◌∙◌, subst, eqb}
use Rattle.std.specs.List.{filter, flat_map, slice_get}
use Rattle.std.proofs.lemmas.Bool.{cond_both, cond-true}
use Rattle.floor_store.specs.Content.{Content}
use Rattle.vote_core.specs.NodeSet.{PlaceRecord}
use Rattle.vote_core.specs.Roster.{Roster, token_of, act_of_hearing, act_of, event_of, with_tokens, enrolled_by, after_happening, serve, opened, served, all_tokens, deed_of, happening_of, happenings_of, RaisesNone, RaiseNone}
use Rattle.vote_core.specs.Schedule.{Envelope, Cluster, Act, Begin, Deliver, Tick, Throttle, Idle, TickTelling, Tell, Raise, Event, Happens, Cut, Restart, Lost, Replaced, Opening, is_running, place_of, cluster_after, may_replace, after_act, after_event, after_restart, with_sent_of, node_of, run, start}
use Rattle.vote_core.specs.Voting.{VoterState, Voted, floor_sends, tick, tick_telling, young_ballots, asks_again, turn_after, timeouts}

append_none : {A : Type 0} (xs : List A) → xs ++ [] ≡ xs
append_none [] = refl
append_none (x ∷ xs) = ap (λ l. x ∷ l) (append_none xs)

pub tick_is : (place : PlaceRecord) (c : Content) (v : VoterState) → tick place c v ≡ tick_telling place (v.turn ∷ []) c v
unfolding tick tick_telling
tick_is place c v =
    ap (λ sends. record {
      content = c;
      voter = record v { pending = young_ballots v.pending; turn = turn_after c v.turn };
      sends = flat_map (asks_again place c.boot) (young_ballots v.pending) ++ sends;
      begun = None;
      decisions = timeouts v.pending;
    }) (sym (append_none (floor_sends place c v.turn)))

-- all tokens are enrolled
abbrev AllOn : Roster → Type 0
AllOn r = (i t : ℕ) → r.enrolled i t ≡ true

filter_all : (test : ℕ → Bool) (ts : List ℕ) → ((t : ℕ) → test t ≡ true) → filter test ts ≡ ts
filter_all test [] h = refl
filter_all test (t ∷ ts) h = cond-true (test t) (t ∷ filter test ts) (filter test ts) (h t) ∙ ap (λ l. t ∷ l) (filter_all test ts h)

hearing_is : (r : Roster) (k : ℕ) (o : Option Envelope) → AllOn r → act_of_hearing r k o ≡ Deliver k
hearing_is r k None on = refl
hearing_is r k (Some l) on = cond-true (r.enrolled l.receiver (token_of l.message)) (Deliver k) (Idle l.receiver) (on l.receiver (token_of l.message))

-- the act that it is, but that the tick names its turn
abbrev as_named : Cluster → Act → Act
as_named w (Tick i) = TickTelling i ((w.nodes i).voter.turn ∷ [])
as_named w a = a

-- the act raises no floors
abbrev RaisesNoneIn : Act → Type 0
RaisesNoneIn a = RaisesNone (Happens a)

act_is : (r : Roster) (a : Act) → AllOn r → RaisesNoneIn a → act_of r (deed_of r.cluster a) ≡ as_named r.cluster a
act_is r (Begin i t lo hi drift) on h = cond-true (r.enrolled i t) (Begin i t lo hi drift) (Idle i) (on i t)
act_is r (Deliver k) on h = hearing_is r k (slice_get r.cluster.sent k) on
act_is r (Tick i) on h = ap (TickTelling i) (filter_all (r.enrolled i) ((r.cluster.nodes i).voter.turn ∷ []) (on i))
act_is r (Throttle i t gate) on h = cond-true (r.enrolled i t) (Throttle i t gate) (Idle i) (on i t)
act_is r (Idle i) on h = refl
act_is r (TickTelling i told) on h = ap (TickTelling i) (filter_all (r.enrolled i) told (on i))
act_is r (Tell i told) on h = ap (Tell i) (filter_all (r.enrolled i) told (on i))
act_is r (Raise i floor) on h = absurd h

named_same : (e : ℕ) (w : Cluster) (a : Act) → after_act e (as_named w a) w ≡ after_act e a w
unfolding after_act
named_same e w (Begin i t lo hi drift) = refl
named_same e w (Deliver k) = refl
named_same e w (Tick i) = ap (λ (s : Voted). cond (is_running w i) (cluster_after e i s w) w) (sym (tick_is (place_of w i) (w.nodes i).content (w.nodes i).voter))
named_same e w (Throttle i t gate) = refl
named_same e w (Idle i) = refl
named_same e w (TickTelling i told) = refl
named_same e w (Tell i told) = refl
named_same e w (Raise i floor) = refl

named_node : (w : Cluster) (a : Act) → node_of (as_named w a) w ≡ node_of a w
named_node w (Begin i t lo hi drift) = refl
named_node w (Deliver k) = refl
named_node w (Tick i) = refl
named_node w (Throttle i t gate) = refl
named_node w (Idle i) = refl
named_node w (TickTelling i told) = refl
named_node w (Tell i told) = refl
named_node w (Raise i floor) = refl

act_same : (e : ℕ) (r : Roster) (a : Act) → AllOn r → RaisesNoneIn a → after_act e (act_of r (deed_of r.cluster a)) r.cluster ≡ after_act e a r.cluster
act_same e r a on h = ap (λ b. after_act e b r.cluster) (act_is r a on h) ∙ named_same e r.cluster a

node_same : (r : Roster) (a : Act) → AllOn r → RaisesNoneIn a → node_of (act_of r (deed_of r.cluster a)) r.cluster ≡ node_of a r.cluster
node_same r a on h = ap (λ b. node_of b r.cluster) (act_is r a on h) ∙ named_node r.cluster a

cut_none : (kept : Bool) (a : Act) → RaisesNone (Cut kept a) → RaisesNoneIn a
cut_none kept (Begin i t lo hi drift) h = tt
cut_none kept (Deliver k) h = tt
cut_none kept (Tick i) h = tt
cut_none kept (Throttle i t gate) h = tt
cut_none kept (Idle i) h = tt
cut_none kept (TickTelling i told) h = tt
cut_none kept (Tell i told) h = tt
cut_none kept (Raise i floor) h = h

event_same : (e : ℕ) (r : Roster) (x : Event) → AllOn r → RaisesNone x → after_event e (event_of r (happening_of r.cluster x)) r.cluster ≡ after_event e x r.cluster
unfolding after_event
event_same e r (Happens a) on h = act_same e r a on h
event_same e r (Cut true a) on h =
    ap (λ o. after_restart o (with_sent_of r.cluster (after_act e (act_of r (deed_of r.cluster a)) r.cluster))) (node_same r a on (cut_none true a h))
    ∙ ap (λ (w : Cluster). after_restart (node_of a r.cluster) (with_sent_of r.cluster w)) (act_same e r a on (cut_none true a h))
event_same e r (Cut false a) on h = ap (λ o. after_restart o r.cluster) (node_same r a on (cut_none false a h))
event_same e r (Restart i) on h = refl
event_same e r (Lost i) on h = refl
event_same e r (Replaced i boot floor) on h = refl

deed_on : (r : Roster) (a : Act) → AllOn r → (i t : ℕ) → enrolled_by r (deed_of r.cluster a) i t ≡ true
deed_on r (Begin i t lo hi drift) on = on
deed_on r (Deliver k) on = on
deed_on r (Tick i) on = on
deed_on r (Throttle i t gate) on = on
deed_on r (Idle i) on = on
deed_on r (TickTelling i told) on = on
deed_on r (Tell i told) on = on
deed_on r (Raise i floor) on = on

on_after : (e : ℕ) (r : Roster) (x : Event) → AllOn r → AllOn (after_happening e (happening_of r.cluster x) r)
on_after e r (Happens a) on = deed_on r a on
on_after e r (Cut true a) on = deed_on r a on
on_after e r (Cut false a) on = on
on_after e r (Restart i) on = on
on_after e r (Lost i) on = on
on_after e r (Replaced i boot floor) on = λ j t.
    cond_both (may_replace r.cluster i boot floor) (with_tokens i (λ _. true) r.enrolled) r.enrolled (λ (E : ℕ → ℕ → Bool). E j t ≡ true)
    (λ _. cond_both (eqb j i) (λ _. true) (r.enrolled j) (λ (g : ℕ → Bool). g t ≡ true) (λ _. refl) (λ _. on j t))
    (λ _. on j t)

run_same : (xs : List Event) (e : ℕ) (r : Roster) → AllOn r → RaiseNone xs → (serve e (happenings_of e xs r.cluster) r).cluster ≡ run e xs r.cluster
unfolding serve run happenings_of
run_same [] e r on h = refl
run_same (x ∷ xs) e r on h =
    let r' = after_happening e (happening_of r.cluster x) r in
    subst (λ (c : Cluster). (serve (suc e) (happenings_of (suc e) xs c) r').cluster ≡ run (suc e) xs c) (event_same e r x on (h 0 x refl))
    (run_same xs (suc e) r' (on_after e r x on) (λ k. h (suc k)))

pub fixed_runs : (n tokens : ℕ) (opening : Opening) (events : List Event) → RaiseNone events
    → (served n tokens opening all_tokens (happenings_of 0 events (start n tokens opening))).cluster ≡ run 0 events (start n tokens opening)
fixed_runs n tokens opening events h = run_same events 0 (opened n tokens opening all_tokens) (λ _ _. refl) h
