-- The gate of each token at each node is the gate after its results there, and each failure came while the token was open.
use Rattle.std.proofs.Common.{◌≡◌, ℕ, zero, suc, ◌-◌, ◌^◌, ◌<◌, ◌≤◌, Bool, true, false, cond, List, [], ◌∷◌, ◌++◌, length, Option, Some, None, refl, sym, ap, ◌∙◌, subst, arith, eqb, get_or, ltb}
use Rattle.std.proofs.lemmas.Bool.{cond_both, eqb-true}
use Rattle.otp_core.specs.Gate.{GateRecord, clear_gate, with_failure}
use Rattle.admit_core.specs.Throttle.{Result, Failed, Accepted, gate_after, IsOpenAfter, AreGated, SpacesFailures}
use Rattle.floor_store.specs.Records.{RowRecord, PassRecord}
use Rattle.vote_core.specs.NodeSet.{PlaceRecord}
use Rattle.vote_core.specs.Rows.{row, no_row, row_with_gate}
use Rattle.vote_core.specs.Voting.{Voted, propose, on_message, tick, pass_in}
use Rattle.vote_core.specs.Schedule.{last_boot, opening_rows}
use Rattle.vote_core.proofs.Basics.{Each, each_append, each_get_or}
use Rattle.oath_node.specs.Grounds.{HasGrounds}
use Rattle.client_lines.specs.Request.{without_lf}
use Rattle.oath_node.specs.declared.ruling.Ruling.{Ruling}
use Rattle.oath_node.specs.declared.ruling.Ruling.TheVariants.{Outside, Again, Waiting, Denied, Wrong, Fitting}
use Rattle.oath_node.specs.Machine.{Config, NodeState, NodeEvent, Client, Peer, Tick, Made, Owner, Beginning, quiet_made, stopped_node, gate_with_failure, made_by_vote, next_beginning, made_by_proposal, made_by_ruling, made_by_datagram, is_heard, made_while_running, made_by_event, ruling_at, standing_at, restarted_node}
use Rattle.vote_core.specs.Schedule.{content_with_gate}
use Rattle.cluster_sim.specs.World.{World, WorldEvent, Happens, Cut, Restart, Lost, Anew, floor_in, has_store, lost_node, may_be_anew, opening_node, world_after_anew, world_after_loss, world_with_made, world_after_turn, world_after_act, node_event_of, place_at, acting_node, node_of, world_after_restart, with_told_of, world_after_event, world_after_events, opening_world, Start}
use Rattle.cluster_sim.specs.Results.{results_with_failure, results_with_pass, results_in, results_of}
use Rattle.cluster_sim.proofs.Refinement.{cluster_of}
use Rattle.cluster_sim.proofs.BelowLaws.{GroundLaw, GateLaw, SpaceLaw}
use Rattle.cluster_sim.proofs.Shape.{push}
use Rattle.cluster_sim.proofs.VoteGates.{gate_by, GateStep, put_gate, message_gate, propose_gate, tick_gate}
use Rattle.cluster_sim.proofs.Sizes.{Sized}
use Rattle.cluster_sim.proofs.Runs.{next_sized, start_sized}

-- the gates of the tokens of a book are the gates after the given results
abbrev GatedAt : ℕ → (ℕ → List Result) → NodeState → Type 0
GatedAt tokens rs x = (t : ℕ) → t < tokens → (row x.content t).gate ≡ gate_after (rs t)

-- the results after an event at a node
abbrev results_by : Made → (ℕ → List Result) → ℕ → List Result
results_by o rs t = results_with_failure t o.failed (results_with_pass t o.pass (rs t))

-- of what an event makes of a node with these results before
record MadeRight (tokens : ℕ) (rs : ℕ → List Result) (o : Made) : Type 0 where
  gates : GatedAt tokens (results_by o rs) o.state
  opened : (t : ℕ) → AreGated (rs t) → AreGated (results_by o rs t)

pub record Gated (tokens : ℕ) (w : World) : Type 0 where
  pub gates : (i t : ℕ) → t < tokens → (row (w.nodes i).content t).gate ≡ gate_after (results_in w.history i t)
  pub opened : (i t : ℕ) → AreGated (results_in w.history i t)

split_on : (b : Bool) (X Y : NodeState) (R S : List Result) (t : ℕ) → (b ≡ true → (row X.content t).gate ≡ gate_after R) → (b ≡ false → (row Y.content t).gate ≡ gate_after S)
    → (row (cond b X Y).content t).gate ≡ gate_after (cond b R S)
split_on true X Y R S t h k = h refl
split_on false X Y R S t h k = k refl

made_gated : (tokens e i : ℕ) (o : Made) (w : World) → Gated tokens w → MadeRight tokens (λ t. results_in w.history i t) o → Gated tokens (world_with_made e i o w)
unfolding world_with_made
made_gated tokens e i o w h k = record {
  gates = λ j t lt.
      split_on (eqb j i) o.state (w.nodes j) (results_with_failure t o.failed (results_with_pass t o.pass (results_in w.history j t))) (results_in w.history j t) t
      (λ q. subst (λ m. (row o.state.content t).gate ≡ gate_after (results_with_failure t o.failed (results_with_pass t o.pass (results_in w.history m t)))) (sym (eqb-true j i q)) (k.gates t lt))
      (λ _. h.gates j t lt);
  opened = λ j t.
      cond_both (eqb j i) (results_with_failure t o.failed (results_with_pass t o.pass (results_in w.history j t))) (results_in w.history j t) AreGated
      (λ q. subst (λ m. AreGated (results_with_failure t o.failed (results_with_pass t o.pass (results_in w.history m t)))) (sym (eqb-true j i q)) (k.opened t (h.opened i t)))
      (λ _. h.opened j t);
}

gate_passed : GateLaw → (t : ℕ) (o : Option PassRecord) (rs : List Result) → gate_by o t (gate_after rs) ≡ gate_after (results_with_pass t o rs)
gate_passed law t None rs = refl
gate_passed law t (Some p) rs =
    ap (λ g. cond (eqb p.token t) g (gate_after rs)) (sym (law.accepted rs)) ∙ sym (push gate_after (eqb p.token t) (Accepted ∷ rs) rs)

opened_passed : (t : ℕ) (o : Option PassRecord) (rs : List Result) → AreGated rs → AreGated (results_with_pass t o rs)
opened_passed t None rs h = h
opened_passed t (Some p) rs h = cond_both (eqb p.token t) (Accepted ∷ rs) rs AreGated (λ _. h) (λ _. h)

quiet_right : (tokens : ℕ) (rs : ℕ → List Result) (o : Made) → GatedAt tokens rs o.state → o.failed ≡ None → o.pass ≡ None → MadeRight tokens rs o
quiet_right tokens rs o h f p = record {
  gates = λ t lt. h t lt ∙ ap (λ x. gate_after (results_with_pass t x (rs t))) (sym p) ∙ ap (λ x. gate_after (results_with_failure t x (results_with_pass t o.pass (rs t)))) (sym f);
  opened = λ t g. subst (λ x. AreGated (results_with_failure t x (results_with_pass t o.pass (rs t)))) (sym f) (opened_passed t o.pass (rs t) g);
}

voted_right : GateLaw → (tokens : ℕ) (rs : ℕ → List Result) (x : NodeState) (owners : List Owner) (began : Option Beginning) (s : Voted) → length x.content.rows ≡ tokens
    → GatedAt tokens rs x → GateStep x.content s → MadeRight tokens rs (made_by_vote owners began s x)
voted_right law tokens rs x owners began s sized h k = record {
  gates = λ t lt. k t (subst (λ m. t < m) (sym sized) lt) ∙ ap (λ g. gate_by (pass_in s.decisions) t g) (h t lt) ∙ gate_passed law t (pass_in s.decisions) (rs t);
  opened = λ t g. opened_passed t (pass_in s.decisions) (rs t) g;
}

wrong_gates : GateLaw → (tokens : ℕ) (rs : ℕ → List Result) (x : NodeState) (token moment : ℕ) → length x.content.rows ≡ tokens
    → GatedAt tokens rs x → (t : ℕ) → t < tokens → (row (content_with_gate token (gate_with_failure x.content token moment) x.content) t).gate ≡ gate_after (results_with_failure t (Some (token, moment)) (rs t))
wrong_gates law tokens rs x token moment sized h t lt =
    put_gate x.content token (row_with_gate (gate_with_failure x.content token moment) (row x.content token)) None t (subst (λ m. t < m) (sym sized) lt)
    ∙ choose (eqb token t) (λ q. ap (λ m. with_failure (row x.content m).gate moment) (eqb-true token t q) ∙ ap (λ g. with_failure g moment) (h t lt) ∙ sym (law.failed (rs t) moment)) (λ _. h t lt)
  where
    choose : (b : Bool) → (b ≡ true → gate_with_failure x.content token moment ≡ gate_after (Failed moment ∷ rs t)) → (b ≡ false → (row x.content t).gate ≡ gate_after (rs t))
        → cond b (gate_with_failure x.content token moment) (row x.content t).gate ≡ gate_after (cond b (Failed moment ∷ rs t) (rs t))
    choose true p q = p refl
    choose false p q = q refl

-- the token is open by its gate, so it is by its results
pub open_by_list : GateLaw → (rs : List Result) (g : GateRecord) (moment : ℕ) → g ≡ gate_after rs → g.until - moment ≤ 0 → IsOpenAfter rs moment
open_by_list law rs g moment same none =
    let now : g.until ≤ moment = omega (arith, none) in
    (law.opens rs moment).0 (subst (λ (x : GateRecord). x.until ≤ moment) same now)

wrong_opened : GateLaw → (tokens : ℕ) (rs : ℕ → List Result) (x : NodeState) (token moment : ℕ) → token < tokens → GatedAt tokens rs x
    → (row x.content token).gate.until - moment ≤ 0 → (t : ℕ) → AreGated (rs t) → AreGated (results_with_failure t (Some (token, moment)) (rs t))
wrong_opened law tokens rs x token moment lt h none t g =
    cond_both (eqb token t) (Failed moment ∷ rs t) (rs t) AreGated
    (λ q. (subst (λ m. IsOpenAfter (rs m) moment) (eqb-true token t q) (open_by_list law (rs token) (row x.content token).gate moment (h token lt) none), g)) (λ _. g)

ruling_right : GateLaw → (config : Config) (rs : ℕ → List Result) (place : PlaceRecord) (x : NodeState) (client moment : ℕ) (text line : List ℕ) → length x.content.rows ≡ length config.book
    → GatedAt (length config.book) rs x → (r : Ruling) → HasGrounds config.book config.limits (standing_at x client moment line) moment text r
    → MadeRight (length config.book) rs (made_by_ruling place client moment line r x)
unfolding made_by_ruling made_by_proposal
ruling_right law config rs place x client moment text line sized h Outside g = quiet_right _ rs _ h refl refl
ruling_right law config rs place x client moment text line sized h (Again kept) g = quiet_right _ rs _ h refl refl
ruling_right law config rs place x client moment text line sized h Waiting g = quiet_right _ rs _ h refl refl
ruling_right law config rs place x client moment text line sized h (Denied nonce reason) g = quiet_right _ rs _ h refl refl
ruling_right law config rs place x client moment text line sized h (Wrong nonce reason token) g = record {
  gates = wrong_gates law (length config.book) rs x token moment sized h;
  opened = wrong_opened law (length config.book) rs x token moment g.within h g.is_open;
}
ruling_right law config rs place x client moment text line sized h (Fitting nonce t span drift) g =
    let s = propose place t span.lo span.hi drift x.content x.voter in
    let owner : Owner = record { seq = x.voter.seq; client = client; line = line; nonce = nonce } in
    cond_both (ltb x.voter.seq (2 ^ 62)) (made_by_vote (x.owners ++ owner ∷ []) (Some (next_beginning place t span.lo span.hi x)) s x) (quiet_made (stopped_node x)) (λ o. MadeRight (length config.book) rs o)
    (λ _. voted_right law (length config.book) rs x (x.owners ++ owner ∷ []) (Some (next_beginning place t span.lo span.hi x)) s sized h (propose_gate place t span.lo span.hi drift x.content x.voter))
    (λ _. quiet_right _ rs (quiet_made (stopped_node x)) h refl refl)

event_right : GroundLaw → GateLaw → (config : Config) (rs : ℕ → List Result) (place : PlaceRecord) (x : NodeState) → length x.content.rows ≡ length config.book → GatedAt (length config.book) rs x
    → (v : NodeEvent) → MadeRight (length config.book) rs (made_while_running config place v x)
unfolding made_while_running made_by_datagram
event_right grounds law config rs place x sized h (Client client moment text) =
    ruling_right law config rs place x client moment text (without_lf text) sized h (ruling_at config x client moment text)
    (grounds config.book config.limits (standing_at x client moment (without_lf text)) moment text)
event_right grounds law config rs place x sized h (Peer from None) = quiet_right _ rs (quiet_made x) h refl refl
event_right grounds law config rs place x sized h (Peer from (Some l)) =
    let s = on_message place from l.message x.content x.voter in
    cond_both (is_heard config place from l) (made_by_vote x.owners None s x) (quiet_made x) (λ o. MadeRight (length config.book) rs o)
    (λ _. voted_right law (length config.book) rs x x.owners None s sized h (message_gate place from l.message x.content x.voter)) (λ _. quiet_right _ rs (quiet_made x) h refl refl)
event_right grounds law config rs place x sized h Tick = voted_right law (length config.book) rs x x.owners None (tick place x.content x.voter) sized h (tick_gate place x.content x.voter)

turned_gated : GroundLaw → GateLaw → (config : Config) (e i : ℕ) (o : Option NodeEvent) (w : World) → Sized (length config.book) (cluster_of w) → Gated (length config.book) w → Gated (length config.book) (world_after_turn config e i o w)
unfolding world_after_turn made_by_event
turned_gated grounds law config e i None w sized h = h
turned_gated grounds law config e i (Some v) w sized h =
    let place = place_at w i in
    let x = w.nodes i in
    let rs : ℕ → List Result = λ t. results_in w.history i t in
    cond_both (has_store w i) (world_with_made e i (made_by_event config place v x) w) w (λ z. Gated (length config.book) z)
    (λ _. made_gated (length config.book) e i (made_by_event config place v x) w h
    (cond_both x.running (made_while_running config place v x) (quiet_made x) (λ o. MadeRight (length config.book) rs o)
    (λ _. event_right grounds law config rs place x (sized i) (h.gates i) v) (λ _. quiet_right _ rs (quiet_made x) (h.gates i) refl refl)))
    (λ _. h)

restarted_rows : (x : NodeState) (t : ℕ) → (row (restarted_node x).content t).gate ≡ (row x.content t).gate
restarted_rows x t = cond_both {A = NodeState} (ltb x.content.boot last_boot) _ (stopped_node x) (λ y. (row y.content t).gate ≡ (row x.content t).gate) (λ _. refl) (λ _. refl)

restart_gated : (tokens : ℕ) (o : Option ℕ) (w : World) → Gated tokens w → Gated tokens (world_after_restart o w)
unfolding world_after_restart
restart_gated tokens None w h = h
restart_gated tokens (Some i) w h =
    cond_both {A = World} (has_store w i) _ w (λ z. Gated tokens z)
    (λ _. record {
      gates = λ j t lt. cond_both (eqb j i) (restarted_node (w.nodes i)) (w.nodes j) (λ y. (row y.content t).gate ≡ gate_after (results_in w.history j t))
          (λ q. restarted_rows (w.nodes i) t ∙ ap (λ m. (row (w.nodes m).content t).gate) (sym (eqb-true j i q)) ∙ h.gates j t lt) (λ _. h.gates j t lt);
      opened = h.opened;
    })
    (λ _. h)

loss_gated : (tokens i : ℕ) (w : World) → Gated tokens w → Gated tokens (world_after_loss i w)
unfolding world_after_loss
loss_gated tokens i w h =
    cond_both {A = World} (has_store w i) _ w (λ z. Gated tokens z)
    (λ _. record {
      gates = λ j t lt. cond_both (eqb j i) (lost_node (w.nodes i)) (w.nodes j) (λ y. (row y.content t).gate ≡ gate_after (results_in w.history j t))
          (λ q. ap (λ m. (row (w.nodes m).content t).gate) (sym (eqb-true j i q)) ∙ h.gates j t lt) (λ _. h.gates j t lt);
      opened = h.opened;
    })
    (λ _. h)

opening_clear : (k : ℕ) (floor : ℕ → ℕ) → Each (λ (r : RowRecord). r.gate ≡ clear_gate) (opening_rows k floor)
opening_clear zero floor = tt
opening_clear (suc k) floor = each_append (λ (r : RowRecord). r.gate ≡ clear_gate) (opening_rows k floor) _ (opening_clear k floor) (refl, tt)

opening_gate : (k : ℕ) (floor : ℕ → ℕ) (t : ℕ) → (get_or (opening_rows k floor) t no_row).gate ≡ clear_gate
opening_gate k floor t = each_get_or (λ (r : RowRecord). r.gate ≡ clear_gate) (opening_rows k floor) t no_row (opening_clear k floor) refl

-- a replacement store has no results, and clear gates
anew_gated : GateLaw → (tokens e i boot : ℕ) (floor : ℕ → ℕ) (w : World) → Gated tokens w → Gated tokens (world_after_anew e i boot floor w)
unfolding world_after_anew
anew_gated law tokens e i boot floor w h =
    let k = length (w.nodes i).content.rows in
    cond_both {A = World} (may_be_anew w i boot floor) _ w (λ z. Gated tokens z)
    (λ _. record {
      gates = λ j t lt.
          split_on (eqb j i) (opening_node boot k floor) (w.nodes j) [] (results_in w.history j t) t (λ _. opening_gate k floor t ∙ sym law.start) (λ _. h.gates j t lt);
      opened = λ j t. cond_both (eqb j i) [] (results_in w.history j t) AreGated (λ _. tt) (λ _. h.opened j t);
    })
    (λ _. h)

unsent_gated : (tokens : ℕ) (w new : World) → Gated tokens new → Gated tokens (with_told_of w new)
unsent_gated tokens w new h = record { gates = h.gates; opened = h.opened }

happens_gated : GroundLaw → GateLaw → (config : Config) (e : ℕ) (x : WorldEvent) (w : World) → Sized (length config.book) (cluster_of w) → Gated (length config.book) w → Gated (length config.book) (world_after_event config e x w)
unfolding world_after_event world_after_act
happens_gated grounds law config e (Happens a) w sized h = turned_gated grounds law config e (acting_node a) (node_event_of w.sent a) w sized h
happens_gated grounds law config e (Cut true a) w sized h =
    restart_gated (length config.book) (node_of a w) (with_told_of w (world_after_act config e a w))
    (unsent_gated (length config.book) w (world_after_act config e a w) (turned_gated grounds law config e (acting_node a) (node_event_of w.sent a) w sized h))
happens_gated grounds law config e (Cut false a) w sized h = restart_gated (length config.book) (node_of a w) w h
happens_gated grounds law config e (Restart i) w sized h = restart_gated (length config.book) (Some i) w h
happens_gated grounds law config e (Lost i) w sized h = loss_gated (length config.book) i w h
happens_gated grounds law config e (Anew i boot floors) w sized h = anew_gated law (length config.book) e i boot (floor_in floors) w h

pub run_gated : GroundLaw → GateLaw → (config : Config) (e : ℕ) (xs : List WorldEvent) (w : World) → Sized (length config.book) (cluster_of w) → Gated (length config.book) w → Gated (length config.book) (world_after_events config e xs w)
unfolding world_after_events
run_gated grounds law config e [] w sized h = h
run_gated grounds law config e (x ∷ xs) w sized h =
    run_gated grounds law config (suc e) xs (world_after_event config e x w) (next_sized grounds config e x w sized) (happens_gated grounds law config e x w sized h)

start_gated : GateLaw → (config : Config) (start : Start) → Gated (length config.book) (opening_world config start)
start_gated law config start = record {
  gates = λ i t lt. opening_gate (length config.book) (start.opening.floor i) t ∙ sym law.start;
  opened = λ i t. tt;
}

pub all_gated : GroundLaw → GateLaw → (config : Config) (start : Start) (events : List WorldEvent) → Gated (length config.book) (world_after_events config 0 events (opening_world config start))
all_gated grounds law config start events = run_gated grounds law config 0 events (opening_world config start) (start_sized config start) (start_gated law config start)

-- failures are far apart
pub spaced : GroundLaw → GateLaw → SpaceLaw → (config : Config) (start : Start) (events : List WorldEvent) (i t : ℕ) → SpacesFailures (results_of config start events i t)
spaced grounds law spaces config start events i t = spaces (results_of config start events i t) ((all_gated grounds law config start events).opened i t)
