-- The drift that each node keeps of a token is what the last acceptance of the token there keeps.
use Rattle.std.proofs.Common.{◌≡◌, ℕ, ℤ, pos, zero, suc, ◌+◌, ◌^◌, ◌<◌, ◌≤◌, ◌&&◌, inl, inr, ⊎_elim, Bool, List, [], ◌∷◌, ◌++◌, true, false, cond, length, take, Option, Some, None, refl, sym, ap, ◌∙◌, subst, arith, eqb, get_or, ltb}
use Rattle.std.specs.List.{slice_get}
use Rattle.std.proofs.lemmas.Bool.{cond-false, cond-true, cond_both, eqb-true, eqb-false, eq-eqb, ne_eqb}
use Rattle.std.proofs.lemmas.List.{append-nil}
use Rattle.floor_store.specs.Content.{Content}
use Rattle.floor_store.specs.Records.{ProposalRecord, PassRecord, RowRecord}
use Rattle.otp_core.specs.Acceptance.{Acceptance}
use Rattle.vote_core.specs.NodeSet.{PlaceRecord}
use Rattle.vote_core.specs.Rows.{no_row, row}
use Rattle.vote_core.specs.Schedule.{Envelope, Begun, began_in, last_boot, opening_rows}
use Rattle.vote_core.specs.Voting.{Ballot, Voted, propose, on_message, tick, pass_in}
use Rattle.vote_core.proofs.Basics.{Each, each_append, each_get_or, each_weaker}
use Rattle.client_lines.specs.Request.{without_lf}
use Rattle.oath_node.specs.Grounds.{HasGrounds}
use Rattle.oath_node.specs.Machine.{Config, NodeState, NodeEvent, Client, Peer, Tick, Made, Owner, Beginning, quiet_made, stopped_node, opened_node, restarted_node, gate_with_failure, made_by_vote, next_beginning, next_owner, made_by_proposal, made_by_ruling, made_by_datagram, is_heard, made_while_running, made_by_event, ruling_at, standing_at}
use Rattle.oath_node.specs.declared.ruling.Ruling.{Ruling}
use Rattle.oath_node.specs.declared.ruling.Ruling.TheVariants.{Outside, Again, Waiting, Denied, Wrong, Fitting}
use Rattle.cluster_sim.specs.Drifts.{drift_after, drift_before, drift_by, drift_kept, moment_in, passes_since}
use Rattle.cluster_sim.specs.World.{World, Note, Act, Says, Deliver, Ticks, Noise, WorldEvent, Happens, Cut, Restart, Lost, Anew, floor_in, has_store, lost_node, may_be_anew, note_anew, opening_node, with_state, world_after_anew, world_after_loss, acting_node, delivered_event, node_event_of, place_at, note_of, world_with_made, world_after_turn, world_after_act, node_of, world_after_restart, with_told_of, world_after_event, world_after_events, world_before, opening_world, begun_with, begun_in, acceptance_in, Start}
use Rattle.cluster_sim.proofs.Acts.{noise_cases}
use Rattle.cluster_sim.proofs.BelowLaws.{GroundLaw}
use Rattle.cluster_sim.proofs.Servers.{gated_drift}
use Rattle.cluster_sim.proofs.Reports.{IsActed, begun_elsewhere}
use Rattle.cluster_sim.proofs.Sound.{AllSound, happens_sound, start_sound}
use Rattle.cluster_sim.proofs.Tells.{BeganAt, begun_now, fresh_begun, named}
use Rattle.cluster_sim.proofs.VoteDrifts.{IsDriftStep, IsKept, Keeping, LeavesDrifts, message_drift, propose_drift, tick_drift}
use Rattle.cluster_sim.proofs.VoteSteps.{propose_seq}

-- ---- what a proposal keeps

-- the drift is that by the line with which it began
abbrev Keeps : Config → List WorldEvent → ℕ → ℕ → ℤ → Option Begun → Type 0
Keeps config events token hi drift None = ⊥
Keeps config events token hi drift (Some b) = drift ≡ drift_by config.limits (slice_get config.book token) (moment_in (slice_get events b.event)) hi

-- the proposal with a number below `n` is on record, and keeps the drift
abbrev KeptBelow : Config → List WorldEvent → (ProposalRecord → Option Begun) → ℕ → ℕ → ℕ → Keeping
KeptBelow config events begun i boot n seq token hi drift = (seq < n) × Keeps config events token hi drift (begun (named i boot seq))

keeps_at : (config : Config) (events : List WorldEvent) (token hi : ℕ) (drift : ℤ) (o : Option Begun) → Keeps config events token hi drift o
    → drift ≡ drift_by config.limits (slice_get config.book token) (moment_in (slice_get events (began_in o))) hi
keeps_at config events token hi drift None h = absurd h
keeps_at config events token hi drift (Some b) h = h

pending_later : (config : Config) (events : List WorldEvent) (begun begun' : ProposalRecord → Option Begun) (i boot n m : ℕ) (qs : List Ballot) → n ≤ m
    → ((s : ℕ) → s < n → begun' (named i boot s) ≡ begun (named i boot s)) → Each (IsKept (KeptBelow config events begun i boot n)) qs → Each (IsKept (KeptBelow config events begun' i boot m)) qs
pending_later config events begun begun' i boot n m qs le same h =
    each_weaker (IsKept (KeptBelow config events begun i boot n)) (IsKept (KeptBelow config events begun' i boot m))
    (λ q f. (let lt : q.seq < m = omega (arith, f.0, le) in lt, subst (λ b. Keeps config events q.token q.hi q.drift b) (sym (same q.seq f.0)) f.1)) qs h

-- ---- the drift after one acceptance more

drift_more : (config : Config) (events : List WorldEvent) (i t : ℕ) (d : ℤ) (ps : List Acceptance) (p : Acceptance)
    → drift_after config events i t d (ps ++ p ∷ []) ≡ cond (eqb p.node i && eqb p.token t) (drift_kept config events p) (drift_after config events i t d ps)
drift_more config events i t d [] p = refl
drift_more config events i t d (q ∷ ps) p = drift_more config events i t (cond (eqb q.node i && eqb q.token t) (drift_kept config events q) d) ps p

-- no acceptance, or one that the node wrote in this event
pass_drifts : (config : Config) (events : List WorldEvent) (begun : ProposalRecord → Option Begun) (e i n : ℕ) (c d : Content) (ps : List Acceptance) (t : ℕ) → t < length c.rows
    → (row c t).drift ≡ drift_after config events i t (pos 0) ps → (o : Option PassRecord) → LeavesDrifts (KeptBelow config events begun i c.boot n) c d o
    → (row d t).drift ≡ drift_after config events i t (pos 0) (ps ++ acceptance_in begun e i o)
pass_drifts config events begun e i n c d ps t lt old None h = h t ∙ old ∙ ap (λ l. drift_after config events i t (pos 0) l) (sym (append-nil ps))
pass_drifts config events begun e i n c d ps t lt old (Some p) h =
    let a : Acceptance = record { began = began_in (begun (named i p.boot p.seq)); ended = e; node = i; token = p.token; lo = p.lo; hi = p.hi } in
    let kept : h.drift ≡ drift_kept config events a =
    subst (λ b. h.drift ≡ drift_by config.limits (slice_get config.book p.token) (moment_in (slice_get events (began_in (begun (named i b p.seq))))) p.hi) (sym h.boot)
    (keeps_at config events p.token p.hi h.drift (begun (named i c.boot p.seq)) h.keeps.1) in
    h.rows t lt
    ∙ ap (λ z. cond (eqb p.token t) z (row c t).drift) kept
    ∙ ap (λ z. cond (eqb p.token t) (drift_kept config events a) z) old
    ∙ ap (λ b. cond (b && eqb p.token t) (drift_kept config events a) (drift_after config events i t (pos 0) ps)) (sym (eq-eqb i i refl))
    ∙ sym (drift_more config events i t (pos 0) ps a)

-- ---- a node

pub record Drifted (config : Config) (events : List WorldEvent) (h : List Note) (i : ℕ) (x : NodeState) : Type 0 where
  pub pending : Each (IsKept (KeptBelow config events (begun_in h) i x.content.boot x.voter.seq)) x.voter.pending
  pub drifts : (t : ℕ) → t < length config.book → (row x.content t).drift ≡ drift_after config events i t (pos 0) (passes_since i h)

-- what an event makes of the node
record MadeDrifted (config : Config) (events : List WorldEvent) (h : List Note) (e i : ℕ) (o : Made) : Type 0 where
  began : BeganAt i o.began
  state : Drifted config events (note_of e i o ∷ h) i o.state

-- nothing begun or accepted
quiet_drifted : (config : Config) (events : List WorldEvent) (h : List Note) (e i : ℕ) (x : NodeState) (o : Made) → o.began ≡ None → o.pass ≡ None → o.state.voter ≡ x.voter → o.state.content.boot ≡ x.content.boot
    → ((t : ℕ) → (row o.state.content t).drift ≡ (row x.content t).drift) → Drifted config events h i x → MadeDrifted config events h e i o
quiet_drifted config events h e i x o none no_pass voter boot rows k = record {
  began = subst (BeganAt i) (sym none) tt;
  state = record {
    pending = subst (λ v. Each (IsKept (KeptBelow config events (begun_with e o.began (begun_in h)) i o.state.content.boot v.seq)) v.pending) (sym voter)
        (subst (λ b. Each (IsKept (KeptBelow config events (begun_with e o.began (begun_in h)) i b x.voter.seq)) x.voter.pending) (sym boot)
        (subst (λ b. Each (IsKept (KeptBelow config events (begun_with e b (begun_in h)) i x.content.boot x.voter.seq)) x.voter.pending) (sym none) k.pending));
    drifts = λ t lt.
        rows t ∙ k.drifts t lt ∙ ap (λ l. drift_after config events i t (pos 0) l) (sym (append-nil (passes_since i h)))
        ∙ ap (λ p. drift_after config events i t (pos 0) (passes_since i h ++ acceptance_in (begun_in (note_of e i o ∷ h)) e i p)) (sym no_pass);
  };
}

voted_drifted : (config : Config) (events : List WorldEvent) (h : List Note) (e i n : ℕ) (x : NodeState) (owners : List Owner) (began : Option Beginning) (s : Voted) → length x.content.rows ≡ length config.book
    → BeganAt i began → n ≤ s.voter.seq → Drifted config events h i x
    → IsDriftStep (KeptBelow config events (begun_with e began (begun_in h)) i x.content.boot n) x.content x.voter s → MadeDrifted config events h e i (made_by_vote owners began s x)
voted_drifted config events h e i n x owners began s sized at le k step =
    let begun = begun_with e began (begun_in h) in
    record {
      began = at;
      state = record {
        pending = subst (λ b. Each (IsKept (KeptBelow config events begun i b s.voter.seq)) s.voter.pending) (sym step.boot)
            (pending_later config events begun begun i x.content.boot n s.voter.seq s.voter.pending le (λ _ _. refl) step.pending);
        drifts = λ t lt. pass_drifts config events begun e i n x.content s.content (passes_since i h) t (subst (λ m. t < m) (sym sized) lt) (k.drifts t lt) (pass_in s.decisions) step.drifts;
      };
    }

proposal_drifted : (config : Config) (events : List WorldEvent) (h : List Note) (e : ℕ) (place : PlaceRecord) (x : NodeState) (client : ℕ) (line nonce : List ℕ) (token lo hi : ℕ) (drift : ℤ)
    → length x.content.rows ≡ length config.book → drift ≡ drift_by config.limits (slice_get config.book token) (moment_in (slice_get events e)) hi
    → Drifted config events h place.me x → MadeDrifted config events h e place.me (made_by_proposal place client line nonce token lo hi drift x)
unfolding made_by_proposal
proposal_drifted config events h e place x client line nonce token lo hi drift sized given k =
    let i = place.me in
    let owners = x.owners ++ next_owner client line nonce x ∷ [] in
    let began : Option Beginning = Some (next_beginning place token lo hi x) in
    let b : Begun = record { token = token; lo = lo; hi = hi; event = e } in
    let begun = begun_with e began (begun_in h) in
    let s = propose place token lo hi drift x.content x.voter in
    let next = propose_seq place token lo hi drift x.content x.voter in
    let below : x.voter.seq < s.voter.seq = omega (arith, next) in
    let old = pending_later config events (begun_in h) begun i x.content.boot x.voter.seq s.voter.seq x.voter.pending (omega (arith, next))
    (λ t lt. fresh_begun e i x.content.boot x.voter.seq b (begun_in h) t lt) k.pending in
    let new : Keeps config events token hi drift (begun (named i x.content.boot x.voter.seq)) =
    subst (λ z. Keeps config events token hi drift z) (sym (begun_now i x.content.boot x.voter.seq b (begun_in h))) given in
    cond_both (ltb x.voter.seq (2 ^ 62)) (made_by_vote owners began s x) (quiet_made (stopped_node x)) (λ o. MadeDrifted config events h e i o)
    (λ _. voted_drifted config events h e i s.voter.seq x owners began s sized refl (omega arith) k
    (propose_drift (KeptBelow config events begun i x.content.boot s.voter.seq) place token lo hi drift x.content x.voter old (below, new)))
    (λ _. quiet_drifted config events h e i x (quiet_made (stopped_node x)) refl refl refl refl (λ _. refl) k)

ruling_drifted : (config : Config) (events : List WorldEvent) (h : List Note) (e : ℕ) (place : PlaceRecord) (x : NodeState) (client moment : ℕ) (text line : List ℕ) → length x.content.rows ≡ length config.book
    → moment_in (slice_get events e) ≡ Some moment → Drifted config events h place.me x → (r : Ruling) → HasGrounds config.book config.limits (standing_at x client moment line) moment text r
    → MadeDrifted config events h e place.me (made_by_ruling place client moment line r x)
unfolding made_by_ruling
ruling_drifted config events h e place x client moment text line sized comes k Outside g = quiet_drifted config events h e place.me x _ refl refl refl refl (λ _. refl) k
ruling_drifted config events h e place x client moment text line sized comes k (Again kept) g = quiet_drifted config events h e place.me x _ refl refl refl refl (λ _. refl) k
ruling_drifted config events h e place x client moment text line sized comes k Waiting g = quiet_drifted config events h e place.me x _ refl refl refl refl (λ _. refl) k
ruling_drifted config events h e place x client moment text line sized comes k (Denied nonce reason) g = quiet_drifted config events h e place.me x _ refl refl refl refl (λ _. refl) k
ruling_drifted config events h e place x client moment text line sized comes k (Wrong nonce reason token) g =
    quiet_drifted config events h e place.me x _ refl refl refl refl (gated_drift x.content token (gate_with_failure x.content token moment)) k
ruling_drifted config events h e place x client moment text line sized comes k (Fitting nonce token span drift) g =
    let given : drift ≡ drift_by config.limits (slice_get config.book token) (moment_in (slice_get events e)) span.hi =
    g.kept ∙ ap (λ m. drift_by config.limits (Some g.credential) m span.hi) (sym comes) ∙ ap (λ o. drift_by config.limits o (moment_in (slice_get events e)) span.hi) (sym g.is_token) in
    proposal_drifted config events h e place x client line nonce token span.lo span.hi drift sized given k

-- the event is a line at this moment, or a stop inside that
abbrev ComesAt : List WorldEvent → ℕ → NodeEvent → Type 0
ComesAt events e (Client client moment text) = moment_in (slice_get events e) ≡ Some moment
ComesAt events e (Peer from read) = Unit {0}
ComesAt events e Tick = Unit {0}

event_drifted : GroundLaw → (config : Config) (events : List WorldEvent) (h : List Note) (e : ℕ) (place : PlaceRecord) (x : NodeState) (v : NodeEvent) → length x.content.rows ≡ length config.book
    → ComesAt events e v → Drifted config events h place.me x → MadeDrifted config events h e place.me (made_while_running config place v x)
unfolding made_while_running made_by_datagram
event_drifted law config events h e place x (Client client moment text) sized comes k =
    ruling_drifted config events h e place x client moment text (without_lf text) sized comes k (ruling_at config x client moment text) (law config.book config.limits (standing_at x client moment (without_lf text)) moment text)
event_drifted law config events h e place x (Peer from None) sized comes k = quiet_drifted config events h e place.me x (quiet_made x) refl refl refl refl (λ _. refl) k
event_drifted law config events h e place x (Peer from (Some l)) sized comes k =
    let s = on_message place from l.message x.content x.voter in
    let step = message_drift (KeptBelow config events (begun_in h) place.me x.content.boot x.voter.seq) place from l.message x.content x.voter k.pending in
    cond_both (is_heard config place from l) (made_by_vote x.owners None s x) (quiet_made x) (λ o. MadeDrifted config events h e place.me o)
    (λ _. voted_drifted config events h e place.me x.voter.seq x x.owners None s sized tt step.seq k step) (λ _. quiet_drifted config events h e place.me x (quiet_made x) refl refl refl refl (λ _. refl) k)
event_drifted law config events h e place x Tick sized comes k =
    let s = tick place x.content x.voter in
    let step = tick_drift (KeptBelow config events (begun_in h) place.me x.content.boot x.voter.seq) place x.content x.voter k.pending in
    voted_drifted config events h e place.me x.voter.seq x x.owners None s sized tt step.seq k step

-- ---- the world

abbrev pub AllDrifted : Config → List WorldEvent → World → Type 0
AllDrifted config events w = (i : ℕ) → Drifted config events w.history i (w.nodes i)

-- an acceptance of another node
others_drift : (config : Config) (events : List WorldEvent) (begun : ProposalRecord → Option Begun) (e i j t : ℕ) (ps : List Acceptance) → (j ≡ i → ⊥) → (o : Option PassRecord)
    → drift_after config events j t (pos 0) (ps ++ acceptance_in begun e i o) ≡ drift_after config events j t (pos 0) ps
others_drift config events begun e i j t ps ne None = ap (λ l. drift_after config events j t (pos 0) l) (append-nil ps)
others_drift config events begun e i j t ps ne (Some p) =
    let a : Acceptance = record { began = began_in (begun (named i p.boot p.seq)); ended = e; node = i; token = p.token; lo = p.lo; hi = p.hi } in
    let old = drift_after config events j t (pos 0) ps in
    drift_more config events j t (pos 0) ps a ∙ ap (λ b. cond (b && eqb p.token t) (drift_kept config events a) old) (ne_eqb i j (λ q. ne (sym q)))

-- a node at which nothing happens
elsewhere : (config : Config) (events : List WorldEvent) (h : List Note) (e i : ℕ) (o : Made) → BeganAt i o.began → (j : ℕ) (y : NodeState) → (j ≡ i → ⊥) → Drifted config events h j y → Drifted config events (note_of e i o ∷ h) j y
elsewhere config events h e i o at j y ne k =
    let begun = begun_with e o.began (begun_in h) in
    record {
      pending = pending_later config events (begun_in h) begun j y.content.boot y.voter.seq y.voter.seq y.voter.pending (omega arith) (λ s lt. begun_elsewhere e i o.began (begun_in h) at j y.content.boot s ne) k.pending;
      drifts = λ t lt. k.drifts t lt ∙ sym (others_drift config events begun e i j t (passes_since j h) ne o.pass);
    }

made_drifted : (config : Config) (events : List WorldEvent) (e i : ℕ) (o : Made) (w : World) → AllDrifted config events w → MadeDrifted config events w.history e i o → AllDrifted config events (world_with_made e i o w)
unfolding world_with_made
made_drifted config events e i o w h made = λ j.
    cond_both (eqb j i) o.state (w.nodes j) (λ x. Drifted config events (note_of e i o ∷ w.history) j x)
    (λ q. subst (λ m. Drifted config events (note_of e i o ∷ w.history) m o.state) (sym (eqb-true j i q)) made.state)
    (λ q. elsewhere config events w.history e i o made.began j (w.nodes j) (eqb-false j i q) (h j))

-- what the event must be for the node's event to come with it
abbrev ComesWith : List WorldEvent → ℕ → Option NodeEvent → Type 0
ComesWith events e None = Unit {0}
ComesWith events e (Some v) = ComesAt events e v

turned_drifted : GroundLaw → (config : Config) (events : List WorldEvent) (e i : ℕ) (o : Option NodeEvent) (w : World) → AllSound (length config.book) w → AllDrifted config events w → ComesWith events e o
    → AllDrifted config events (world_after_turn config e i o w)
unfolding world_after_turn made_by_event
turned_drifted law config events e i None w sound h comes = h
turned_drifted law config events e i (Some v) w sound h comes =
    let place = place_at w i in
    let x = w.nodes i in
    cond_both (has_store w i) (world_with_made e i (made_by_event config place v x) w) w (λ z. AllDrifted config events z)
    (λ _. made_drifted config events e i (made_by_event config place v x) w h
    (cond_both x.running (made_while_running config place v x) (quiet_made x) (λ m. MadeDrifted config events w.history e i m)
    (λ _. event_drifted law config events w.history e place x v (sound i).kept.size comes (h i))
    (λ _. quiet_drifted config events w.history e i x (quiet_made x) refl refl refl refl (λ _. refl) (h i))))
    (λ _. h)

comes_handed : (events : List WorldEvent) (e : ℕ) (o : Option Envelope) → ComesWith events e (delivered_event o)
comes_handed events e None = tt
comes_handed events e (Some l) = tt

comes_with : (events : List WorldEvent) (e : ℕ) (sent : List Envelope) (a : Act) → IsActed events e a → ComesWith events e (node_event_of sent a)
comes_with events e sent (Says i client moment text) done =
    ⊎_elim (λ (at : slice_get events e ≡ Some (Happens (Says i client moment text))). ap moment_in at) (λ (at : slice_get events e ≡ Some (Cut true (Says i client moment text))). ap moment_in at) done
comes_with events e sent (Deliver i k) done = comes_handed events e (slice_get sent k)
comes_with events e sent (Ticks i) done = tt
comes_with events e sent (Noise i from read) done = noise_cases (ComesWith events e) from read tt tt (λ _ _. tt)

acted_drifted : GroundLaw → (config : Config) (events : List WorldEvent) (e : ℕ) (a : Act) (w : World) → AllSound (length config.book) w → AllDrifted config events w → IsActed events e a
    → AllDrifted config events (world_after_act config e a w)
unfolding world_after_act
acted_drifted law config events e a w sound h is = turned_drifted law config events e (acting_node a) (node_event_of w.sent a) w sound h (comes_with events e w.sent a is)

restarted_drifted : (config : Config) (events : List WorldEvent) (h : List Note) (i : ℕ) (x : NodeState) → Drifted config events h i x → Drifted config events h i (restarted_node x)
restarted_drifted config events h i x k =
    cond_both (ltb x.content.boot last_boot) (opened_node x.content) (stopped_node x) (λ y. Drifted config events h i y) (λ _. record { pending = tt; drifts = k.drifts }) (λ _. record { pending = k.pending; drifts = k.drifts })

restart_drifted : (config : Config) (events : List WorldEvent) (o : Option ℕ) (w : World) → AllDrifted config events w → AllDrifted config events (world_after_restart o w)
unfolding world_after_restart
restart_drifted config events None w h = h
restart_drifted config events (Some i) w h =
    cond_both {A = World} (has_store w i) _ w (λ z. AllDrifted config events z)
    (λ _ j. cond_both (eqb j i) (restarted_node (w.nodes i)) (w.nodes j) (λ y. Drifted config events w.history j y)
    (λ q. subst (λ m. Drifted config events w.history m (restarted_node (w.nodes i))) (sym (eqb-true j i q)) (restarted_drifted config events w.history i (w.nodes i) (h i))) (λ _. h j))
    (λ _. h)

loss_drifted : (config : Config) (events : List WorldEvent) (i : ℕ) (w : World) → AllDrifted config events w → AllDrifted config events (world_after_loss i w)
unfolding world_after_loss
loss_drifted config events i w h =
    cond_both {A = World} (has_store w i) _ w (λ z. AllDrifted config events z)
    (λ _ j. cond_both (eqb j i) (lost_node (w.nodes i)) (w.nodes j) (λ y. Drifted config events w.history j y)
    (λ q. subst (λ m. Drifted config events w.history m (lost_node (w.nodes i))) (sym (eqb-true j i q)) (record { pending = tt; drifts = (h i).drifts })) (λ _. h j))
    (λ _. h)

opening_drifts : (k : ℕ) (floor : ℕ → ℕ) → Each (λ (r : RowRecord). r.drift ≡ pos 0) (opening_rows k floor)
opening_drifts zero floor = tt
opening_drifts (suc k) floor = each_append (λ (r : RowRecord). r.drift ≡ pos 0) (opening_rows k floor) _ (opening_drifts k floor) (refl, tt)

opening_drift : (k : ℕ) (floor : ℕ → ℕ) (t : ℕ) → (get_or (opening_rows k floor) t no_row).drift ≡ pos 0
opening_drift k floor t = each_get_or (λ (r : RowRecord). r.drift ≡ pos 0) (opening_rows k floor) t no_row (opening_drifts k floor) refl

-- after the note on a replacement store, which has no drift
noted_anew : (config : Config) (events : List WorldEvent) (h : List Note) (e i boot k : ℕ) (floor : ℕ → ℕ) (j : ℕ) (x : NodeState) → (eqb i j ≡ false → Drifted config events h j x) → (eqb i j ≡ true → x ≡ opening_node boot k floor)
    → Drifted config events (note_anew e i ∷ h) j x
noted_anew config events h e i boot k floor j x other own = record {
  pending = cond_both {A = Bool} (eqb i j) true false (λ _. Each (IsKept (KeptBelow config events (begun_in h) j x.content.boot x.voter.seq)) x.voter.pending)
      (λ q. subst (λ (y : NodeState). Each (IsKept (KeptBelow config events (begun_in h) j y.content.boot y.voter.seq)) y.voter.pending) (sym (own q)) tt) (λ q. (other q).pending);
  drifts = λ t lt. cond_both (eqb i j) [] (passes_since j h ++ []) (λ l. (row x.content t).drift ≡ drift_after config events j t (pos 0) l)
      (λ q. subst (λ (y : NodeState). (row y.content t).drift ≡ pos 0) (sym (own q)) (opening_drift k floor t))
      (λ q. (other q).drifts t lt ∙ ap (λ l. drift_after config events j t (pos 0) l) (sym (append-nil (passes_since j h))));
}

anew_drifted : (config : Config) (events : List WorldEvent) (e i boot : ℕ) (floor : ℕ → ℕ) (w : World) → AllDrifted config events w → AllDrifted config events (world_after_anew e i boot floor w)
unfolding world_after_anew
anew_drifted config events e i boot floor w h =
    let k = length (w.nodes i).content.rows in
    let new = opening_node boot k floor in
    cond_both {A = World} (may_be_anew w i boot floor) _ w (λ z. AllDrifted config events z)
    (λ _ j. noted_anew config events w.history e i boot k floor j (with_state i new w.nodes j)
    (λ q. subst (Drifted config events w.history j) (sym (cond-false (eqb j i) new (w.nodes j) (ne_eqb j i (λ same. eqb-false i j q (sym same))))) (h j))
    (λ q. cond-true (eqb j i) new (w.nodes j) (eq-eqb j i (sym (eqb-true i j q)))))
    (λ _. h)

pub happens_drifted : GroundLaw → (config : Config) (events : List WorldEvent) (e : ℕ) (x : WorldEvent) (w : World) → slice_get events e ≡ Some x → AllSound (length config.book) w → AllDrifted config events w
    → AllDrifted config events (world_after_event config e x w)
unfolding world_after_event
happens_drifted law config events e (Happens a) w at sound h = acted_drifted law config events e a w sound h (inl at)
happens_drifted law config events e (Cut true a) w at sound h =
    restart_drifted config events (node_of a w) (with_told_of w (world_after_act config e a w)) (acted_drifted law config events e a w sound h (inr at))
happens_drifted law config events e (Cut false a) w at sound h = restart_drifted config events (node_of a w) w h
happens_drifted law config events e (Restart i) w at sound h = restart_drifted config events (Some i) w h
happens_drifted law config events e (Lost i) w at sound h = loss_drifted config events i w h
happens_drifted law config events e (Anew i boot floors) w at sound h = anew_drifted config events e i boot (floor_in floors) w h

-- the first events from number e on
abbrev Goes : List WorldEvent → ℕ → List WorldEvent → Type 0
Goes events e xs = (k m : ℕ) → k < length xs → m ≡ e + k → slice_get xs k ≡ slice_get events m

run_drifted : GroundLaw → (config : Config) (events xs : List WorldEvent) (e : ℕ) (w : World) → Goes events e xs → AllSound (length config.book) w → AllDrifted config events w
    → AllDrifted config events (world_after_events config e xs w)
unfolding world_after_events
run_drifted law config events [] e w goes sound h = h
run_drifted law config events (x ∷ xs) e w goes sound h =
    let here : slice_get events e ≡ Some x = sym (goes zero e (omega arith) (omega arith)) in
    run_drifted law config events xs (suc e) (world_after_event config e x w) (λ k m lt at. goes (suc k) m (omega (arith, lt)) (omega (arith, at)))
    (happens_sound config (length config.book) e x w sound) (happens_drifted law config events e x w here sound h)

-- ---- the start

pub start_drifted : (config : Config) (start : Start) (events : List WorldEvent) → AllDrifted config events (opening_world config start)
start_drifted config start events i = record {
  pending = tt;
  drifts = λ t lt. opening_drift (length config.book) (start.opening.floor i) t;
}

taken : (events : List WorldEvent) (n k : ℕ) → k < length (take n events) → slice_get (take n events) k ≡ slice_get events k
taken [] zero k lt = refl
taken [] (suc n) k lt = refl
taken (x ∷ events) zero k lt = absurd (omega (arith, lt))
taken (x ∷ events) (suc n) zero lt = refl
taken (x ∷ events) (suc n) (suc k) lt = taken events n k (omega (arith, lt))

-- the drifts of the nodes before an event are those by the acceptances before it
pub drifts_before : GroundLaw → (config : Config) (start : Start) (events : List WorldEvent) (n i t : ℕ) → t < length config.book
    → (row ((world_before config start events n).nodes i).content t).drift ≡ drift_before config start events i t n
drifts_before law config start events n i t lt =
    (run_drifted law config events (take n events) 0 (opening_world config start) (λ k m below at. taken events n k below ∙ ap (λ j. slice_get events j) (same k m at))
    (start_sound config start) (start_drifted config start events) i).drifts t lt
  where
    same : (k m : ℕ) → m ≡ 0 + k → k ≡ m
    same k m at = omega (arith, at)
