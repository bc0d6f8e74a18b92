-- What every event keeps at each node: a row for each token, each stored grant below its row's next, the token whose
-- Floor is next a token of the book, and of each owner its proposal pending.
use Rattle.std.proofs.Common.{◌≡◌, ℕ, ℤ, zero, suc, ◌+◌, ◌^◌, ◌<◌, ◌⊎◌, inl, inr, true, false, cond, List, [], ◌∷◌, ◌++◌, length, set, Option, Some, None, refl, ◌∙◌, subst, arith, eqb, leb, ltb}
use Rattle.std.proofs.lemmas.Bool.{cond_both, ltb-true, false≢true}
use Rattle.std.proofs.lemmas.List.{length-set}
use Rattle.otp_core.specs.Gate.{GateRecord}
use Rattle.cluster_sim.specs.World.{Anew, Cut, Happens, Lost, Restart, World, WorldEvent, acting_node, floor_in, has_store, lost_node, may_be_anew, opening_node, node_event_of, node_of, opening_world, place_at, with_state, with_told_of, world_after_act, world_after_anew, world_after_event, world_after_loss, world_after_events, world_after_restart, world_after_turn, world_with_made, Start}
use Rattle.floor_store.specs.Content.{Content, accepted_row, with_row}
use Rattle.floor_store.specs.Records.{ProposalRecord, RowRecord, span_of, SpanRecord}
use Rattle.oath_node.specs.Machine.{Beginning, Client, Config, Made, NodeEvent, NodeState, Owner, Peer, Tick, is_heard, is_pending, made_by_datagram, made_by_event, made_by_proposal, made_by_ruling, made_by_vote, made_while_running, next_beginning, quiet_made, restarted_node, ruling_at, stopped_node}
use Rattle.oath_node.specs.declared.ruling.Ruling.{Ruling}
use Rattle.oath_node.specs.declared.ruling.Ruling.TheVariants.{Again, Denied, Fitting, Outside, Waiting, Wrong}
use Rattle.otp_core.specs.Acceptance.{majority_of, size}
use Rattle.vote_core.proofs.Basics.{Each, each_append, each_get_or, each_passes, opening_size}
use Rattle.vote_core.specs.NodeSet.{PlaceRecord, with_node}
use Rattle.vote_core.specs.Rows.{granted_row, no_row, row, row_with_gate, row_with_next}
use Rattle.vote_core.specs.Schedule.{last_boot, opening_rows}
use Rattle.vote_core.specs.Voting.{Ballot, Voted, VoterState, accept, count_deny, count_grant, denied_one, granted_one, is_grant, of_this_boot, on_ask, on_deny, on_floor, on_grant, on_message, proposal_of, propose, propose_alone, propose_among, quiet_step, raise, replace, reply_step, tick, turn_after, with_granting, with_pending}
use Rattle.vote_core.specs.declared.message.Message.{Message}
use Rattle.vote_core.specs.declared.message.Message.TheVariants.{Ask, Deny, Floor, Grant}
use Rattle.client_lines.specs.Request.{without_lf}

abbrev pub IsUnder : ℕ → Option (ProposalRecord × SpanRecord) → Type 0
IsUnder next None = Unit {0}
IsUnder next (Some g) = g.1.hi < next

abbrev pub Lies : RowRecord → Type 0
Lies r = IsUnder r.next r.grant

abbrev pub IsTurn : ℕ → ℕ → Type 0
IsTurn tokens turn = (turn < tokens) ⊎ (turn ≡ 0)

pub record KeptRows (tokens : ℕ) (rows : List RowRecord) (due : ℕ) : Type 0 where
  pub size : length rows ≡ tokens
  pub lies : Each Lies rows
  pub turn : IsTurn tokens due

abbrev pub Kept : ℕ → Content → VoterState → Type 0
Kept tokens c v = KeptRows tokens c.rows v.turn

pub lies_row : (c : Content) (t : ℕ) → Each Lies c.rows → Lies (row c t)
lies_row c t h = each_get_or Lies c.rows t no_row h tt

set_each : {A : Type 0} (P : A → Type 0) (xs : List A) (t : ℕ) (a : A) → Each P xs → P a → Each P (set xs t a)
set_each P [] t a h k = h
set_each P (x ∷ xs) zero a h k = (k, h.1)
set_each P (x ∷ xs) (suc t) a h k = (h.0, set_each P xs t a h.1 k)

put_kept : (tokens : ℕ) (c : Content) (turn t : ℕ) (r : RowRecord) → KeptRows tokens c.rows turn → Lies r → KeptRows tokens (set c.rows t r) turn
put_kept tokens c turn t r h k = record { size = length-set c.rows t r ∙ h.size; lies = set_each Lies c.rows t r h.lies k; turn = h.turn }

-- the gate alone, an acceptance, or another grant
pub gate_kept : (tokens : ℕ) (c : Content) (turn t : ℕ) (gate : GateRecord) → KeptRows tokens c.rows turn → KeptRows tokens (set c.rows t (row_with_gate gate (row c t))) turn
gate_kept tokens c turn t gate h = put_kept tokens c turn t _ h (lies_row c t h.lies)

accepted_kept : (tokens : ℕ) (c : Content) (turn t : ℕ) (drift : ℤ) → KeptRows tokens c.rows turn → KeptRows tokens (set c.rows t (accepted_row drift (row c t))) turn
accepted_kept tokens c turn t drift h = put_kept tokens c turn t _ h (lies_row c t h.lies)

grant_kept : (tokens : ℕ) (c : Content) (turn t lo hi : ℕ) (old : RowRecord) (q : ProposalRecord) → KeptRows tokens c.rows turn → KeptRows tokens (set c.rows t (granted_row q lo hi old)) turn
grant_kept tokens c turn t lo hi old q h = put_kept tokens c turn t (granted_row q lo hi old) h (omega arith)

abbrev StepKept : ℕ → Content → VoterState → Voted → Type 0
StepKept tokens c v s = Kept tokens c v → Kept tokens s.content s.voter

ask_kept : (tokens from : ℕ) (p : ProposalRecord) (t lo hi : ℕ) (c : Content) (v : VoterState) → StepKept tokens c v (on_ask from p t lo hi c v)
unfolding on_ask
ask_kept tokens from p t lo hi c v h =
    let grants = reply_step from (Grant p t (span_of lo hi)) (with_row c t (granted_row p lo hi (row c t)) None) v in
    let denies = reply_step from (Deny p t (row c t).next) c v in
    cond_both (is_grant p lo hi (row c t).grant) (reply_step from (Grant p t (span_of lo hi)) c v) (cond (leb (row c t).next lo) grants denies) (λ (s : Voted). Kept tokens s.content s.voter)
    (λ _. h)
    (λ _. cond_both (leb (row c t).next lo) grants denies (λ (s : Voted). Kept tokens s.content s.voter) (λ _. grant_kept tokens c v.turn t lo hi (row c t) p h) (λ _. h))

count_kept : (tokens : ℕ) (place : PlaceRecord) (from : ℕ) (c : Content) (v : VoterState) (o : Option Ballot) → StepKept tokens c v (count_grant place from c v o)
unfolding count_grant accept
count_kept tokens place from c v None h = h
count_kept tokens place from c v (Some q) h =
    cond_both (leb (majority_of place.n) (size place.n (with_node from q.granting))) (accept (with_granting from q) c v) (quiet_step c (with_pending (replace (with_granting from q) v.pending) v)) (λ (s : Voted). Kept tokens s.content s.voter)
    (λ _. accepted_kept tokens c v.turn q.token q.drift h) (λ _. h)

under_more : (old next : ℕ) (o : Option (ProposalRecord × SpanRecord)) → old < next → IsUnder old o → IsUnder next o
under_more old next None lt h = tt
under_more old next (Some g) lt h = omega (arith, lt, h)

pub raise_kept : (tokens t next : ℕ) (c : Content) (v : VoterState) → Kept tokens c v → Kept tokens (raise t next c) v
unfolding raise
raise_kept tokens t next c v h =
    cond_both (ltb (row c t).next next) (with_row c t (row_with_next next (row c t)) None) c (λ (d : Content). Kept tokens d v)
    (λ q. put_kept tokens c v.turn t (row_with_next next (row c t)) h (under_more (row c t).next next (row c t).grant (ltb-true (row c t).next next q) (lies_row c t h.lies))) (λ _. h)

discount_kept : (tokens : ℕ) (place : PlaceRecord) (from : ℕ) (c : Content) (v : VoterState) (o : Option Ballot) → StepKept tokens c v (count_deny place from c v o)
unfolding count_deny
discount_kept tokens place from c v None h = h
discount_kept tokens place from c v (Some q) h =
    cond_both _ _ _ (λ (s : Voted). Kept tokens s.content s.voter)
    (λ _. h) (λ _. h)

message_kept : (tokens : ℕ) (place : PlaceRecord) (from : ℕ) (m : Message) (c : Content) (v : VoterState) → StepKept tokens c v (on_message place from m c v)
unfolding on_message on_floor on_grant on_deny
message_kept tokens place from (Ask p t span) c v h = ask_kept tokens from p t span.lo span.hi c v h
message_kept tokens place from (Grant p t span) c v h = count_kept tokens place from c v (granted_one from t span.lo span.hi (of_this_boot c p v)) h
message_kept tokens place from (Deny p t next) c v h = discount_kept tokens place from (raise t next c) v (denied_one from t (of_this_boot c p v)) (raise_kept tokens t next c v h)
message_kept tokens place from (Floor t next) c v h = raise_kept tokens t next c v h

propose_kept : (tokens : ℕ) (place : PlaceRecord) (t lo hi : ℕ) (drift : ℤ) (c : Content) (v : VoterState) → StepKept tokens c v (propose place t lo hi drift c v)
unfolding propose propose_alone propose_among
propose_kept tokens place t lo hi drift c v h =
    cond_both (eqb place.n 1) (propose_alone place t lo hi drift c v) (propose_among place t lo hi drift c v) (λ (s : Voted). Kept tokens s.content s.voter)
    (λ _. put_kept tokens c v.turn t (accepted_row drift (granted_row (proposal_of place c v) lo hi (row c t))) h (omega arith)) (λ _. grant_kept tokens c v.turn t lo hi (row c t) (proposal_of place c v) h)

turn_is : (n t : ℕ) → IsTurn n (cond (ltb (t + 1) n) (t + 1) 0)
turn_is n t = cond_both (ltb (t + 1) n) (t + 1) 0 (λ m. IsTurn n m) (λ q. inl (ltb-true (t + 1) n q)) (λ _. inr refl)

tick_kept : (tokens : ℕ) (place : PlaceRecord) (c : Content) (v : VoterState) → StepKept tokens c v (tick place c v)
unfolding tick
tick_kept tokens place c v h = record { size = h.size; lies = h.lies; turn = subst (λ n. IsTurn n (turn_after c v.turn)) h.size (turn_is (length c.rows) v.turn) }

-- ---- nodes

pub record Sound (tokens : ℕ) (x : NodeState) : Type 0 where
  pub kept : Kept tokens x.content x.voter
  pub owned : Each (λ (o : Owner). is_pending x.voter.pending o.seq ≡ true) x.owners

voted_sound : (tokens : ℕ) (x : NodeState) (owners : List Owner) (began : Option Beginning) (s : Voted) → Sound tokens x → StepKept tokens x.content x.voter s → Sound tokens (made_by_vote owners began s x).state
voted_sound tokens x owners began s h k = record { kept = k h.kept; owned = each_passes (λ (o : Owner). is_pending s.voter.pending o.seq) owners }

ruled_sound : (tokens : ℕ) (place : PlaceRecord) (x : NodeState) (client moment : ℕ) (line : List ℕ) → Sound tokens x → (v : Ruling) → Sound tokens (made_by_ruling place client moment line v x).state
unfolding made_by_ruling made_by_proposal
ruled_sound tokens place x client moment line h Outside = h
ruled_sound tokens place x client moment line h (Again answer) = h
ruled_sound tokens place x client moment line h Waiting = h
ruled_sound tokens place x client moment line h (Denied nonce reason) = record { kept = h.kept; owned = h.owned }
ruled_sound tokens place x client moment line h (Wrong nonce reason token) = record { kept = gate_kept tokens x.content x.voter.turn token _ h.kept; owned = h.owned }
ruled_sound tokens place x client moment line h (Fitting nonce t span drift) =
    let s = propose place t span.lo span.hi drift x.content x.voter in
    let owners = x.owners ++ record { seq = x.voter.seq; client = client; line = line; nonce = nonce } ∷ [] in
    cond_both (ltb x.voter.seq (2 ^ 62)) (made_by_vote owners (Some (next_beginning place t span.lo span.hi x)) s x) (quiet_made (stopped_node x)) (λ (o : Made). Sound tokens o.state)
    (λ _. voted_sound tokens x owners (Some (next_beginning place t span.lo span.hi x)) s h (propose_kept tokens place t span.lo span.hi drift x.content x.voter)) (λ _. record { kept = h.kept; owned = h.owned })

event_sound : (config : Config) (tokens : ℕ) (place : PlaceRecord) (x : NodeState) → Sound tokens x → (v : NodeEvent) → Sound tokens (made_while_running config place v x).state
unfolding made_while_running made_by_datagram
event_sound config tokens place x h (Client client moment text) = ruled_sound tokens place x client moment (without_lf text) h (ruling_at config x client moment text)
event_sound config tokens place x h (Peer from None) = h
event_sound config tokens place x h (Peer from (Some l)) =
    let s = on_message place from l.message x.content x.voter in
    cond_both (is_heard config place from l) (made_by_vote x.owners None s x) (quiet_made x) (λ (o : Made). Sound tokens o.state)
    (λ _. voted_sound tokens x x.owners None s h (message_kept tokens place from l.message x.content x.voter)) (λ _. h)
event_sound config tokens place x h Tick = voted_sound tokens x x.owners None (tick place x.content x.voter) h (tick_kept tokens place x.content x.voter)

-- ---- worlds

abbrev pub AllSound : ℕ → World → Type 0
AllSound tokens w = (i : ℕ) → Sound tokens (w.nodes i)

set_sound : (tokens i : ℕ) (x : NodeState) (nodes : ℕ → NodeState) → ((j : ℕ) → Sound tokens (nodes j)) → Sound tokens x → (j : ℕ) → Sound tokens (with_state i x nodes j)
set_sound tokens i x nodes h k j = cond_both (eqb j i) x (nodes j) (λ y. Sound tokens y) (λ _. k) (λ _. h j)

pub turned_sound : (config : Config) (tokens e i : ℕ) (o : Option NodeEvent) (w : World) → AllSound tokens w → AllSound tokens (world_after_turn config e i o w)
unfolding world_after_turn made_by_event world_with_made
turned_sound config tokens e i None w h = h
turned_sound config tokens e i (Some v) w h =
    let place = place_at w i in
    let x = w.nodes i in
    cond_both (has_store w i) (world_with_made e i (made_by_event config place v x) w) w (λ z. AllSound tokens z)
    (λ _. set_sound tokens i (made_by_event config place v x).state w.nodes h
    (cond_both x.running (made_while_running config place v x) (quiet_made x) (λ (o : Made). Sound tokens o.state) (λ _. event_sound config tokens place x (h i) v) (λ _. h i)))
    (λ _. h)

reopened_sound : (tokens : ℕ) (x : NodeState) → Sound tokens x → Sound tokens (restarted_node x)
reopened_sound tokens x h =
    cond_both {A = NodeState} (ltb x.content.boot last_boot) _ (stopped_node x) (λ y. Sound tokens y)
    (λ _. record { kept = record { size = h.kept.size; lies = h.kept.lies; turn = inr refl }; owned = tt }) (λ _. record { kept = h.kept; owned = h.owned })

pub restart_sound : (tokens : ℕ) (o : Option ℕ) (w : World) → AllSound tokens w → AllSound tokens (world_after_restart o w)
unfolding world_after_restart
restart_sound tokens None w h = h
restart_sound tokens (Some i) w h = cond_both {A = World} (has_store w i) _ w (λ z. AllSound tokens z) (λ _. set_sound tokens i (restarted_node (w.nodes i)) w.nodes h (reopened_sound tokens (w.nodes i) (h i))) (λ _. h)

loss_sound : (tokens i : ℕ) (w : World) → AllSound tokens w → AllSound tokens (world_after_loss i w)
unfolding world_after_loss
loss_sound tokens i w h =
    cond_both {A = World} (has_store w i) _ w (λ z. AllSound tokens z)
    (λ _. set_sound tokens i (lost_node (w.nodes i)) w.nodes h (record { kept = record { size = (h i).kept.size; lies = (h i).kept.lies; turn = inr refl }; owned = tt })) (λ _. h)

opening_lies : (k : ℕ) (floor : ℕ → ℕ) → Each Lies (opening_rows k floor)
opening_lies zero floor = tt
opening_lies (suc k) floor = each_append Lies (opening_rows k floor) _ (opening_lies k floor) (tt, tt)

opening_sound : (tokens boot k : ℕ) (floor : ℕ → ℕ) → k ≡ tokens → Sound tokens (opening_node boot k floor)
opening_sound tokens boot k floor same = record { kept = record { size = opening_size k floor ∙ same; lies = opening_lies k floor; turn = inr refl }; owned = tt }

anew_sound : (tokens e i boot : ℕ) (floor : ℕ → ℕ) (w : World) → AllSound tokens w → AllSound tokens (world_after_anew e i boot floor w)
unfolding world_after_anew
anew_sound tokens e i boot floor w h =
    let k = length (w.nodes i).content.rows in
    cond_both {A = World} (may_be_anew w i boot floor) _ w (λ z. AllSound tokens z)
    (λ _. set_sound tokens i (opening_node boot k floor) w.nodes h (opening_sound tokens boot k floor (h i).kept.size)) (λ _. h)

pub happens_sound : (config : Config) (tokens e : ℕ) (x : WorldEvent) (w : World) → AllSound tokens w → AllSound tokens (world_after_event config e x w)
unfolding world_after_event world_after_act
happens_sound config tokens e (Happens a) w h = turned_sound config tokens e (acting_node a) (node_event_of w.sent a) w h
happens_sound config tokens e (Cut true a) w h = restart_sound tokens (node_of a w) (with_told_of w (world_after_act config e a w)) (turned_sound config tokens e (acting_node a) (node_event_of w.sent a) w h)
happens_sound config tokens e (Cut false a) w h = restart_sound tokens (node_of a w) w h
happens_sound config tokens e (Restart i) w h = restart_sound tokens (Some i) w h
happens_sound config tokens e (Lost i) w h = loss_sound tokens i w h
happens_sound config tokens e (Anew i boot floors) w h = anew_sound tokens e i boot (floor_in floors) w h

pub run_sound : (config : Config) (tokens e : ℕ) (xs : List WorldEvent) (w : World) → AllSound tokens w → AllSound tokens (world_after_events config e xs w)
unfolding world_after_events
run_sound config tokens e [] w h = h
run_sound config tokens e (x ∷ xs) w h = run_sound config tokens (suc e) xs (world_after_event config e x w) (happens_sound config tokens e x w h)

pub start_sound : (config : Config) (start : Start) → AllSound (length config.book) (opening_world config start)
start_sound config start i = opening_sound (length config.book) (start.opening.boot i) (length config.book) (start.opening.floor i) refl

-- with nothing pending nobody owns anything
pub no_owners : (tokens : ℕ) (x : NodeState) → Sound tokens x → x.voter.pending ≡ [] → x.owners ≡ []
no_owners tokens x h none = empty x.owners (subst (λ qs. Each (λ (o : Owner). is_pending qs o.seq ≡ true) x.owners) none h.owned)
  where
    empty : (os : List Owner) → Each (λ (o : Owner). is_pending [] o.seq ≡ true) os → os ≡ []
    empty [] k = refl
    empty (o ∷ os) k = absurd (false≢true k.0)
